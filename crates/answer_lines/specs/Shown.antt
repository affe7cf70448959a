-- How an answer is shown as a line. Definitions only: nothing is assumed.
use Rattle.std.specs.Prelude.{ℕ, List, [], ◌∷◌, ◌++◌, codes, decimal}
use Rattle.std.specs.List.{flat_map}
use Rattle.firm.specs.Stock.{Lot}
use Rattle.firm.specs.Ledger.{Entry}
use Rattle.firm.specs.Calls.{Answer, refused, number, two, lots, entries}

-- two numbers, and four, with spaces between
abbrev pub shown_two : ℕ → ℕ → List ℕ
shown_two a b = decimal a ++ (codes " " ++ decimal b)

abbrev pub shown_four : ℕ → ℕ → ℕ → ℕ → List ℕ
shown_four a b c d = shown_two a b ++ (codes " " ++ shown_two c d)

-- a lot: item, pieces, cost, document
abbrev pub shown_lot : Lot → List ℕ
shown_lot l = shown_four l.item l.pieces l.cost l.from

-- an entry: left, right, amount, document
abbrev pub shown_entry : Entry → List ℕ
shown_entry e = shown_four e.on_left e.on_right e.amount e.document

-- a list with commas between, or `none`
abbrev pub shown_list : {A : Type 0} → (A → List ℕ) → List A → List ℕ
shown_list show [] = codes "none"
shown_list show (x ∷ xs) = show x ++ flat_map (λ y. codes ", " ++ show y) xs

-- a refusal: which, and the place that it names
abbrev pub shown_refusal : ℕ → ℕ → List ℕ
shown_refusal n k = codes "refused " ++ (decimal n ++ (codes " at " ++ decimal k))

unfoldable pub shown : Answer → List ℕ
shown (refused n k) = shown_refusal n k
shown (number n) = decimal n
shown (two a b) = shown_two a b
shown (lots ls) = shown_list shown_lot ls
shown (entries es) = shown_list shown_entry es

-- each answer is a line
abbrev pub shown_line : Answer → List ℕ
shown_line a = shown a ++ 10 ∷ []
