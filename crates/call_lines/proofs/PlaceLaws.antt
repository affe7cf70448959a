-- The place where a line ceases to be a call: a word begins there, or the line ends. Assumes nothing.
use Rattle.std.proofs.Common.{◌≡◌, ℕ, zero, suc, ◌-◌, ◌≤◌, eqb, List, [], ◌∷◌, ◌++◌, length, drop, Ok, Err, codes, sym, ap, ◌∙◌, arith}
use Rattle.std.specs.Result.{result_map_both}
use Rattle.std.proofs.lemmas.List.{length-drop}
use Rattle.words.specs.Words.{trimmed}
use Rattle.words.specs.Readers.{Read, then, number, keyword, mark, end}
use Rattle.words.proofs.Tails.{Stops, Leaves, tail_same, tail_none, leaves_then, leaves_if, number_leaves, keyword_leaves, mark_leaves, end_leaves}
use Rattle.wire.specs.declared.call_kind.CallKind.{CallKind}
use Rattle.wire.specs.declared.call_kind.CallKind.TheVariants.{Buys, Sells, Comes, Goes, BilledBy, Bills, PaysOut, PaysIn, MadeOf, Makes, Counted, StockOf, Account, Order, LotsOf, EntriesFrom}
use Rattle.openings.specs.Openings.{opening}
use Rattle.openings.proofs.OpeningTails.{opening_leaves}
use Rattle.firm.specs.Stock.{Part}
use Rattle.firm.specs.Calls.{Call, buys, sells, comes, goes, billed_by, bills, pays_out, pays_in, made_of, makes, counted, stock_of, account, order, lots_of, entries_from}
use Rattle.call_lines.specs.Numbers.{one, two, three}
use Rattle.call_lines.specs.Recipes.{head, part, next_part, if_ended, part_of, parts}
use Rattle.call_lines.specs.Lines.{recipe, call_after, call_or_rest, call_or_place}
use Rattle.call_lines.specs.Statements.{PlacesAtWords}

-- a reader that leaves an end part of the line, and one that reads up to its end
abbrev GoesOn : {X : Type 0} → List ℕ → Read (X × List ℕ) → Type 0
GoesOn s r = Leaves (λ p. p.1) s r

abbrev ToEnd : {X : Type 0} → List ℕ → Read X → Type 0
ToEnd s r = Leaves (λ _. []) s r

one_leaves : (s : List ℕ) → ToEnd s (one s)
unfolding one
one_leaves s = leaves_then (λ p. p.1) (λ _. []) s (number s) _ (number_leaves s) (λ a. leaves_then (λ _. []) (λ _. []) a.1 (end a.1) (λ _. Ok a.0) (end_leaves a.1) (λ _. tail_none []))

two_leaves : (s : List ℕ) → ToEnd s (two s)
unfolding two
two_leaves s = leaves_then (λ p. p.1) (λ _. []) s (number s) _ (number_leaves s) (λ a. leaves_then (λ _. []) (λ _. []) a.1 (one a.1) (λ b. Ok (a.0, b)) (one_leaves a.1) (λ _. tail_none []))

three_leaves : (s : List ℕ) → ToEnd s (three s)
unfolding three
three_leaves s = leaves_then (λ p. p.1) (λ _. []) s (number s) _ (number_leaves s) (λ a. leaves_then (λ _. []) (λ _. []) a.1 (two a.1) (λ b. Ok (a.0, b.0, b.1)) (two_leaves a.1) (λ _. tail_none []))

head_leaves : (s : List ℕ) → GoesOn s (head s)
unfolding head
head_leaves s = leaves_then (λ p. p.1) (λ p. p.1) s (number s) _ (number_leaves s) (λ i. leaves_then (λ t. t) (λ p. p.1) i.1 (mark 58 i.1) (λ t. Ok (i.0, t)) (mark_leaves 58 i.1) (λ t. tail_same t))

part_leaves : (s : List ℕ) → GoesOn s (part s)
unfolding part
part_leaves s =
    leaves_then (λ t. t) (λ p. p.1) s (keyword (codes "item") s) _ (keyword_leaves (codes "item") s)
    (λ t. leaves_then (λ p. p.1) (λ p. p.1) t (number t) _ (number_leaves t)
    (λ a. leaves_then (λ u. u) (λ p. p.1) a.1 (mark 44 a.1) _ (mark_leaves 44 a.1)
    (λ u. leaves_then (λ p. p.1) (λ p. p.1) u (number u) _ (number_leaves u)
    (λ b. leaves_then (λ v. v) (λ p. p.1) b.1 (keyword (codes "each") b.1) (λ v. Ok ((a.0, b.0), v)) (keyword_leaves (codes "each") b.1) (λ v. tail_same v)))))

next_leaves : (n : ℕ) (s : List ℕ) → GoesOn s (next_part n s)
unfolding next_part
next_leaves n s =
    leaves_if (λ p. p.1) s (eqb n 0) (part s) (then (mark 44 s) part) (part_leaves s) (leaves_then (λ t. t) (λ p. p.1) s (mark 44 s) part (mark_leaves 44 s) (λ t. part_leaves t))

ended_leaves : {X : Type 0} (s : List ℕ) (e : Read (Unit {0})) (r t : Read X) → ToEnd s r → ToEnd s t → ToEnd s (if_ended e r t)
ended_leaves s (Ok u) r t h k = h
ended_leaves s (Err x) r t h k = k

parts_leave : (k : ℕ) (got : List Part) (s : List ℕ) → ToEnd s (parts k got s)
unfolding parts
parts_leave zero got s = leaves_then (λ _. []) (λ _. []) s (end s) (λ _. Ok got) (end_leaves s) (λ _. tail_none [])
parts_leave (suc k) got s =
    ended_leaves s (end s) (Ok got) (then (next_part (length got) s) (λ p. parts k (got ++ part_of p.0 ∷ []) p.1)) (tail_none s)
    (leaves_then (λ p. p.1) (λ _. []) s (next_part (length got) s) (λ p. parts k (got ++ part_of p.0 ∷ []) p.1) (next_leaves (length got) s) (λ p. parts_leave k (got ++ part_of p.0 ∷ []) p.1))

-- THE CALLS
built : {X : Type 0} (s : List ℕ) (r : Read X) (f : X → Call) → ToEnd s r → ToEnd s (then r (λ x. Ok (f x)))
built s r f h = leaves_then (λ _. []) (λ _. []) s r (λ x. Ok (f x)) h (λ _. tail_none [])

recipe_leaves : (s : List ℕ) → ToEnd s (recipe s)
recipe_leaves s = leaves_then (λ p. p.1) (λ _. []) s (head s) _ (head_leaves s) (λ h. built h.1 (parts 255 [] h.1) (λ ps. made_of h.0 ps) (parts_leave 255 [] h.1))

after_leaves : (k : CallKind) (s : List ℕ) → ToEnd s (call_after k s)
unfolding call_after
after_leaves Buys s = built s (three s) (λ p. buys p.0 p.1 p.2) (three_leaves s)
after_leaves Sells s = built s (three s) (λ p. sells p.0 p.1 p.2) (three_leaves s)
after_leaves Comes s = built s (two s) (λ p. comes p.0 p.1) (two_leaves s)
after_leaves Goes s = built s (two s) (λ p. goes p.0 p.1) (two_leaves s)
after_leaves BilledBy s = built s (three s) (λ p. billed_by p.0 p.1 p.2) (three_leaves s)
after_leaves Bills s = built s (two s) (λ p. bills p.0 p.1) (two_leaves s)
after_leaves PaysOut s = built s (one s) pays_out (one_leaves s)
after_leaves PaysIn s = built s (one s) pays_in (one_leaves s)
after_leaves MadeOf s = recipe_leaves s
after_leaves Makes s = built s (two s) (λ p. makes p.0 p.1) (two_leaves s)
after_leaves Counted s = built s (two s) (λ p. counted p.0 p.1) (two_leaves s)
after_leaves StockOf s = built s (one s) stock_of (one_leaves s)
after_leaves Account s = built s (one s) account (one_leaves s)
after_leaves Order s = built s (one s) order (one_leaves s)
after_leaves LotsOf s = built s (one s) lots_of (one_leaves s)
after_leaves EntriesFrom s = built s (two s) (λ p. entries_from p.0 p.1) (two_leaves s)

line_leaves : (line : List ℕ) → ToEnd line (call_or_rest line)
unfolding call_or_rest
line_leaves line = leaves_then (λ p. p.1) (λ _. []) line (opening line) (λ p. call_after p.0 p.1) (opening_leaves line) (λ p. after_leaves p.0 p.1)

-- where what is left begins
begins_at : (line rest : List ℕ) → Stops line rest → (n : ℕ) → length line - length rest ≡ n → (n ≤ length line) × (trimmed (drop n line) ≡ drop n line)
begins_at line rest h n e =
    let l : length rest ≡ length line - h.tail.from = ap length h.tail.is ∙ length-drop h.tail.from line in
    let w : h.tail.from ≤ length line = h.tail.within in
    let m : h.tail.from ≡ n = omega arith in
    let d : rest ≡ drop n line = h.tail.is ∙ ap (λ (k : ℕ). drop k line) m in
    (omega arith, ap trimmed (sym d) ∙ h.word ∙ d)

placed_at : (line : List ℕ) (r : Read Call) (n : ℕ) → ToEnd line r → result_map_both (λ c. c) (λ (rest : List ℕ). length line - length rest) r ≡ Err n → (n ≤ length line) × (trimmed (drop n line) ≡ drop n line)
placed_at line (Ok c) n h e = absurd (let z : ◌≡◌ {A = ℕ} 0 1 = cc in omega arith)
placed_at line (Err rest) n h e = begins_at line rest h n (cc)

pub places_at_words : PlacesAtWords
unfolding call_or_place
places_at_words line n e = placed_at line (call_or_rest line) n (line_leaves line) e
