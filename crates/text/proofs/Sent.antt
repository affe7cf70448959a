-- A line that is a call is one that bytes can carry. Assumes nothing.
use Rattle.std.proofs.Common.{◌≡◌, ℕ, ◌-◌, ◌^◌, ◌<◌, true, List, [], length, Ok, Err, Result, sym, ap, ◌∙◌, subst, arith}
use Rattle.std.specs.Result.{result_map_both}
use Rattle.words.specs.Readers.{Read}
use Rattle.words.proofs.Bounds.{Holds, holds_then, holds_any}
use Rattle.wire.specs.declared.call_kind.CallKind.{CallKind}
use Rattle.wire.specs.declared.call_kind.CallKind.TheVariants.{Buys, Sells, Comes, Goes, BilledBy, Bills, PaysOut, PaysIn, MadeOf, Makes, Counted, StockOf, Account, Order, LotsOf, EntriesFrom}
use Rattle.openings.specs.Openings.{opening}
use Rattle.firm.specs.Calls.{Call, buys, sells, comes, goes, billed_by, bills, pays_out, pays_in, made_of, makes, counted, stock_of, account, order, lots_of, entries_from, garbled, call_number, readable}
use Rattle.wire.specs.Calls.{Sendable, or_garbled}
use Rattle.call_lines.specs.Numbers.{one, two, three}
use Rattle.call_lines.specs.Recipes.{head, parts}
use Rattle.call_lines.specs.Lines.{of_one, of_two, of_three, recipe, call_after, call_or_rest, call_or_place, call_in_line}
use Rattle.call_lines.specs.Readings.{reading_of}
use Rattle.call_lines.specs.declared.error.LineError.TheVariants.{Misfit}
use Rattle.call_lines.proofs.ReadableCalls.{lines_readable}

-- a call of the table
abbrev Numbered : Call → Type 0
Numbered c = call_number c < 16

one_numbered : (f : ℕ → Call) (s : List ℕ) → ((a : ℕ) → Numbered (f a)) → Holds Numbered (of_one f s)
one_numbered f s e = holds_then (λ _. Unit {0}) Numbered (one s) (λ a. Ok (f a)) (holds_any (one s)) (λ a _. e a)

two_numbered : (f : ℕ → ℕ → Call) (s : List ℕ) → ((a b : ℕ) → Numbered (f a b)) → Holds Numbered (of_two f s)
two_numbered f s e = holds_then (λ _. Unit {0}) Numbered (two s) (λ p. Ok (f p.0 p.1)) (holds_any (two s)) (λ p _. e p.0 p.1)

three_numbered : (f : ℕ → ℕ → ℕ → Call) (s : List ℕ) → ((a b c : ℕ) → Numbered (f a b c)) → Holds Numbered (of_three f s)
three_numbered f s e = holds_then (λ _. Unit {0}) Numbered (three s) (λ p. Ok (f p.0 p.1 p.2)) (holds_any (three s)) (λ p _. e p.0 p.1 p.2)

recipe_numbered : (s : List ℕ) → Holds Numbered (recipe s)
unfolding call_number
recipe_numbered s =
    holds_then (λ _. Unit {0}) Numbered (head s) _ (holds_any (head s))
    (λ h _. holds_then (λ _. Unit {0}) Numbered (parts 255 [] h.1) (λ ps. Ok (made_of h.0 ps)) (holds_any (parts 255 [] h.1)) (λ ps _. omega arith))

after_numbered : (k : CallKind) (s : List ℕ) → Holds Numbered (call_after k s)
unfolding call_after call_number
after_numbered Buys s = three_numbered buys s (λ a b c. omega arith)
after_numbered Sells s = three_numbered sells s (λ a b c. omega arith)
after_numbered Comes s = two_numbered comes s (λ a b. omega arith)
after_numbered Goes s = two_numbered goes s (λ a b. omega arith)
after_numbered BilledBy s = three_numbered billed_by s (λ a b c. omega arith)
after_numbered Bills s = two_numbered bills s (λ a b. omega arith)
after_numbered PaysOut s = one_numbered pays_out s (λ a. omega arith)
after_numbered PaysIn s = one_numbered pays_in s (λ a. omega arith)
after_numbered MadeOf s = recipe_numbered s
after_numbered Makes s = two_numbered makes s (λ a b. omega arith)
after_numbered Counted s = two_numbered counted s (λ a b. omega arith)
after_numbered StockOf s = one_numbered stock_of s (λ a. omega arith)
after_numbered Account s = one_numbered account s (λ a. omega arith)
after_numbered Order s = one_numbered order s (λ a. omega arith)
after_numbered LotsOf s = one_numbered lots_of s (λ a. omega arith)
after_numbered EntriesFrom s = two_numbered entries_from s (λ a b. omega arith)

read_numbered : (g : List ℕ → ℕ) (r : Read Call) (c : Call) → Holds Numbered r → result_map_both (λ d. d) g r ≡ Ok c → Numbered c
read_numbered g (Ok d) c h e = let same : d ≡ c = cc in subst Numbered same h
read_numbered g (Err rest) c h e = let z : ◌≡◌ {A = ℕ} 0 1 = cc in absurd (omega arith)

line_numbered : (line : List ℕ) (c : Call) → call_or_place line ≡ Ok c → Numbered c
unfolding call_or_place call_or_rest
line_numbered line c e =
    read_numbered (λ rest. length line - length rest) (call_or_rest line) c
    (holds_then (λ _. Unit {0}) Numbered (opening line) (λ p. call_after p.0 p.1) (holds_any (opening line)) (λ p _. after_numbered p.0 p.1)) e

-- WHERE A LINE IS A CALL
pub sendable : (line : List ℕ) (r : Result Call ℕ) → call_or_place line ≡ r → length line < 2 ^ 64 → Ok tt ≡ reading_of r → Sendable (call_in_line line)
sendable line (Ok c) e h is =
    let n : call_number c < 16 = line_numbered line c e in
    let p : readable c ≡ true = subst (λ (x : Result Call ℕ). readable (or_garbled x) ≡ true) e (lines_readable line h) in
    subst (λ (x : Result Call ℕ). Sendable (or_garbled x)) (sym e) (omega arith, p)
sendable line (Err n) e h is = let z : ◌≡◌ {A = ℕ} 0 1 = cc in absurd (omega arith)

-- and where it is none
pub misfit : (line : List ℕ) (r : Result Call ℕ) (n : ℕ) → call_or_place line ≡ r → Err (Misfit n) ≡ reading_of r → call_in_line line ≡ garbled n
misfit line (Ok c) n e is = let z : ◌≡◌ {A = ℕ} 0 1 = cc in absurd (omega arith)
misfit line (Err m) n e is = let same : m ≡ n = cc in ap or_garbled e ∙ ap garbled same
