-- What holds of the calls that lines are. Assumes nothing.
use Rattle.std.proofs.Common.{◌≡◌, ℕ, ◌-◌, ◌^◌, ◌<◌, true, ◌&&◌, ltb, List, [], ◌∷◌, ◌++◌, length, Ok, codes, decimal, Result, ap, ◌∙◌, arith}
use Rattle.std.specs.Result.{result_map_both}
use Rattle.std.proofs.lemmas.Bool.{and_parts, ltb-true}
use Rattle.words.specs.Readers.{Read, then, keyword}
use Rattle.words.proofs.ReadBack.{then_reads}
use Rattle.openings.specs.Openings.{opening}
use Rattle.firm.specs.Stock.{Part}
use Rattle.firm.specs.Calls.{Call, buys, sells, comes, goes, billed_by, bills, pays_out, pays_in, made_of, makes, counted, stock_of, account, order, lots_of, entries_from, garbled, field, readable, readable_parts, call_number}
use Rattle.call_lines.specs.Numbers.{one, two, three}
use Rattle.call_lines.specs.Recipes.{head, parts}
use Rattle.call_lines.specs.Lines.{of_one, of_two, of_three, recipe, call_after, call_or_rest, call_or_place}
use Rattle.call_lines.specs.Written.{written_two, written_three, written_parts, line_of_call}
use Rattle.call_lines.specs.Statements.{LineComesBack}
use Rattle.call_lines.proofs.NumberTrips.{one_reads, two_reads, three_reads}
use Rattle.call_lines.proofs.RecipeTrips.{SmallParts, parts_read, head_reads}

-- numbers that fields can carry
small : (n : ℕ) → field n ≡ true → n < 2 ^ 64
small n h = ltb-true n 18446744073709551616 h

small_parts : (ps : List Part) → readable_parts ps ≡ true → SmallParts ps
unfolding readable_parts
small_parts [] h = tt
small_parts (p ∷ ps) h =
    let a = and_parts (field p.item && field p.each) (readable_parts ps) h in
    let b = and_parts (field p.item) (field p.each) a.0 in
    (small p.item b.0, small p.each b.1, small_parts ps a.1)

of_one_reads : (f : ℕ → Call) (a : ℕ) → field a ≡ true → of_one f (codes " " ++ decimal a) ≡ Ok (f a)
of_one_reads f a h = then_reads (one (codes " " ++ decimal a)) a (λ x. Ok (f x)) (one_reads a (small a h))

of_two_reads : (f : ℕ → ℕ → Call) (a b : ℕ) → (field a && field b) ≡ true → of_two f (codes " " ++ written_two a b) ≡ Ok (f a b)
of_two_reads f a b h =
    let p = and_parts (field a) (field b) h in
    then_reads (two (codes " " ++ written_two a b)) (a, b) (λ x. Ok (f x.0 x.1)) (two_reads a b (small a p.0) (small b p.1))

of_three_reads : (f : ℕ → ℕ → ℕ → Call) (a b c : ℕ) → (field a && (field b && field c)) ≡ true → of_three f (codes " " ++ written_three a b c) ≡ Ok (f a b c)
of_three_reads f a b c h =
    let p = and_parts (field a) (field b && field c) h in
    let q = and_parts (field b) (field c) p.1 in
    then_reads (three (codes " " ++ written_three a b c)) (a, b, c) (λ x. Ok (f x.0 x.1 x.2)) (three_reads a b c (small a p.0) (small b q.0) (small c q.1))

recipe_reads : (i : ℕ) (ps : List Part) → (field i && (readable_parts ps && ltb (length ps) 256)) ≡ true → recipe (codes " " ++ (decimal i ++ (codes ":" ++ written_parts ps))) ≡ Ok (made_of i ps)
recipe_reads i ps h =
    let a = and_parts (field i) (readable_parts ps && ltb (length ps) 256) h in
    let b = and_parts (readable_parts ps) (ltb (length ps) 256) a.1 in
    then_reads (head (codes " " ++ (decimal i ++ (codes ":" ++ written_parts ps)))) (i, written_parts ps) (λ x. then (parts 255 [] x.1) (λ qs. Ok (made_of x.0 qs))) (head_reads i (written_parts ps) (small i a.0))
    ∙ then_reads (parts 255 [] (written_parts ps)) ps (λ qs. Ok (made_of i qs)) (parts_read ps (small_parts ps b.0) (omega (arith, ltb-true (length ps) 256 b.1)))

-- a line whose first words are read by computing
abbrev placed : List ℕ → Read Call → Result Call ℕ
placed line r = result_map_both (λ c. c) (λ (rest : List ℕ). length line - length rest) r

pub line_comes_back : LineComesBack
unfolding call_or_place call_or_rest opening keyword call_after readable call_number
line_comes_back (buys i q p) h = ap (placed (line_of_call (buys i q p))) (of_three_reads buys i q p h.1)
line_comes_back (sells i q p) h = ap (placed (line_of_call (sells i q p))) (of_three_reads sells i q p h.1)
line_comes_back (comes o q) h = ap (placed (line_of_call (comes o q))) (of_two_reads comes o q h.1)
line_comes_back (goes o q) h = ap (placed (line_of_call (goes o q))) (of_two_reads goes o q h.1)
line_comes_back (billed_by o q x) h = ap (placed (line_of_call (billed_by o q x))) (of_three_reads billed_by o q x h.1)
line_comes_back (bills o q) h = ap (placed (line_of_call (bills o q))) (of_two_reads bills o q h.1)
line_comes_back (pays_out x) h = ap (placed (line_of_call (pays_out x))) (of_one_reads pays_out x h.1)
line_comes_back (pays_in x) h = ap (placed (line_of_call (pays_in x))) (of_one_reads pays_in x h.1)
line_comes_back (made_of i ps) h = ap (placed (line_of_call (made_of i ps))) (recipe_reads i ps h.1)
line_comes_back (makes i q) h = ap (placed (line_of_call (makes i q))) (of_two_reads makes i q h.1)
line_comes_back (counted i q) h = ap (placed (line_of_call (counted i q))) (of_two_reads counted i q h.1)
line_comes_back (stock_of i) h = ap (placed (line_of_call (stock_of i))) (of_one_reads stock_of i h.1)
line_comes_back (account a) h = ap (placed (line_of_call (account a))) (of_one_reads account a h.1)
line_comes_back (order o) h = ap (placed (line_of_call (order o))) (of_one_reads order o h.1)
line_comes_back (lots_of i) h = ap (placed (line_of_call (lots_of i))) (of_one_reads lots_of i h.1)
line_comes_back (entries_from n k) h = ap (placed (line_of_call (entries_from n k))) (of_two_reads entries_from n k h.1)
line_comes_back (garbled n) h = absurd (let f : 255 < 16 = h.0 in omega arith)
