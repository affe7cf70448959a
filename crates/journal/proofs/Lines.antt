-- Reading the lines of calls gives the calls again. Assumes nothing.
use Rattle.std.proofs.Common.{◌≡◌, ℕ, zero, suc, ◌<◌, Bool, true, false, not, ◌&&◌, eqb, ltb, List, [], ◌∷◌, ◌++◌, length, codes, decimal, refl, sym, ap, ◌∙◌, append_assoc, append-nil, arith, slice_index, cond, inl, inr}
use mathlib.Core.List.{map-append}
use Rattle.std.specs.Char.{is_ascii_digit}
use Rattle.std.specs.Str.{all_ascii_digits}
use Rattle.std.specs.List.{flat_map, list_all}
use Rattle.std.proofs.lemmas.Bool.{cond-false, and_parts, and_from, not-true, ltb-true}
use Rattle.std.proofs.lemmas.Bool.Decides.{nat_tests}
use Rattle.std.proofs.lemmas.List.Folds.{list_all-append}
use Rattle.firm.specs.Stock.{Part}
use Rattle.firm.specs.Calls.{Call, buys, sells, comes, goes, billed_by, bills, pays_out, pays_in, made_of, makes, counted, stock_of, account, order, lots_of, entries_from, garbled, call_number, field, readable, readable_parts}
use Rattle.wire.specs.Calls.{Sendable, or_garbled}
use Rattle.words.proofs.ReadBack.{decimal_digits}
use Rattle.call_lines.specs.Lines.{call_in_line}
use Rattle.call_lines.specs.Written.{written_two, written_three, written_part, another_part, written_parts, line_of_call}
use Rattle.call_lines.proofs.LineLaws.{line_comes_back}
use Rattle.text.specs.Lines.{lines_after, lines, bare, quiet, heard, lines_of_calls}
use Rattle.text.specs.Run.{calls_in, calls}
use Rattle.text.proofs.Splitting.{call_lines_add}
use Rattle.journal.specs.Documents.{document_lines}
use Rattle.journal.specs.Keeping.{}
use Rattle.journal.specs.Torn.{Whole}
use Rattle.journal.specs.Statements.{LinesComeBack}

-- a byte within a line: neither a line feed nor a carriage return
abbrev pub inside : ℕ → Bool
inside c = not (eqb c 10) && not (eqb c 13)

abbrev pub Inside : List ℕ → Type 0
Inside xs = list_all inside xs ≡ true

both_inside : (xs ys : List ℕ) → Inside xs → Inside ys → Inside (xs ++ ys)
both_inside xs ys h k = list_all-append inside xs ys ∙ and_from (list_all inside xs) (list_all inside ys) h k

-- numbers
digit_inside : (c : ℕ) → is_ascii_digit c ≡ true → inside c ≡ true
digit_inside c h = grind (arith, nat_tests)

digits_inside : (ds : List ℕ) → all_ascii_digits ds ≡ true → Inside ds
digits_inside [] h = refl
digits_inside (c ∷ cs) h =
    let p = and_parts (is_ascii_digit c) (all_ascii_digits cs) h in
    and_from (inside c) (list_all inside cs) (digit_inside c p.0) (digits_inside cs p.1)

pub number_inside : (n : ℕ) → field n ≡ true → Inside (decimal n)
number_inside n h = digits_inside (decimal n) (decimal_digits n (ltb-true n 18446744073709551616 h))

two_inside : (a b : ℕ) → (field a && field b) ≡ true → Inside (written_two a b)
two_inside a b h =
    let p = and_parts (field a) (field b) h in
    both_inside (decimal a) (codes " " ++ decimal b) (number_inside a p.0) (both_inside (codes " ") (decimal b) refl (number_inside b p.1))

three_inside : (a b c : ℕ) → (field a && (field b && field c)) ≡ true → Inside (written_three a b c)
three_inside a b c h =
    let p = and_parts (field a) (field b && field c) h in
    both_inside (decimal a) (codes " " ++ written_two b c) (number_inside a p.0) (both_inside (codes " ") (written_two b c) refl (two_inside b c p.1))

-- parts of recipes
part_inside : (p : Part) → (field p.item && field p.each) ≡ true → Inside (written_part p)
part_inside p h =
    let k = and_parts (field p.item) (field p.each) h in
    let E : List ℕ = decimal p.each ++ codes " each" in
    both_inside (codes " item ") (decimal p.item ++ (codes ", " ++ E)) refl
    (both_inside (decimal p.item) (codes ", " ++ E) (number_inside p.item k.0)
    (both_inside (codes ", ") E refl (both_inside (decimal p.each) (codes " each") (number_inside p.each k.1) refl)))

others_inside : (ps : List Part) → readable_parts ps ≡ true → Inside (flat_map another_part ps)
unfolding readable_parts
others_inside [] h = refl
others_inside (p ∷ ps) h =
    let k = and_parts (field p.item && field p.each) (readable_parts ps) h in
    both_inside (another_part p) (flat_map another_part ps) (both_inside (codes ",") (written_part p) refl (part_inside p k.0)) (others_inside ps k.1)

parts_inside : (ps : List Part) → readable_parts ps ≡ true → Inside (written_parts ps)
unfolding readable_parts
parts_inside [] h = refl
parts_inside (p ∷ ps) h =
    let k = and_parts (field p.item && field p.each) (readable_parts ps) h in
    both_inside (written_part p) (flat_map another_part ps) (part_inside p k.0) (others_inside ps k.1)

-- A CALL'S LINE is one line, and neither blank nor a remark
line_inside : (c : Call) → Sendable c → Inside (line_of_call c)
unfolding readable call_number
line_inside (buys i q p) h = both_inside (codes "buys ") (written_three i q p) refl (three_inside i q p h.1)
line_inside (sells i q p) h = both_inside (codes "sells ") (written_three i q p) refl (three_inside i q p h.1)
line_inside (comes o q) h = both_inside (codes "comes ") (written_two o q) refl (two_inside o q h.1)
line_inside (goes o q) h = both_inside (codes "goes ") (written_two o q) refl (two_inside o q h.1)
line_inside (billed_by o q x) h = both_inside (codes "billed by ") (written_three o q x) refl (three_inside o q x h.1)
line_inside (bills o q) h = both_inside (codes "bills ") (written_two o q) refl (two_inside o q h.1)
line_inside (pays_out x) h = both_inside (codes "pays out ") (decimal x) refl (number_inside x h.1)
line_inside (pays_in x) h = both_inside (codes "pays in ") (decimal x) refl (number_inside x h.1)
line_inside (made_of i ps) h =
    let a = and_parts (field i) (readable_parts ps && ltb (length ps) 256) h.1 in
    let b = and_parts (readable_parts ps) (ltb (length ps) 256) a.1 in
    both_inside (codes "made of ") (decimal i ++ (codes ":" ++ written_parts ps)) refl
    (both_inside (decimal i) (codes ":" ++ written_parts ps) (number_inside i a.0) (both_inside (codes ":") (written_parts ps) refl (parts_inside ps b.0)))
line_inside (makes i q) h = both_inside (codes "makes ") (written_two i q) refl (two_inside i q h.1)
line_inside (counted i q) h = both_inside (codes "counted ") (written_two i q) refl (two_inside i q h.1)
line_inside (stock_of i) h = both_inside (codes "stock of ") (decimal i) refl (number_inside i h.1)
line_inside (account a) h = both_inside (codes "account ") (decimal a) refl (number_inside a h.1)
line_inside (order o) h = both_inside (codes "order ") (decimal o) refl (number_inside o h.1)
line_inside (lots_of i) h = both_inside (codes "lots of ") (decimal i) refl (number_inside i h.1)
line_inside (entries_from n k) h = both_inside (codes "entries from ") (written_two n k) refl (two_inside n k h.1)
line_inside (garbled n) h = absurd (let f : 255 < 16 = h.0 in omega arith)

line_not_quiet : (c : Call) → Sendable c → quiet (line_of_call c) ≡ false
unfolding call_number
line_not_quiet (buys i q p) h = refl
line_not_quiet (sells i q p) h = refl
line_not_quiet (comes o q) h = refl
line_not_quiet (goes o q) h = refl
line_not_quiet (billed_by o q x) h = refl
line_not_quiet (bills o q) h = refl
line_not_quiet (pays_out x) h = refl
line_not_quiet (pays_in x) h = refl
line_not_quiet (made_of i ps) h = refl
line_not_quiet (makes i q) h = refl
line_not_quiet (counted i q) h = refl
line_not_quiet (stock_of i) h = refl
line_not_quiet (account a) h = refl
line_not_quiet (order o) h = refl
line_not_quiet (lots_of i) h = refl
line_not_quiet (entries_from n k) h = refl
line_not_quiet (garbled n) h = absurd (let f : 255 < 16 = h.0 in omega arith)

no_return : (xs : List ℕ) (k : ℕ) → Inside xs → eqb (slice_index xs k) 13 ≡ false
no_return [] k h = refl
no_return (x ∷ xs) zero h = not-true (eqb x 13) (and_parts (not (eqb x 10)) (not (eqb x 13)) (and_parts (inside x) (list_all inside xs) h).0).1
no_return (x ∷ xs) (suc k) h = no_return xs k (and_parts (inside x) (list_all inside xs) h).1

one_line : (l xs rest : List ℕ) → Inside xs → lines_after l (xs ++ 10 ∷ rest) ≡ (l ++ xs) ∷ lines rest
one_line l [] rest h = ap (λ (x : List ℕ). x ∷ lines rest) (sym (append-nil l))
one_line l (c ∷ cs) rest h =
    let p = and_parts (inside c) (list_all inside cs) h in
    cond-false (eqb c 10) (l ∷ lines_after [] (cs ++ 10 ∷ rest)) (lines_after (l ++ c ∷ []) (cs ++ 10 ∷ rest)) (not-true (eqb c 10) (and_parts (not (eqb c 10)) (not (eqb c 13)) p.0).0)
    ∙ one_line (l ++ c ∷ []) cs rest p.1 ∙ ap (λ (x : List ℕ). x ∷ lines rest) (append_assoc l (c ∷ []) cs)

line_heard : (c : Call) → Sendable c → heard (line_of_call c) ≡ line_of_call c ∷ []
line_heard c h =
    let L : List ℕ = line_of_call c in
    let b : bare L ≡ L = cond-false _ _ _ (no_return L _ (line_inside c h)) in
    ap (λ (x : List ℕ). heard_as x) b ∙ cond-false (quiet L) [] (L ∷ []) (line_not_quiet c h)
  where
    heard_as : List ℕ → List (List ℕ)
    heard_as x = cond (quiet x) [] (x ∷ [])

pub lines_come_back : LinesComeBack
lines_come_back [] h = refl
lines_come_back (c ∷ cs) h =
    let L : List ℕ = line_of_call c in
    let text : document_lines (c ∷ cs) ≡ L ++ 10 ∷ document_lines cs = append_assoc L (10 ∷ []) (document_lines cs) in
    ap calls text
    ∙ ap (λ (ls : List (List ℕ)). calls_in (flat_map heard ls)) (one_line [] L (document_lines cs) (line_inside c h.0))
    ∙ ap (λ (ls : List (List ℕ)). calls_in (ls ++ lines_of_calls (document_lines cs))) (line_heard c h.0)
    ∙ ap (λ (d : Call). d ∷ calls (document_lines cs)) (ap or_garbled (line_comes_back c h.0))
    ∙ ap (λ (ds : List Call). c ∷ ds) (lines_come_back cs h.1)

-- whole lines have their calls, whatever stands behind them
pub whole_then : (text more : List ℕ) → Whole text → calls (text ++ more) ≡ calls text ++ calls more
whole_then text more (inl e) = ap (λ (x : List ℕ). calls (x ++ more)) e ∙ ap (λ (x : List ℕ). calls x ++ calls more) (sym e)
whole_then text more (inr (front, e)) =
    ap (λ (x : List ℕ). calls (x ++ more)) e ∙ ap calls (append_assoc front (10 ∷ []) more) ∙ calls_add front more
    ∙ ap (λ (x : List Call). x ++ calls more) (sym (append-nil (calls front)) ∙ sym (calls_add front []) ∙ ap calls (sym e))
  where
    calls_add : (a b : List ℕ) → calls (a ++ 10 ∷ b) ≡ calls a ++ calls b
    calls_add a b = ap calls_in (call_lines_add a b) ∙ map-append call_in_line (lines_of_calls a) (lines_of_calls b)
