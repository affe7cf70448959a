-- What a line is has numbers that fields can carry. Assumes nothing.
use Rattle.std.proofs.Common.{◌≡◌, ℕ, zero, suc, ◌+◌, ◌-◌, ◌^◌, ◌<◌, ◌≤◌, Bool, true, false, cond, ◌&&◌, eqb, ltb, List, [], ◌∷◌, ◌++◌, length, Ok, Err, codes, refl, arith, length-append}
use Rattle.std.specs.Result.{result_map_both}
use Rattle.std.proofs.lemmas.Bool.{and_from, and_parts, lt-ltb}
use Rattle.words.specs.Readers.{Read, then, number, keyword, mark, end}
use Rattle.words.proofs.Bounds.{Holds, Small, holds_then, holds_any, number_small}
use Rattle.wire.specs.declared.call_kind.CallKind.{CallKind}
use Rattle.wire.specs.declared.call_kind.CallKind.TheVariants.{Buys, Sells, Comes, Goes, BilledBy, Bills, PaysOut, PaysIn, MadeOf, Makes, Counted, StockOf, Account, Order, LotsOf, EntriesFrom}
use Rattle.openings.specs.Openings.{opening}
use Rattle.wire.specs.Calls.{or_garbled}
use Rattle.firm.specs.Stock.{Part}
use Rattle.firm.specs.Calls.{Call, buys, sells, comes, goes, billed_by, bills, pays_out, pays_in, made_of, makes, counted, stock_of, account, order, lots_of, entries_from, field, readable, readable_parts}
use Rattle.call_lines.specs.Numbers.{one, two, three}
use Rattle.call_lines.specs.Recipes.{head, part, next_part, if_ended, part_of, parts}
use Rattle.call_lines.specs.Lines.{of_one, of_two, of_three, recipe, call_after, call_or_rest, call_or_place}
use Rattle.call_lines.specs.Statements.{LinesReadable}

abbrev PairSmall : ℕ × ℕ → Type 0
PairSmall p = Small p.0 × Small p.1

abbrev TripleSmall : ℕ × ℕ × ℕ → Type 0
TripleSmall p = Small p.0 × Small p.1 × Small p.2

abbrev NumberSmall : ℕ × List ℕ → Type 0
NumberSmall p = Small p.0

one_small : (s : List ℕ) → Holds Small (one s)
unfolding one
one_small s = holds_then NumberSmall Small (number s) _ (number_small s) (λ a h. holds_then (λ _. Unit {0}) Small (end a.1) (λ _. Ok a.0) (holds_any (end a.1)) (λ _ _. h))

two_small : (s : List ℕ) → Holds PairSmall (two s)
unfolding two
two_small s = holds_then NumberSmall PairSmall (number s) _ (number_small s) (λ a h. holds_then Small PairSmall (one a.1) (λ b. Ok (a.0, b)) (one_small a.1) (λ b k. (h, k)))

three_small : (s : List ℕ) → Holds TripleSmall (three s)
unfolding three
three_small s =
    holds_then NumberSmall TripleSmall (number s) _ (number_small s)
    (λ a h. holds_then PairSmall TripleSmall (two a.1) (λ b. Ok (a.0, b.0, b.1)) (two_small a.1) (λ b k. (h, k.0, k.1)))

-- A RECIPE: the parts so far, and those that follow
abbrev PartSmall : (ℕ × ℕ) × List ℕ → Type 0
PartSmall p = PairSmall p.0

head_small : (s : List ℕ) → Holds NumberSmall (head s)
unfolding head
head_small s =
    holds_then NumberSmall NumberSmall (number s) _ (number_small s)
    (λ i h. holds_then (λ _. Unit {0}) NumberSmall (mark 58 i.1) (λ t. Ok (i.0, t)) (holds_any (mark 58 i.1)) (λ _ _. h))

part_small : (s : List ℕ) → Holds PartSmall (part s)
unfolding part
part_small s =
    holds_then (λ _. Unit {0}) PartSmall (keyword (codes "item") s) _ (holds_any (keyword (codes "item") s))
    (λ t _. holds_then NumberSmall PartSmall (number t) _ (number_small t)
    (λ a h. holds_then (λ _. Unit {0}) PartSmall (mark 44 a.1) _ (holds_any (mark 44 a.1))
    (λ u _. holds_then NumberSmall PartSmall (number u) _ (number_small u)
    (λ b k. holds_then (λ _. Unit {0}) PartSmall (keyword (codes "each") b.1) (λ v. Ok ((a.0, b.0), v)) (holds_any (keyword (codes "each") b.1)) (λ _ _. (h, k))))))

holds_either : {X : Type 0} (P : X → Type 0) (b : Bool) (r s : Read X) → Holds P r → Holds P s → Holds P (cond b r s)
holds_either P true r s h k = h
holds_either P false r s h k = k

next_small : (n : ℕ) (s : List ℕ) → Holds PartSmall (next_part n s)
unfolding next_part
next_small n s =
    holds_either PartSmall (eqb n 0) (part s) (then (mark 44 s) part) (part_small s)
    (holds_then (λ _. Unit {0}) PartSmall (mark 44 s) part (holds_any (mark 44 s)) (λ t _. part_small t))

holds_ended : {X : Type 0} (P : X → Type 0) (e : Read (Unit {0})) (r s : Read X) → Holds P r → Holds P s → Holds P (if_ended e r s)
holds_ended P (Ok u) r s h k = h
holds_ended P (Err x) r s h k = k

one_more : (got : List Part) (p : ℕ × ℕ) → readable_parts got ≡ true → PairSmall p → readable_parts (got ++ part_of p ∷ []) ≡ true
unfolding readable_parts
one_more [] p h k = and_from (field p.0 && field p.1) true (and_from (field p.0) (field p.1) k.0 k.1) refl
one_more (q ∷ qs) p h k =
    let a = and_parts (field q.item && field q.each) (readable_parts qs) h in
    and_from (field q.item && field q.each) (readable_parts (qs ++ part_of p ∷ [])) a.0 (one_more qs p a.1 k)

abbrev PartsSmall : List Part → Type 0
PartsSmall ps = (readable_parts ps ≡ true) × (length ps ≤ 255)

parts_small : (k : ℕ) (got : List Part) (s : List ℕ) → readable_parts got ≡ true → length got + k ≤ 255 → Holds PartsSmall (parts k got s)
unfolding parts
parts_small zero got s h l = holds_then (λ _. Unit {0}) PartsSmall (end s) (λ _. Ok got) (holds_any (end s)) (λ _ _. (h, omega arith))
parts_small (suc k) got s h l =
    holds_ended PartsSmall (end s) (Ok got) (then (next_part (length got) s) (λ p. parts k (got ++ part_of p.0 ∷ []) p.1)) (h, omega arith)
    (holds_then PartSmall PartsSmall (next_part (length got) s) (λ p. parts k (got ++ part_of p.0 ∷ []) p.1) (next_small (length got) s)
    (λ p m. parts_small k (got ++ part_of p.0 ∷ []) p.1 (one_more got p.0 h m) (omega (arith, length-append got (part_of p.0 ∷ [])))))

-- THE CALLS
abbrev Readable : Call → Type 0
Readable c = readable c ≡ true

one_readable : (f : ℕ → Call) (s : List ℕ) → ((a : ℕ) → field a ≡ true → Readable (f a)) → Holds Readable (of_one f s)
one_readable f s e = holds_then Small Readable (one s) (λ a. Ok (f a)) (one_small s) e

two_readable : (f : ℕ → ℕ → Call) (s : List ℕ) → ((a b : ℕ) → (field a && field b) ≡ true → Readable (f a b)) → Holds Readable (of_two f s)
two_readable f s e = holds_then PairSmall Readable (two s) (λ p. Ok (f p.0 p.1)) (two_small s) (λ p h. e p.0 p.1 (and_from (field p.0) (field p.1) h.0 h.1))

three_readable : (f : ℕ → ℕ → ℕ → Call) (s : List ℕ) → ((a b c : ℕ) → (field a && (field b && field c)) ≡ true → Readable (f a b c)) → Holds Readable (of_three f s)
three_readable f s e =
    holds_then TripleSmall Readable (three s) (λ p. Ok (f p.0 p.1 p.2)) (three_small s)
    (λ p h. e p.0 p.1 p.2 (and_from (field p.0) (field p.1 && field p.2) h.0 (and_from (field p.1) (field p.2) h.1 h.2)))

none_small : readable_parts [] ≡ true
unfolding readable_parts
none_small = refl

recipe_readable : (s : List ℕ) → Holds Readable (recipe s)
unfolding readable
recipe_readable s =
    holds_then NumberSmall Readable (head s) _ (head_small s)
    (λ i h. holds_then PartsSmall Readable (parts 255 [] i.1) (λ ps. Ok (made_of i.0 ps)) (parts_small 255 [] i.1 (none_small) (omega arith))
    (λ ps k. and_from (field i.0) (readable_parts ps && ltb (length ps) 256) h (and_from (readable_parts ps) (ltb (length ps) 256) k.0 (lt-ltb (length ps) 256 (omega arith)))))

after_readable : (k : CallKind) (s : List ℕ) → Holds Readable (call_after k s)
unfolding call_after readable
after_readable Buys s = three_readable buys s (λ a b c h. h)
after_readable Sells s = three_readable sells s (λ a b c h. h)
after_readable Comes s = two_readable comes s (λ a b h. h)
after_readable Goes s = two_readable goes s (λ a b h. h)
after_readable BilledBy s = three_readable billed_by s (λ a b c h. h)
after_readable Bills s = two_readable bills s (λ a b h. h)
after_readable PaysOut s = one_readable pays_out s (λ a h. h)
after_readable PaysIn s = one_readable pays_in s (λ a h. h)
after_readable MadeOf s = recipe_readable s
after_readable Makes s = two_readable makes s (λ a b h. h)
after_readable Counted s = two_readable counted s (λ a b h. h)
after_readable StockOf s = one_readable stock_of s (λ a h. h)
after_readable Account s = one_readable account s (λ a h. h)
after_readable Order s = one_readable order s (λ a h. h)
after_readable LotsOf s = one_readable lots_of s (λ a h. h)
after_readable EntriesFrom s = two_readable entries_from s (λ a b h. h)

line_readable : (line : List ℕ) (r : Read Call) → length line < 2 ^ 64 → Holds Readable r → Readable (or_garbled (result_map_both (λ c. c) (λ (rest : List ℕ). length line - length rest) r))
unfolding readable
line_readable line (Ok c) h k = k
line_readable line (Err rest) h k = lt-ltb (length line - length rest) 18446744073709551616 (omega arith)

pub lines_readable : LinesReadable
unfolding call_or_place call_or_rest
lines_readable line h =
    line_readable line (call_or_rest line) h
    (holds_then (λ _. Unit {0}) Readable (opening line) (λ p. call_after p.0 p.1) (holds_any (opening line)) (λ p _. after_readable p.0 p.1))
