-- Reading what was written gives the same call. Assumes nothing.
use Rattle.std.proofs.Common.{◌≡◌, ℕ, ◌+◌, ◌*◌, true, ◌&&◌, eqb, ltb, List, [], ◌∷◌, length, sym, ap, ◌∙◌, arith}
use Rattle.std.specs.List.{flat_map}
use Rattle.std.proofs.lemmas.Bool.{cond-true, eq-eqb, and_parts}
use Rattle.fields.specs.Bytes.{value, digits, field_bytes, field_at, all_fields, sized}
use Rattle.firm.specs.Stock.{Part}
use Rattle.firm.specs.Calls.{Call, buys, sells, comes, goes, billed_by, bills, pays_out, pays_in, made_of, makes, counted, stock_of, account, order, lots_of, entries_from, garbled, call_number, readable, readable_parts, field}
use Rattle.wire.specs.Rows.{rows, part_in, part_bytes}
use Rattle.wire.specs.Calls.{one, two, three, built, or_garbled, bytes_of_call, call_of}
use Rattle.wire.specs.Statements.{CallComesBack, CallsApart}
use Rattle.wire.proofs.ReadBack.{field_same, parts_same, length_parts}

one_back : (f : ℕ → Call) (k a : ℕ) → field a ≡ true →
    or_garbled (sized 9 (k ∷ all_fields (a ∷ [])) (built (one f) (k ∷ all_fields (a ∷ [])))) ≡ f a
unfolding field_at field_bytes digits
one_back f k a h = ap f (field_same a h)

two_back : (f : ℕ → ℕ → Call) (k a b : ℕ) → (field a && field b) ≡ true →
    or_garbled (sized 17 (k ∷ all_fields (a ∷ (b ∷ []))) (built (two f) (k ∷ all_fields (a ∷ (b ∷ []))))) ≡ f a b
unfolding field_at field_bytes digits
two_back f k a b h =
    let p = and_parts (field a) (field b) h in
    ap (λ (x : ℕ). f x (value (digits 8 b))) (field_same a p.0) ∙ ap (λ (y : ℕ). f a y) (field_same b p.1)

three_back : (f : ℕ → ℕ → ℕ → Call) (k a b c : ℕ) → (field a && (field b && field c)) ≡ true →
    or_garbled (sized 25 (k ∷ all_fields (a ∷ (b ∷ (c ∷ [])))) (built (three f) (k ∷ all_fields (a ∷ (b ∷ (c ∷ [])))))) ≡ f a b c
unfolding field_at field_bytes digits
three_back f k a b c h =
    let p = and_parts (field a) (field b && field c) h in
    let q = and_parts (field b) (field c) p.1 in
    ap (λ (x : ℕ). f x (value (digits 8 b)) (value (digits 8 c))) (field_same a p.0)
    ∙ ap (λ (y : ℕ). f a y (value (digits 8 c))) (field_same b q.0) ∙ ap (λ (z : ℕ). f a b z) (field_same c q.1)

recipe_back : (i : ℕ) (ps : List Part) → (field i && (readable_parts ps && ltb (length ps) 256)) ≡ true → call_of (bytes_of_call (made_of i ps)) ≡ made_of i ps
unfolding call_of field_at field_bytes digits
recipe_back i ps h =
    let p = and_parts (field i) (readable_parts ps && ltb (length ps) 256) h in
    let q = and_parts (readable_parts ps) (ltb (length ps) 256) p.1 in
    let bs : List ℕ = bytes_of_call (made_of i ps) in
    let l : length bs ≡ 10 + 16 * length ps = omega (arith, length_parts ps) in
    let t = cond-true (eqb (length bs) (10 + 16 * length ps)) _ _ (eq-eqb (length bs) (10 + 16 * length ps) l) in
    ap or_garbled t ∙ ap (λ (x : ℕ). made_of x (rows part_in 16 (length ps) (flat_map part_bytes ps))) (field_same i p.0) ∙ ap (made_of i) (parts_same ps q.0)

pub comes_back : CallComesBack
unfolding call_of readable call_number
comes_back (buys i q p) s = three_back buys 0 i q p s.1
comes_back (sells i q p) s = three_back sells 1 i q p s.1
comes_back (comes o q) s = two_back comes 2 o q s.1
comes_back (goes o q) s = two_back goes 3 o q s.1
comes_back (billed_by o q x) s = three_back billed_by 4 o q x s.1
comes_back (bills o q) s = two_back bills 5 o q s.1
comes_back (pays_out x) s = one_back pays_out 6 x s.1
comes_back (pays_in x) s = one_back pays_in 7 x s.1
comes_back (made_of i ps) s = recipe_back i ps s.1
comes_back (makes i q) s = two_back makes 9 i q s.1
comes_back (counted i q) s = two_back counted 10 i q s.1
comes_back (stock_of i) s = one_back stock_of 11 i s.1
comes_back (account a) s = one_back account 12 a s.1
comes_back (order o) s = one_back order 13 o s.1
comes_back (lots_of i) s = one_back lots_of 14 i s.1
comes_back (entries_from n k) s = two_back entries_from 15 n k s.1
comes_back (garbled n) s = absurd (omega (arith, s.0))

pub apart : CallsApart
apart c d s t e = sym (comes_back c s) ∙ ap call_of e ∙ comes_back d t
