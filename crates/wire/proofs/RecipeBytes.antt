-- A recipe's bytes. Assumes nothing.
use Rattle.std.proofs.Common.{◌≡◌, ℕ, suc, ◌+◌, ◌*◌, ◌/◌, ◌%◌, ◌<◌, ◌≤◌, true, cond, eqb, List, [], ◌∷◌, ◌++◌, length, get_or, drop, set, Some, None, Option, sym, ap, ◌∙◌, append_assoc, arith, length-append, length-drop}
use Rattle.std.proofs.lemmas.Bool.{cond-true, eq-eqb, eqb-true, lt-ltb, ltb-true, and_from, and_parts}
use Rattle.fields.specs.Bytes.{field_at}
use Rattle.firm.specs.Calls.{Call, made_of, garbled}
use Rattle.wire.specs.Rows.{rows, part_in}
use Rattle.wire.specs.Calls.{call_as, or_garbled}
use Rattle.wire.specs.Calls.{bytes_of_call}
use Rattle.wire.specs.Said.{parts_in, are_parts}
use Rattle.std.specs.List.{flat_map}
use borrow.Rule.Slice.PartMut.{put_mid}
use Rattle.fields.specs.Bytes.{Bytes, field_bytes, all_fields}
use Rattle.fields.specs.Written.{Written, wrote, written, over, row_written}
use Rattle.fields.proofs.Numbers.{length_field, length_fields}
use Rattle.fields.proofs.Rows.{fits, too_long, over_byte, over_more}
use Rattle.std.proofs.lemmas.List.{append-nil}
use Rattle.wire.specs.Rows.{part_bytes}
use Rattle.wire.specs.Lines.{length_rows}
use Rattle.wire.proofs.RowLaws.{parts_again}
use Rattle.wire.proofs.Heads.{head_put}

pub parts_are : (bs : List ℕ) (n : ℕ) → length bs ≡ 16 * n → n < 256 → are_parts bs ≡ true
parts_are bs n l h = and_from _ _ (eq-eqb (length bs % 16) 0 (omega arith)) (lt-ltb (length bs / 16) 256 (omega arith))

pub recipe_is : (bs tail : List ℕ) (i : ℕ) → length bs ≡ 10 + 16 * get_or bs 9 0 → get_or bs 9 0 < 256 → tail ≡ drop 10 bs → i ≡ field_at 1 bs
    → cond (are_parts tail) (made_of i (parts_in tail)) (garbled 0) ≡ call_as 8 bs
unfolding parts_in
recipe_is bs tail i l h t e =
    let m : length (drop 10 bs) ≡ 16 * get_or bs 9 0 = length-drop 10 bs ∙ omega arith in
    let q : length (drop 10 bs) / 16 ≡ get_or bs 9 0 = omega arith in
    let left : cond (are_parts (drop 10 bs)) (made_of (field_at 1 bs) (parts_in (drop 10 bs))) (garbled 0) ≡ made_of (field_at 1 bs) (parts_in (drop 10 bs)) =
    cond-true (are_parts (drop 10 bs)) _ _ (parts_are (drop 10 bs) (get_or bs 9 0) m h) in
    let right : call_as 8 bs ≡ made_of (field_at 1 bs) (rows part_in 16 (get_or bs 9 0) (drop 10 bs)) =
    ap or_garbled (cond-true (eqb (length bs) (10 + 16 * get_or bs 9 0)) _ _ (eq-eqb (length bs) (10 + 16 * get_or bs 9 0) l)) in
    let mid : parts_in (drop 10 bs) ≡ rows part_in 16 (get_or bs 9 0) (drop 10 bs) = ap (λ (n : ℕ). rows part_in 16 n (drop 10 bs)) q in
    cc

-- the row of a recipe
abbrev recipe_row : ℕ → ℕ → List ℕ → List ℕ
recipe_row i n ps = 8 ∷ (field_bytes i ++ (n ∷ ps))

length_recipe : (i n : ℕ) (ps : List ℕ) → length (recipe_row i n ps) ≡ 10 + length ps
length_recipe i n ps = ap suc (length-append (field_bytes i) (n ∷ ps)) ∙ omega (arith, length_field i)

pub recipe_bytes : (i n : ℕ) (ps : List ℕ) → Bytes ps → length ps ≡ 16 * n → bytes_of_call (made_of i (parts_in ps)) ≡ recipe_row i n ps
unfolding parts_in
recipe_bytes i n ps b l =
    let q : length ps / 16 ≡ n = omega arith in
    let e : parts_in ps ≡ rows part_in 16 n ps = ap (λ (m : ℕ). rows part_in 16 m ps) q in
    let f : length (rows part_in 16 n ps) ≡ n = length_rows part_in 16 n ps in
    let g : flat_map part_bytes (rows part_in 16 n ps) ≡ ps = parts_again n ps b l in
    cc

recipe_written : (i n : ℕ) (ps old : List ℕ) → Bytes ps → length ps ≡ 16 * n → n < 256
    → written (recipe_row i n ps) old ≡ row_written (bytes_of_call (cond (are_parts ps) (made_of i (parts_in ps)) (garbled 0))) old
recipe_written i n ps old b l h =
    let t : cond (are_parts ps) (made_of i (parts_in ps)) (garbled 0) ≡ made_of i (parts_in ps) = cond-true (are_parts ps) _ _ (parts_are ps n l h) in
    sym (ap (λ (c : Call). row_written (bytes_of_call c) old) t ∙ ap (λ (bs : List ℕ). row_written bs old) (recipe_bytes i n ps b l))

-- bytes that are parts are whole ones, and few
pub parts_few : (bs : List ℕ) → are_parts bs ≡ true → (length bs ≡ 16 * (length bs / 16)) × (length bs / 16 < 256)
parts_few bs e =
    let b = and_parts _ _ e in
    let w : length bs % 16 ≡ 0 = eqb-true (length bs % 16) 0 b.0 in
    (omega (arith, w), ltb-true (length bs / 16) 256 b.1)

pub recipe_too_long : (i n : ℕ) (ps old : List ℕ) → Bytes ps → length ps ≡ 16 * n → n < 256 → length old < 10 + length ps
    → wrote None old ≡ row_written (bytes_of_call (cond (are_parts ps) (made_of i (parts_in ps)) (garbled 0))) old
recipe_too_long i n ps old b l h k = too_long (recipe_row i n ps) old (10 + length ps) (length_recipe i n ps) k ∙ recipe_written i n ps old b l h

pub recipe_fits : (i n m : ℕ) (r : Option ℕ) (ps old x new : List ℕ) → Bytes ps → length ps ≡ 16 * n → n < 256 → 10 + length ps ≤ length old → m ≡ length ps
    → wrote r x ≡ written (8 ∷ all_fields (i ∷ [])) old → new ≡ put_mid 10 m (set x 9 n) ps
    → wrote (Some (10 + length ps)) new ≡ row_written (bytes_of_call (cond (are_parts ps) (made_of i (parts_in ps)) (garbled 0))) old
recipe_fits i n m r ps old x new b l h k j e f =
    let row : List ℕ = 8 ∷ all_fields (i ∷ []) in
    let lr : length row ≡ 9 = ap suc (length_fields (i ∷ [])) in
    let e1 : x ≡ over row old = ap (λ (w : Written). w.left) (head_put 8 i r old x (omega arith) e) in
    let e2 : set x 9 n ≡ over (row ++ (n ∷ [])) old = ap (λ (xs : List ℕ). set xs 9 n) e1 ∙ over_byte row old 9 n lr (omega arith) in
    let l2 : length (row ++ (n ∷ [])) ≡ 10 = length-append row (n ∷ []) ∙ omega arith in
    let e3 : put_mid 10 m (set x 9 n) ps ≡ over ((row ++ (n ∷ [])) ++ ps) old =
    ap (λ (xs : List ℕ). put_mid 10 m xs ps) e2 ∙ over_more (row ++ (n ∷ [])) old ps 10 m l2 (sym j) (omega arith) in
    let e4 : (row ++ (n ∷ [])) ++ ps ≡ recipe_row i n ps =
    ap (λ (xs : List ℕ). 8 ∷ ((xs ++ (n ∷ [])) ++ ps)) (append-nil (field_bytes i)) ∙ ap (λ (xs : List ℕ). 8 ∷ xs) (append_assoc (field_bytes i) (n ∷ []) ps) in
    fits (recipe_row i n ps) old new (10 + length ps) (length_recipe i n ps) k (f ∙ e3 ∙ ap (λ (xs : List ℕ). over xs old) e4) ∙ recipe_written i n ps old b l h
