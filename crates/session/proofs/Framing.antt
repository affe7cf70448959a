-- Rows of bytes behind their lengths: the first of them, and the rest. Assumes nothing.
use Rattle.std.proofs.Common.{◌≡◌, ℕ, zero, suc, ◌^◌, ◌<◌, ◌≤◌, min, Bool, true, false, cond, ltb, leb, List, [], ◌∷◌, ◌++◌, length, take, drop, Some, None, sym, refl, ap, ◌∙◌, ap₂, append_assoc, arith, length-append, length-drop}
use Rattle.std.proofs.lemmas.List.{take_all, drop_all, take_min, drop_min}
use Rattle.std.proofs.Math.Seq.{take-append_seam, drop-append_seam}
use Rattle.std.specs.List.{flat_map, list_all}
use Rattle.std.proofs.lemmas.Bool.{and_parts, ltb-true, leb-false}
use Rattle.fields.specs.Bytes.{value, field_bytes, field_at}
use Rattle.fields.proofs.Numbers.{length_field, value_digits}
use Rattle.session.specs.Running.{first_row, rest_rows, rows_on, rows_of, framed, RowsComeBack}

-- what comes after a row is shorter
rest_shorter : (bs : List ℕ) → 0 < length bs → length (rest_rows bs) < length bs
rest_shorter bs lt = omega (arith, length-drop (field_at 0 bs) (drop 8 bs), length-drop 8 bs)

-- so as many turns as there are bytes are enough, and more are no more
rows_same : (j k : ℕ) (bs : List ℕ) → length bs ≤ j → length bs ≤ k → rows_on j bs ≡ rows_on k bs
rows_same zero zero bs hj hk = refl
rows_same zero (suc k) [] hj hk = refl
rows_same zero (suc k) (b ∷ bs) hj hk = absurd (omega arith)
rows_same (suc j) zero [] hj hk = refl
rows_same (suc j) zero (b ∷ bs) hj hk = absurd (omega arith)
rows_same (suc j) (suc k) [] hj hk = refl
rows_same (suc j) (suc k) (b ∷ bs) hj hk =
    ap (λ (rs : List (List ℕ)). first_row (b ∷ bs) ∷ rs)
    (rows_same j k (rest_rows (b ∷ bs)) (omega (arith, rest_shorter (b ∷ bs) (omega arith))) (omega (arith, rest_shorter (b ∷ bs) (omega arith))))

rows_next : (bs : List ℕ) → 0 < length bs → rows_of bs ≡ first_row bs ∷ rows_of (rest_rows bs)
unfolding rows_of
rows_next [] lt = absurd (omega arith)
rows_next (b ∷ bs) lt =
    ap (λ (rs : List (List ℕ)). first_row (b ∷ bs) ∷ rs)
    (rows_same (length bs) (length (rest_rows (b ∷ bs))) (rest_rows (b ∷ bs)) (omega (arith, rest_shorter (b ∷ bs) (omega arith))) (omega arith))

pub rows_none : rows_of [] ≡ []
unfolding rows_of
rows_none = refl

-- THE OTHER WAY: a row that was framed is the first, and what stands behind it the rest
framed_length : (row bs : List ℕ) → length row < 2 ^ 64 → field_at 0 (framed row ++ bs) ≡ length row
unfolding field_at field_bytes
framed_length row bs lt =
    ap value (ap (take 8) (append_assoc (field_bytes (length row)) row bs)
    ∙ ap (λ (k : ℕ). take k (field_bytes (length row) ++ (row ++ bs))) (sym (length_field (length row))) ∙ take-append_seam (field_bytes (length row)) (row ++ bs))
    ∙ value_digits 8 (length row) lt

framed_body : (row bs : List ℕ) → drop 8 (framed row ++ bs) ≡ row ++ bs
framed_body row bs =
    ap (drop 8) (append_assoc (field_bytes (length row)) row bs)
    ∙ ap (λ (k : ℕ). drop k (field_bytes (length row) ++ (row ++ bs))) (sym (length_field (length row))) ∙ drop-append_seam (field_bytes (length row)) (row ++ bs)

framed_some : (row bs : List ℕ) → 0 < length (framed row ++ bs)
framed_some row bs =
    omega (arith, length-append (framed row) bs, length-append (field_bytes (length row)) row, length_field (length row))

framed_rows : (row bs : List ℕ) → length row < 2 ^ 64 → rows_of (framed row ++ bs) ≡ row ∷ rows_of bs
framed_rows row bs lt =
    rows_next (framed row ++ bs) (framed_some row bs)
    ∙ ap₂ (λ (r q : List ℕ). r ∷ rows_of q)
    (ap₂ (λ (n : ℕ) (r : List ℕ). take n r) (framed_length row bs lt) (framed_body row bs) ∙ take-append_seam row bs)
    (ap₂ (λ (n : ℕ) (r : List ℕ). drop n r) (framed_length row bs lt) (framed_body row bs) ∙ drop-append_seam row bs)

pub rows_come_back : RowsComeBack
rows_come_back [] h = rows_none
rows_come_back (row ∷ rows) h =
    let both = and_parts (ltb (length row) (2 ^ 64)) (list_all (λ r. ltb (length r) (2 ^ 64)) rows) h in
    framed_rows row (flat_map framed rows) (ltb-true (length row) (2 ^ 64) both.0) ∙ ap (λ (rs : List (List ℕ)). row ∷ rs) (rows_come_back rows both.1)

-- AS THE CODE CUTS THEM: too few bytes for a length
pub short_rows : (bs : List ℕ) → length bs < 8 → 0 < length bs → rows_of bs ≡ [] ∷ rows_of []
short_rows bs lt gt =
    let none : drop 8 bs ≡ [] = drop_all 8 bs (omega arith) in
    rows_next bs gt
    ∙ ap₂ (λ (r q : List ℕ). r ∷ rows_of q) (ap (take (field_at 0 bs)) none ∙ take_all (field_at 0 bs) [] (omega arith)) (ap (drop (field_at 0 bs)) none ∙ drop_all (field_at 0 bs) [] (omega arith))

-- a length, and as many bytes behind it as there are
pub long_rows : (bs body : List ℕ) (n : ℕ) → body ≡ drop 8 bs → n ≡ field_at 0 bs → 0 < length bs → rows_of bs ≡ take (min n (length body)) body ∷ rows_of (drop (min n (length body)) body)
long_rows bs body n b e gt = rw (take_min, drop_min, b, e) (rows_next bs gt)

-- the field that the bytes begin with
pub leading_some : (bs : List ℕ) (n : ℕ) → Some n ≡ cond (leb 8 (length bs)) (Some (field_at 0 bs)) None → n ≡ field_at 0 bs
leading_some bs n e = at (leb 8 (length bs)) e
  where
    at : (b : Bool) → Some n ≡ cond b (Some (field_at 0 bs)) None → n ≡ field_at 0 bs
    at true z = cc
    at false z = let w : ◌≡◌ {A = ℕ} 0 1 = cc in absurd (omega arith)

pub leading_none : (bs : List ℕ) → None ≡ cond (leb 8 (length bs)) (Some (field_at 0 bs)) None → length bs < 8
leading_none bs e = at (leb 8 (length bs)) refl e
  where
    at : (b : Bool) → leb 8 (length bs) ≡ b → None ≡ cond b (Some (field_at 0 bs)) None → length bs < 8
    at true t z = let w : ◌≡◌ {A = ℕ} 0 1 = cc in absurd (omega arith)
    at false t z = leb-false 8 (length bs) t
