-- A first byte and the field behind it, at the front of a longer row. Assumes nothing.
use Rattle.std.proofs.Common.{◌≡◌, ℕ, suc, ◌<◌, ◌≤◌, cond, leb, List, [], ◌∷◌, length, Some, None, Ok, Err, Option, Result, sym, refl, ap, ◌∙◌, ⊎_elim, arith}
use Rattle.std.proofs.lemmas.Bool.{cond-true, cond-false, le-leb, lt-leb, cases_lt}
use Rattle.fields.specs.Bytes.{field_at, all_fields}
use Rattle.fields.specs.Written.{Written, wrote, written, over}
use Rattle.fields.proofs.Numbers.{length_fields}
use Rattle.fields.proofs.Rows.{fits}

-- what the first field of a row says of the row
abbrev first : List ℕ → Result ℕ ℕ
first bs = cond (leb 9 (length bs)) (Ok (field_at 1 bs)) (Err (length bs))

pub first_long : (bs : List ℕ) (a : ℕ) → Ok a ≡ cond (leb 9 (length bs)) (Ok (field_at 1 bs)) (Err (length bs)) → 9 ≤ length bs
first_long bs a e =
    ⊎_elim (λ (h : length bs < 9).
    let t : first bs ≡ Err (length bs) = cond-false (leb 9 (length bs)) (Ok (field_at 1 bs)) (Err (length bs)) (lt-leb 9 (length bs) h) in
    let z : ◌≡◌ {A = ℕ} 0 1 = cc in
    absurd (omega arith)) (λ (h : 9 ≤ length bs). h) (cases_lt (length bs) 9)

pub first_is : (bs : List ℕ) (a : ℕ) → 9 ≤ length bs → Ok a ≡ cond (leb 9 (length bs)) (Ok (field_at 1 bs)) (Err (length bs)) → a ≡ field_at 1 bs
first_is bs a h e =
    let t : first bs ≡ Ok (field_at 1 bs) = cond-true (leb 9 (length bs)) (Ok (field_at 1 bs)) (Err (length bs)) (le-leb 9 (length bs) h) in
    cc

-- a head that fits is written
pub head_put : (k i : ℕ) (r : Option ℕ) (old new : List ℕ) → 9 ≤ length old → wrote r new ≡ written (k ∷ all_fields (i ∷ [])) old → wrote r new ≡ wrote (Some 9) (over (k ∷ all_fields (i ∷ [])) old)
head_put k i r old new h e = e ∙ sym (fits (k ∷ all_fields (i ∷ [])) old (over (k ∷ all_fields (i ∷ [])) old) 9 (ap suc (length_fields (i ∷ []))) h refl)

pub head_goes_in : (k i : ℕ) (old new : List ℕ) → 9 ≤ length old → wrote None new ≡ written (k ∷ all_fields (i ∷ [])) old → ⊥
head_goes_in k i old new h e =
    let f : ◌≡◌ {A = Option ℕ} None (Some 9) = ap (λ (w : Written). w.count) (head_put k i None old new h e) in
    let z : ◌≡◌ {A = ℕ} 0 1 = cc in
    omega arith
