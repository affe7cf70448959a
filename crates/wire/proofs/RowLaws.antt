-- Rows of fields: how many there are, the k-th, and that reading and writing undo each other. Assumes nothing.
use Rattle.std.proofs.Common.{◌≡◌, ℕ, zero, suc, ◌+◌, ◌*◌, ◌/◌, ◌<◌, ◌≤◌, Bool, true, false, cond, ltb, List, ◌∷◌, ◌++◌, length, get_or, take, drop, Some, None, sym, refl, ap, ◌∙◌, ⊎_elim, mul-suc, arith, length-drop, take-append-drop}
use Rattle.std.specs.List.{flat_map}
use Rattle.std.proofs.lemmas.List.{drop-drop, nil_from_length}
use Rattle.std.proofs.lemmas.Bool.{cond-true, cond-false, lt-ltb, le-ltb, cases_lt, cases_Bool}
use Rattle.std.proofs.lemmas.Option.{none-some, cond_some}
use Rattle.fields.specs.Bytes.{Bytes, all_fields, fields_from, rows_of, nth_row}
use Rattle.fields.proofs.Numbers.{bytes_drop, fields_back}
use Rattle.fields.proofs.Words.{fields_in}
use Rattle.wire.specs.Lines.{part_by_fields, lot_by_fields, entry_by_fields}
use Rattle.wire.specs.Rows.{rows, nth, part_in, part_bytes, lot_in, lot_bytes, entry_in, entry_bytes}

ltb_suc : (k n : ℕ) → ltb (suc k) (suc n) ≡ ltb k n
ltb_suc k n =
    ⊎_elim (λ (h : k < n). lt-ltb (suc k) (suc n) (omega arith) ∙ sym (lt-ltb k n h)) (λ (h : n ≤ k). le-ltb (suc k) (suc n) (omega arith) ∙ sym (le-ltb k n h)) (cases_lt k n)

-- the k-th row
pub nth_rows : {A : Type 0} (read : List ℕ → A) (w n k : ℕ) (bs : List ℕ) → nth (rows read w n bs) k ≡ cond (ltb k n) (Some (read (drop (w * k) bs))) None
unfolding rows nth
nth_rows read w zero k bs = sym (cond-false (ltb k 0) (Some (read (drop (w * k) bs))) None (le-ltb k 0 (omega arith)))
nth_rows read w (suc n) zero bs =
    let z : w * 0 ≡ 0 = omega arith in
    sym (cond-true (ltb 0 (suc n)) (Some (read (drop (w * 0) bs))) None (lt-ltb 0 (suc n) (omega arith)) ∙ ap (λ (j : ℕ). Some (read (drop j bs))) z)
nth_rows read w (suc n) (suc k) bs =
    let e : w + w * k ≡ w * suc k = omega (arith, mul-suc w k) in
    let d : drop (w * k) (drop w bs) ≡ drop (w * suc k) bs = drop-drop (w * k) w bs ∙ ap (λ (j : ℕ). drop j bs) e in
    nth_rows read w n k (drop w bs)
    ∙ ap (λ (xs : List ℕ). cond (ltb k n) (Some (read xs)) None) d ∙ ap (λ (t : Bool). cond t (Some (read (drop (w * suc k) bs))) None) (sym (ltb_suc k n))

-- the k-th of so many
pub rows_at : {A : Type 0} (read : List ℕ → A) (w n k : ℕ) (bs : List ℕ) (d : A) → k < n → get_or (rows read w n bs) k d ≡ read (drop (w * k) bs)
unfolding rows
rows_at read w zero k bs d h = absurd (omega arith)
rows_at read w (suc n) zero bs d h =
    let z : 0 ≡ w * 0 = omega arith in
    ap (λ (j : ℕ). read (drop j bs)) z
rows_at read w (suc n) (suc k) bs d h =
    let e : w + w * k ≡ w * suc k = omega (arith, mul-suc w k) in
    rows_at read w n k (drop w bs) d (omega arith) ∙ ap read (drop-drop (w * k) w bs ∙ ap (λ (j : ℕ). drop j bs) e)

-- rows of fields are rows
pub field_rows : (n m : ℕ) (bs : List ℕ) → rows_of n m bs ≡ rows (fields_from n 0) (8 * n) m bs
unfolding rows
field_rows n zero bs = refl
field_rows n (suc m) bs = ap (λ (x : List (List ℕ)). fields_from n 0 bs ∷ x) (field_rows n m (drop (8 * n) bs))

-- the k-th row, if there is one
module _ {A : Type 0} (read : List ℕ → A) (n k : ℕ) (bs : List ℕ) where
  pub no_row : None ≡ nth_row (8 * n) k bs (fields_from n (8 * n * k) bs) → None ≡ nth (rows read (8 * n) (length bs / (8 * n)) bs) k
  no_row e =
      let m : ℕ = length bs / (8 * n) in
      ⊎_elim (λ (t : ltb k m ≡ true). absurd (none-some (fields_from n (8 * n * k) bs) (e ∙ cond-true (ltb k m) _ _ t)))
      (λ (t : ltb k m ≡ false). sym (nth_rows read (8 * n) m k bs ∙ cond-false (ltb k m) _ _ t)) (cases_Bool (ltb k m))

  pub a_row : (xs : List ℕ) → Some xs ≡ nth_row (8 * n) k bs (fields_from n (8 * n * k) bs)
      → (xs ≡ fields_from n 0 (drop (8 * n * k) bs)) × (Some (read (drop (8 * n * k) bs)) ≡ nth (rows read (8 * n) (length bs / (8 * n)) bs) k)
  a_row xs e =
      let m : ℕ = length bs / (8 * n) in
      let t = cond_some (ltb k m) (fields_from n (8 * n * k) bs) xs (sym e) in
      let z : 8 * n * k ≡ 8 * n * k + 0 = omega arith in
      (sym t.1 ∙ ap (λ (i : ℕ). fields_from n i bs) z ∙ sym (fields_in n 0 (8 * n * k) bs), sym (nth_rows read (8 * n) m k bs ∙ cond-true (ltb k m) _ _ t.0))

-- rows that are read and written again are the bytes that they were
pub written_again : {A : Type 0} (read : List ℕ → A) (enc : A → List ℕ) (w : ℕ) → ((bs : List ℕ) → Bytes bs → w ≤ length bs → enc (read bs) ≡ take w bs)
    → (n : ℕ) (bs : List ℕ) → Bytes bs → length bs ≡ w * n → flat_map enc (rows read w n bs) ≡ bs
unfolding rows
written_again read enc w back zero bs b l = sym (nil_from_length bs (omega arith))
written_again read enc w back (suc n) bs b l =
    let m : w * suc n ≡ w + w * n = omega (arith, mul-suc w n) in
    let e : enc (read bs) ≡ take w bs = back bs b (omega arith) in
    let f : flat_map enc (rows read w n (drop w bs)) ≡ drop w bs = written_again read enc w back n (drop w bs) (bytes_drop w bs b) (length-drop w bs ∙ omega arith) in
    let g : take w bs ++ drop w bs ≡ bs = take-append-drop w bs in
    cc

-- rows of fields among them
pub fields_again : {A : Type 0} (read : List ℕ → A) (enc : A → List ℕ) (m : ℕ) → ((bs : List ℕ) → enc (read bs) ≡ all_fields (fields_from m 0 bs)) → (n : ℕ) (bs : List ℕ) → Bytes bs → length bs ≡ 8 * m * n
    → flat_map enc (rows read (8 * m) n bs) ≡ bs
fields_again read enc m by n bs b l = written_again read enc (8 * m) (λ xs c h. by xs ∙ fields_back m 0 xs c (omega arith)) n bs b l

pub parts_again : (n : ℕ) (bs : List ℕ) → Bytes bs → length bs ≡ 16 * n → flat_map part_bytes (rows part_in 16 n bs) ≡ bs
parts_again n bs b l = fields_again part_in part_bytes 2 part_by_fields n bs b l

pub lots_again : (n : ℕ) (bs : List ℕ) → Bytes bs → length bs ≡ 32 * n → flat_map lot_bytes (rows lot_in 32 n bs) ≡ bs
lots_again n bs b l = fields_again lot_in lot_bytes 4 lot_by_fields n bs b l

pub entries_again : (n : ℕ) (bs : List ℕ) → Bytes bs → length bs ≡ 32 * n → flat_map entry_bytes (rows entry_in 32 n bs) ≡ bs
entries_again n bs b l = fields_again entry_in entry_bytes 4 entry_by_fields n bs b l
