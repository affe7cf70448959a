-- Words of eight bytes, and the fields that they are. Assumes nothing.
use Rattle.std.proofs.Common.{◌≡◌, ℕ, zero, suc, ◌+◌, ◌-◌, ◌*◌, ◌/◌, ◌<◌, ◌≤◌, ◌⊎◌, cond, leb, List, [], ◌∷◌, ◌++◌, Some, None, Ok, Err, Option, length, map, get_or, take, drop, sym, refl, ap, ◌∙◌, subst, ⊎_elim, mul-suc, arith, length-drop}
use Rattle.std.specs.List.{flat_map, slice_range}
use Rattle.std.specs.Array.{IsFromFnResult, IsFromFnResultFrom, IsFirstChunk}
use Rattle.std.specs.Simd.{first_chunks}
use Rattle.std.proofs.lemmas.List.{drop-drop, drop_more, drop_all, take_rest, get_or-map, length-map}
use Rattle.std.proofs.lemmas.Bool.{cond-true, cond-false, le-leb, lt-leb, cases_lt}
use Rattle.std.specs.Option.{MatchOption, ok_or}
use denote.Ref.{Bor}
use denote.Param.Members.{Mut, Called}
use Rattle.fields.specs.Bytes.{value, field_bytes, field_at, all_fields, fields_from, rows_of}

-- an array that calls gave, each of them of the element that a list has there
module _ {F A B : Type 0} (g : Mut F (ℕ × Unit {0}) B) (h : A → B) (d : A) (f : F) (xs : List A) where
  abbrev Gives : Type 0
  Gives = (i : ℕ) (y : B) (q : F) → i < length xs → Called g f (i, tt) y q → (y ≡ h (get_or xs i d)) × (q ≡ f)

  made_from : (n i : ℕ) (ys : List B) → Gives → i + n ≡ length xs → length ys ≡ length xs → IsFromFnResultFrom g f ys i n → drop i ys ≡ map h (drop i xs)
  made_from zero i ys step e l r =
      let a : drop i ys ≡ [] = drop_all i ys (omega arith) in
      let b : drop i xs ≡ [] = drop_all i xs (omega arith) in
      a ∙ sym (ap (map h) b)
  made_from (suc n) i ys step e l (q, y, at, met, r) =
      let s = step i y q (omega arith) met in
      let rest : drop (i + 1) ys ≡ map h (drop (i + 1) xs) = made_from n (i + 1) ys step (omega arith) l (subst (λ (p : F). IsFromFnResultFrom g p ys (i + 1) n) s.1 r) in
      let a : drop i ys ≡ get_or ys i y ∷ drop (i + 1) ys = drop_more ys i y (omega arith) in
      let b : drop i xs ≡ get_or xs i d ∷ drop (i + 1) xs = drop_more xs i d (omega arith) in
      let c : get_or ys i y ≡ h (get_or xs i d) = at.0 ∙ s.0 in
      a ∙ ap (λ (z : B). z ∷ drop (i + 1) ys) c ∙ ap (λ (zs : List B). h (get_or xs i d) ∷ zs) rest ∙ sym (ap (map h) b)

  pub made : (n : ℕ) (ys : List B) → Gives → n ≡ length xs → IsFromFnResult g f ys n → ys ≡ map h xs
  made n ys step e r = made_from n 0 ys step (omega arith) (r.long ∙ e) r.each

-- the words of bytes from a place on write the fields there
pub words_are : (n k : ℕ) (bs : List ℕ) → map value (first_chunks 8 n (drop k bs)) ≡ fields_from n k bs
unfolding field_at
words_are zero k bs = refl
words_are (suc n) k bs =
    ap (λ (xs : List ℕ). value (take 8 (drop k bs)) ∷ map value (first_chunks 8 n xs)) (drop-drop 8 k bs) ∙ ap (λ (ns : List ℕ). value (take 8 (drop k bs)) ∷ ns) (words_are n (k + 8) bs)

module _ {X : Type 0} where
  length-first_chunks : (n k : ℕ) (xs : List X) → length (first_chunks n k xs) ≡ k
  length-first_chunks n zero xs = refl
  length-first_chunks n (suc k) xs = ap suc (length-first_chunks n k (drop n xs))

  take_chunks : (n k j : ℕ) (xs : List X) → k ≤ j → take k (first_chunks n j xs) ≡ first_chunks n k xs
  take_chunks n zero j xs h = refl
  take_chunks n (suc k) zero xs h = absurd (omega arith)
  take_chunks n (suc k) (suc j) xs h = ap (λ (ys : List (List X)). take n xs ∷ ys) (take_chunks n k j (drop n xs) (omega arith))

  drop_chunks : (n k j m : ℕ) (xs : List X) → m ≡ k + j → drop k (first_chunks n m xs) ≡ first_chunks n j (drop (n * k) xs)
  drop_chunks n zero j m xs e =
      let a : m ≡ j = omega arith in
      let z : 0 ≡ n * 0 = omega arith in
      ap (λ (i : ℕ). first_chunks n i xs) a ∙ ap (λ (i : ℕ). first_chunks n j (drop i xs)) z
  drop_chunks n (suc k) j zero xs e = absurd (omega arith)
  drop_chunks n (suc k) j (suc m) xs e =
      let p : n + n * k ≡ n * suc k = omega (arith, mul-suc n k) in
      drop_chunks n k j m (drop n xs) (omega arith) ∙ ap (first_chunks n j) (drop-drop (n * k) n xs ∙ ap (λ (i : ℕ). drop i xs) p)

  nth_chunk : (n k j : ℕ) (xs : List X) (d : List X) → k < j → get_or (first_chunks n j xs) k d ≡ take n (drop (n * k) xs)
  nth_chunk n k zero xs d h = absurd (omega arith)
  nth_chunk n zero (suc j) xs d h =
      let z : 0 ≡ n * 0 = omega arith in
      ap (λ (i : ℕ). take n (drop i xs)) z
  nth_chunk n (suc k) (suc j) xs d h =
      let p : n + n * k ≡ n * suc k = omega (arith, mul-suc n k) in
      nth_chunk n k j (drop n xs) d (omega arith) ∙ ap (take n) (drop-drop (n * k) n xs ∙ ap (λ (i : ℕ). drop i xs) p)

-- the words behind a first byte, and those of the k-th row
pub words_behind : (n : ℕ) (bs : List ℕ) → length bs ≡ 1 + 8 * n → map value (first_chunks 8 (length (take (length bs - 1) (drop 1 bs)) / 8) (take (length bs - 1) (drop 1 bs))) ≡ fields_from n 1 bs
words_behind n bs l =
    let t : take (length bs - 1) (drop 1 bs) ≡ drop 1 bs = take_rest bs 1 in
    let q : length (drop 1 bs) / 8 ≡ n = omega (arith, length-drop 1 bs) in
    ap (λ (xs : List ℕ). map value (first_chunks 8 (length xs / 8) xs)) t ∙ ap (λ (m : ℕ). map value (first_chunks 8 m (drop 1 bs))) q ∙ words_are n 1 bs

-- the fields of rows of words
pub rows_are : (n k m : ℕ) (bs : List ℕ) → n * k ≤ m → map (map value) (first_chunks n k (first_chunks 8 m bs)) ≡ rows_of n k bs
rows_are n zero m bs h = refl
rows_are n (suc k) m bs h =
    let i : n + n * k ≤ m = omega (arith, mul-suc n k) in
    let a : take n (first_chunks 8 m bs) ≡ first_chunks 8 n bs = take_chunks 8 n m bs (omega arith) in
    let b : drop n (first_chunks 8 m bs) ≡ first_chunks 8 (m - n) (drop (8 * n) bs) = drop_chunks 8 n (m - n) m bs (omega arith) in
    ap (λ (x : List (List ℕ)). map value x ∷ map (map value) (first_chunks n k (drop n (first_chunks 8 m bs)))) a
    ∙ ap (λ (x : List ℕ). x ∷ map (map value) (first_chunks n k (drop n (first_chunks 8 m bs)))) (words_are n 0 bs)
    ∙ ap (λ (x : List (List ℕ)). fields_from n 0 bs ∷ map (map value) (first_chunks n k x)) b
    ∙ ap (λ (x : List (List ℕ)). fields_from n 0 bs ∷ x) (rows_are n k (m - n) (drop (8 * n) bs) (omega arith))

-- fields of the rest of bytes
pub fields_in : (n j m : ℕ) (bs : List ℕ) → fields_from n j (drop m bs) ≡ fields_from n (m + j) bs
unfolding field_at
fields_in zero j m bs = refl
fields_in (suc n) j m bs =
    let e : m + (j + 8) ≡ m + j + 8 = omega arith in
    ap (λ (xs : List ℕ). value (take 8 xs) ∷ fields_from n (j + 8) (drop m bs)) (drop-drop j m bs)
    ∙ ap (λ (ns : List ℕ). value (take 8 (drop (m + j) bs)) ∷ ns) (fields_in n (j + 8) m bs ∙ ap (λ (i : ℕ). fields_from n i bs) e)

row_at : (n k m : ℕ) (bs : List ℕ) → k < m → get_or (rows_of n m bs) k [] ≡ fields_from n 0 (drop (8 * n * k) bs)
row_at n k zero bs h = absurd (omega arith)
row_at n zero (suc m) bs h =
    let z : 0 ≡ 8 * n * 0 = omega arith in
    ap (λ (i : ℕ). fields_from n 0 (drop i bs)) z
row_at n (suc k) (suc m) bs h =
    let p : 8 * n + 8 * n * k ≡ 8 * n * suc k = omega (arith, mul-suc (8 * n) k) in
    row_at n k m (drop (8 * n) bs) (omega arith) ∙ ap (fields_from n 0) (drop-drop (8 * n * k) (8 * n) bs ∙ ap (λ (i : ℕ). drop i bs) p)

length_rows : (n m : ℕ) (bs : List ℕ) → length (rows_of n m bs) ≡ m
length_rows n zero bs = refl
length_rows n (suc m) bs = ap suc (length_rows n m (drop (8 * n) bs))

-- rows of words: how many there are, and the k-th
module _ (n : ℕ) (xs : List (List (List ℕ))) where
  pub rows_counted : (m : ℕ) (bs : List ℕ) → map (map value) xs ≡ rows_of n m bs → length xs ≡ m
  rows_counted m bs e = sym (length-map xs (map value)) ∙ ap length e ∙ length_rows n m bs

  pub row_read : (k m : ℕ) (bs : List ℕ) (d : List (List ℕ)) → map (map value) xs ≡ rows_of n m bs → k < m → map value (get_or xs k d) ≡ fields_from n 0 (drop (8 * n * k) bs)
  row_read k m bs d e h =
      let l : length xs ≡ m = rows_counted m bs e in
      sym (get_or-map (map value) xs k d [] (omega arith)) ∙ ap (λ (r : List (List ℕ)). get_or r k []) e ∙ row_at n k m bs h

-- the word that bytes begin with
pub leading : (bs : List ℕ) (o : Option (Bor (List ℕ))) (r : Option ℕ) → MatchOption o (length bs < 8) (λ y. IsFirstChunk bs y.now 8) → MatchOption o (r ≡ None) (λ y. r ≡ Some (value y.now)) → r ≡ cond (leb 8 (length bs)) (Some (field_at 0 bs)) None
unfolding field_at
leading bs None r h e = e ∙ sym (cond-false (leb 8 (length bs)) (Some (value (take 8 bs))) None (lt-leb 8 (length bs) h))
leading bs (Some y) r h e = e ∙ ap (λ (xs : List ℕ). Some (value xs)) h.same ∙ sym (cond-true (leb 8 (length bs)) (Some (value (take 8 bs))) None (le-leb 8 (length bs) h.enough))

-- the field behind a first byte
abbrev Behind : List ℕ → Bor (List ℕ) → Type 0
Behind bs y = (1 ≤ length bs) × (length bs ≤ length bs) × (y.now ≡ slice_range bs 1 (length bs)) × (length y.now + 1 ≡ length bs)

pub behind : (bs : List ℕ) (o : Option (Bor (List ℕ))) (r : Option ℕ) → MatchOption o ((length bs < 1) ⊎ (length bs < length bs)) (Behind bs)
    → MatchOption o (r ≡ None) (λ y. r ≡ cond (leb 8 (length y.now)) (Some (field_at 0 y.now)) None) → ok_or r (length bs) ≡ cond (leb 9 (length bs)) (Ok (field_at 1 bs)) (Err (length bs))
unfolding field_at
behind bs None r h e =
    let l : length bs < 9 = omega (arith, h) in
    ap (λ (o : Option ℕ). ok_or o (length bs)) e ∙ sym (cond-false (leb 9 (length bs)) (Ok (field_at 1 bs)) (Err (length bs)) (lt-leb 9 (length bs) l))
behind bs (Some y) r h e =
    let t : y.now ≡ drop 1 bs = h.2 ∙ take_rest bs 1 in
    ⊎_elim
    (λ (l : length bs < 9).
    let m : length y.now < 8 = omega (arith, h.3) in
    let n = cond-false (leb 8 (length y.now)) (Some (field_at 0 y.now)) None (lt-leb 8 (length y.now) m) in
    ap (λ (o : Option ℕ). ok_or o (length bs)) (e ∙ n) ∙ sym (cond-false (leb 9 (length bs)) (Ok (field_at 1 bs)) (Err (length bs)) (lt-leb 9 (length bs) l)))
    (λ (l : 9 ≤ length bs).
    let m : 8 ≤ length y.now = omega (arith, h.3) in
    let n = cond-true (leb 8 (length y.now)) (Some (field_at 0 y.now)) None (le-leb 8 (length y.now) m) in
    ap (λ (o : Option ℕ). ok_or o (length bs)) (e ∙ n) ∙ ap (λ (xs : List ℕ). Ok (field_at 0 xs)) t ∙ sym (cond-true (leb 9 (length bs)) (Ok (field_at 1 bs)) (Err (length bs)) (le-leb 9 (length bs) l)))
    (cases_lt (length bs) 9)

-- bytes of fields, one after the other
pub flat_fields : (ns : List ℕ) → flat_map (λ (xs : List ℕ). xs) (map field_bytes ns) ≡ all_fields ns
flat_fields [] = refl
flat_fields (n ∷ ns) = ap (λ (xs : List ℕ). field_bytes n ++ xs) (flat_fields ns)
