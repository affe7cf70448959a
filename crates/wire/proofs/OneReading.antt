-- Every row of bytes is just one call, or ceases to be one at just one place. Assumes nothing.
use Rattle.std.proofs.Common.{◌≡◌, ℕ, suc, ◌+◌, ◌-◌, ◌<◌, ◌≤◌, min, eqb, ◌⊎◌, List, [], ◌∷◌, ◌++◌, length, get_or, take, drop, replicate, sym, refl, ap, ◌∙◌, inl, inr, ⊎_elim, append_assoc, arith, length-append, take-append-drop}
use Rattle.std.proofs.lemmas.List.{take_all, take-take, length-take-le, length-replicate, get_or-take, get_or_past, get_or_append_left, get_or-append_right, get_or-replicate, append-nil}
use Rattle.std.proofs.lemmas.Bool.{cond-false, ne_eqb, cases_lt, cases_order}
use Rattle.fields.specs.Bytes.{Bytes}
use Rattle.fields.proofs.Numbers.{bytes_take}
use Rattle.firm.specs.Calls.{Call, buys, garbled, call_number, readable}
use Rattle.wire.specs.Calls.{Form, none, forms, size, built, or_garbled, bytes_of_call, call_of, Sendable}
use Rattle.wire.specs.Statements.{IsCall, Begins, Ceases, OneReading}
use Rattle.wire.proofs.CallLaws.{comes_back}
use Rattle.wire.proofs.Forms.{right, whole, size_ge, size_same}

abbrev form : List ℕ → Form
form bs = get_or forms (get_or bs 0 0) none

-- a row of another length than its form asks for
misfit : (bs : List ℕ) → (length bs ≡ size (form bs) bs → ⊥) → call_of bs ≡ garbled (min (length bs) (size (form bs) bs))
unfolding call_of
misfit bs n = ap or_garbled (cond-false (eqb (length bs) (size (form bs) bs)) _ _ (ne_eqb (length bs) (size (form bs) bs) n))

unknown : (bs : List ℕ) → length forms ≤ get_or bs 0 0 → form bs ≡ none
unknown bs h = get_or_past forms (get_or bs 0 0) none h

some_byte : (bs : List ℕ) → length forms ≤ get_or bs 0 0 → 0 < length bs
some_byte [] h = absurd (omega arith)
some_byte (b ∷ bs) h = omega arith

unknown_call : (bs : List ℕ) → length forms ≤ get_or bs 0 0 → call_of bs ≡ garbled 0
unknown_call bs h =
    let e : size (form bs) bs ≡ 0 = ap (λ (f : Form). size f bs) (unknown bs h) in
    let p = some_byte bs h in
    let m : min (length bs) (size (form bs) bs) ≡ 0 = omega arith in
    misfit bs (λ l. omega arith) ∙ ap garbled m

-- the bytes of a call have a number of the table and the length that its form asks for
pub number_known : (c : Call) → Sendable c → get_or (bytes_of_call c) 0 0 < length forms
unfolding call_number
number_known c s =
    ⊎_elim (λ (h : get_or (bytes_of_call c) 0 0 < length forms). h)
    (λ (h : length forms ≤ get_or (bytes_of_call c) 0 0).
    let e : c ≡ garbled 0 = sym (comes_back c s) ∙ unknown_call (bytes_of_call c) h in
    absurd (omega (arith, s.0, ap call_number e))) (cases_lt (get_or (bytes_of_call c) 0 0) (length forms))

pub length_known : (c : Call) → Sendable c → length (bytes_of_call c) ≡ size (form (bytes_of_call c)) (bytes_of_call c)
unfolding call_number
length_known c s =
    let bs : List ℕ = bytes_of_call c in
    let no : (length bs ≡ size (form bs) bs → ⊥) → ⊥ = λ n.
    let e : c ≡ garbled (min (length bs) (size (form bs) bs)) = sym (comes_back c s) ∙ misfit bs n in
    omega (arith, s.0, ap call_number e) in
    ⊎_elim (λ (l : length bs ≡ size (form bs) bs). l)
    (⊎_elim (λ (l : length bs < size (form bs) bs). absurd (no (λ e. omega arith))) (λ (l : size (form bs) bs < length bs). absurd (no (λ e. omega arith))))
    (cases_order (length bs) (size (form bs) bs))

none_begun : Begins []
unfolding readable call_number
none_begun = (buys 0 0 0, bytes_of_call (buys 0 0 0), (omega arith, refl), refl)

get_d_front : (xs rest : List ℕ) (n i : ℕ) → i < n → n ≤ length xs → get_or (take n xs ++ rest) i 0 ≡ get_or xs i 0
get_d_front xs rest n i h l = get_or_append_left (take n xs) rest 0 i (omega (arith, length-take-le n xs l)) ∙ get_or-take n xs i 0 h

-- a byte that is no call's number
ceases_first : (bs : List ℕ) → length forms ≤ get_or bs 0 0 → Ceases bs 0
ceases_first bs h =
    let p = some_byte bs h in (
      omega arith,
      none_begun,
      λ l w.
          let k = number_known w.0 w.2 in
          let e : get_or (bytes_of_call w.0) 0 0 ≡ get_or bs 0 0 = ap (λ (xs : List ℕ). get_or xs 0 0) w.3 ∙ get_d_front bs w.1 1 0 (omega arith) (omega arith) in
          omega arith,
      λ c w.
          let k = number_known c w.0 in
          let e : get_or (bytes_of_call c) 0 0 ≡ get_or bs 0 0 = ap (λ (xs : List ℕ). get_or xs 0 0) w.1 in
          omega arith,
    )

no_call : (bs : List ℕ) → (length bs ≡ size (form bs) bs → ⊥) → (c : Call) → IsCall bs c → ⊥
no_call bs n c w = n (sym (ap length w.1) ∙ length_known c w.0 ∙ ap (λ (xs : List ℕ). size (form xs) xs) w.1)

-- bytes are missing: with zeros behind it the row is a call
getD_padded : (xs : List ℕ) (n i : ℕ) → get_or (xs ++ replicate n 0) i 0 ≡ get_or xs i 0
getD_padded xs n i =
    ⊎_elim (λ (h : i < length xs). get_or_append_left xs (replicate n 0) 0 i h)
    (λ (h : length xs ≤ i). get_or-append_right xs (replicate n 0) (length xs) i 0 refl h
    ∙ ⊎_elim (λ (k : i - length xs < n). get_or-replicate n (i - length xs) 0 0 k) (λ (k : n ≤ i - length xs). get_or_past (replicate n 0) (i - length xs) 0 (omega (arith, length-replicate {A = ℕ} n 0))) (cases_lt (i - length xs) n)
    ∙ sym (get_or_past xs i 0 h)) (cases_lt i (length xs))

ceases_short : (bs : List ℕ) → Bytes bs → get_or bs 0 0 < length forms → length bs < size (form bs) bs → Ceases bs (length bs)
ceases_short bs b h l =
    let n : ℕ = size (form bs) bs - length bs in
    let xs : List ℕ = bs ++ replicate n 0 in
    let bx : Bytes xs = λ i. rw (getD_padded bs n i) (b i) in
    let e0 : get_or xs 0 0 ≡ get_or bs 0 0 = getD_padded bs n 0 in
    let sz : size (form bs) xs ≡ size (form bs) bs = size_same (form bs) xs bs (λ _. getD_padded bs n 9) in
    let lx : length xs ≡ size (form bs) xs = length-append bs (replicate n 0) ∙ omega (arith, length-replicate {A = ℕ} n 0) in
    let w = whole (form bs) (get_or bs 0 0) xs bx e0 h (right (get_or bs 0 0) h) lx in (
      omega arith,
      (built (form bs) xs, replicate n 0, w.0, w.1 ∙ ap (λ (ys : List ℕ). ys ++ replicate n 0) (sym (take_all (length bs) bs (omega arith)))),
      λ k w. omega arith,
      no_call bs (λ e. omega arith),
    )

-- there are too many bytes: those that the form asks for are a call
ceases_long : (bs : List ℕ) → Bytes bs → get_or bs 0 0 < length forms → size (form bs) bs < length bs → Ceases bs (size (form bs) bs)
ceases_long bs b h l =
    let n : ℕ = size (form bs) bs in
    let g : 9 ≤ n = size_ge (form bs) (get_or bs 0 0) bs (right (get_or bs 0 0) h) in
    let xs : List ℕ = take n bs in
    let lt : length xs ≡ n = length-take-le n bs (omega arith) in
    let e0 : get_or xs 0 0 ≡ get_or bs 0 0 = get_or-take n bs 0 0 (omega arith) in
    let sz : size (form bs) bs ≡ size (form bs) xs = size_same (form bs) bs xs (λ k. sym (get_or-take n bs 9 0 k)) in
    let w = whole (form bs) (get_or bs 0 0) xs (bytes_take n bs b) e0 h (right (get_or bs 0 0) h) (lt ∙ sz) in (
      omega arith,
      (built (form bs) xs, [], w.0, w.1 ∙ sym (append-nil xs)),
      λ k w.
          let ys : List ℕ = bytes_of_call w.0 in
          let f0 : get_or ys 0 0 ≡ get_or bs 0 0 = ap (λ (zs : List ℕ). get_or zs 0 0) w.3 ∙ get_d_front bs w.1 (suc n) 0 (omega arith) (omega arith) in
          let f9 : get_or ys 9 0 ≡ get_or bs 9 0 = ap (λ (zs : List ℕ). get_or zs 9 0) w.3 ∙ get_d_front bs w.1 (suc n) 9 (omega arith) (omega arith) in
          let sy : size (form bs) bs ≡ size (form bs) ys = size_same (form bs) bs ys (λ _. sym f9) in
          let fy : size (form ys) ys ≡ size (form bs) ys = ap (λ (j : ℕ). size (get_or forms j none) ys) f0 in
          let ly : length ys ≡ size (form ys) ys = length_known w.0 w.2 in
          let lz : length ys ≡ suc n + length w.1 = ap length w.3 ∙ length-append (take (suc n) bs) w.1 ∙ ap (λ (j : ℕ). j + length w.1) (length-take-le (suc n) bs (omega arith)) in
          omega arith,
      no_call bs (λ e. omega arith),
    )

-- one of the two, and what is read
reads : (bs : List ℕ) → Bytes bs → ((c : Call) × IsCall bs c) ⊎ ((n : ℕ) × (Ceases bs n × (call_of bs ≡ garbled n)))
reads bs b =
    ⊎_elim
    (λ (h : get_or bs 0 0 < length forms).
    ⊎_elim (λ (l : length bs ≡ size (form bs) bs). inl (built (form bs) bs, whole (form bs) (get_or bs 0 0) bs b refl h (right (get_or bs 0 0) h) l))
    (⊎_elim
    (λ (l : length bs < size (form bs) bs).
    let m : min (length bs) (size (form bs) bs) ≡ length bs = omega arith in
    inr (length bs, (ceases_short bs b h l, misfit bs (λ e. omega arith) ∙ ap garbled m)))
    (λ (l : size (form bs) bs < length bs).
    let m : min (length bs) (size (form bs) bs) ≡ size (form bs) bs = omega arith in
    inr (size (form bs) bs, (ceases_long bs b h l, misfit bs (λ e. omega arith) ∙ ap garbled m))))
    (cases_order (length bs) (size (form bs) bs)))
    (λ (h : length forms ≤ get_or bs 0 0). inr (0, (ceases_first bs h, unknown_call bs h)))
    (cases_lt (get_or bs 0 0) (length forms))

-- a row ceases to be a call at one place only
shorter : (bs : List ℕ) (m n : ℕ) → m < n → Begins (take n bs) → Begins (take (suc m) bs)
shorter bs m n h w =
    let e : take (suc m) (take n bs) ++ drop (suc m) (take n bs) ≡ take n bs = take-append-drop (suc m) (take n bs) in
    let f : take (suc m) (take n bs) ≡ take (suc m) bs = take-take (suc m) n bs (omega arith) in
    let g : take n bs ≡ take (suc m) bs ++ drop (suc m) (take n bs) = cc in (
      w.0,
      drop (suc m) (take n bs) ++ w.1,
      w.2,
      w.3 ∙ ap (λ (xs : List ℕ). xs ++ w.1) g ∙ append_assoc (take (suc m) bs) (drop (suc m) (take n bs)) w.1,
    )

same_place : (bs : List ℕ) (m n : ℕ) → Ceases bs m → Ceases bs n → m ≡ n
same_place bs m n x y =
    ⊎_elim (λ (e : m ≡ n). e)
    (⊎_elim (λ (h : m < n). absurd (x.2 (omega (arith, y.0)) (shorter bs m n h y.1))) (λ (h : n < m). absurd (y.2 (omega (arith, x.0)) (shorter bs n m h x.1))))
    (cases_order m n)

pub one_reading : OneReading
one_reading bs b = (
  ⊎_elim (λ (w : (c : Call) × IsCall bs c). inl w) (λ (w : (n : ℕ) × (Ceases bs n × (call_of bs ≡ garbled n))). inr (w.0, w.1.0)) (reads bs b),
  λ c w. ap call_of (sym w.1) ∙ comes_back c w.0,
  λ n x.
      ⊎_elim (λ (w : (c : Call) × IsCall bs c). absurd (x.3 w.0 w.1))
      (λ (w : (m : ℕ) × (Ceases bs m × (call_of bs ≡ garbled m))). w.1.1 ∙ ap garbled (same_place bs w.0 n w.1.0 x)) (reads bs b),
)
