-- A number and its bytes. Assumes nothing.
use Rattle.std.proofs.Common.{◌≡◌, ℕ, zero, suc, ◌+◌, ◌*◌, ◌/◌, ◌%◌, ◌^◌, ◌<◌, ◌≤◌, List, [], ◌∷◌, ◌++◌, length, take, drop, sym, refl, ap, ◌∙◌, ⊎_elim, arith, length-append, take-add}
use native.Mathlib.Nat.{pow-succ', pow-le-pow_right, div-div-eq-div-mul}
use Rattle.std.proofs.lemmas.List.{drop-drop, length-take-le, length-take, get_or-take, get_or-drop, get_or_past, length-drop}
use Rattle.std.proofs.lemmas.Bool.{cases_lt}
use Rattle.fields.specs.Bytes.{Bytes, value, digits, field_bytes, field_at, all_fields, fields_from}
use Rattle.std.specs.Int.{w64, from_le_bytes}

pub length_digits : (k n : ℕ) → length (digits k n) ≡ k
unfolding digits
length_digits zero n = refl
length_digits (suc k) n = ap suc (length_digits k (n / 256))

pub length_field : (n : ℕ) → length (field_bytes n) ≡ 8
unfolding field_bytes
length_field n = length_digits 8 n

pub length_fields : (ns : List ℕ) → length (all_fields ns) ≡ 8 * length ns
length_fields [] = refl
length_fields (n ∷ ns) = length-append (field_bytes n) (all_fields ns) ∙ omega (arith, length_field n, length_fields ns)

-- what k digits write is the number, if it has no more than k
pub value_digits : (k n : ℕ) → n < 256 ^ k → value (digits k n) ≡ n
unfolding digits value
value_digits zero n h = omega arith
value_digits (suc k) n h =
    let e : value (digits k (n / 256)) ≡ n / 256 = value_digits k (n / 256) (omega (arith, pow-succ' 256 k)) in
    omega arith

-- the eight bytes as std names them
pub field_bytes_are : (n : ℕ) →
    field_bytes n ≡ (n % 256) ∷ ((n / 256 % 256) ∷ ((n / 65536 % 256) ∷ ((n / 16777216 % 256) ∷ ((n / 4294967296 % 256) ∷ ((n / 1099511627776 % 256) ∷ ((n / 281474976710656 % 256) ∷ ((n / 72057594037927936 % 256) ∷ [])))))))
unfolding field_bytes digits
field_bytes_are n = simp div-div-eq-div-mul

-- the number in eight bytes as std names it
pub value_is : (bs : List ℕ) → length bs ≡ 8 → from_le_bytes w64 bs ≡ value bs
unfolding value
value_is [] l = absurd (omega arith)
value_is (a ∷ []) l = absurd (omega arith)
value_is (a ∷ b ∷ []) l = absurd (omega arith)
value_is (a ∷ b ∷ c ∷ []) l = absurd (omega arith)
value_is (a ∷ b ∷ c ∷ d ∷ []) l = absurd (omega arith)
value_is (a ∷ b ∷ c ∷ d ∷ e ∷ []) l = absurd (omega arith)
value_is (a ∷ b ∷ c ∷ d ∷ e ∷ f ∷ []) l = absurd (omega arith)
value_is (a ∷ b ∷ c ∷ d ∷ e ∷ f ∷ g ∷ []) l = absurd (omega arith)
value_is (a ∷ b ∷ c ∷ d ∷ e ∷ f ∷ g ∷ h ∷ []) l = omega arith
value_is (a ∷ b ∷ c ∷ d ∷ e ∷ f ∷ g ∷ h ∷ i ∷ bs) l = absurd (omega arith)

pub value_lt : (bs : List ℕ) → Bytes bs → value bs < 256 ^ length bs
unfolding value
value_lt [] b = omega arith
value_lt (x ∷ bs) b =
    let h : value bs < 256 ^ length bs = value_lt bs (λ i. b (suc i)) in
    omega (arith, b 0, pow-succ' 256 (length bs))

-- the bytes of what bytes write are those bytes
pub digits_value : (bs : List ℕ) → Bytes bs → digits (length bs) (value bs) ≡ bs
unfolding digits value
digits_value [] b = refl
digits_value (x ∷ bs) b =
    let h : x < 256 = b 0 in
    let q : (x + 256 * value bs) / 256 ≡ value bs = omega arith in
    let r : (x + 256 * value bs) % 256 ≡ x = omega arith in
    let e : digits (length bs) (value bs) ≡ bs = digits_value bs (λ i. b (suc i)) in
    rw (q, r, e)

-- a part of bytes is bytes
pub bytes_take : (n : ℕ) (bs : List ℕ) → Bytes bs → Bytes (take n bs)
bytes_take n bs b i =
    ⊎_elim (λ (h : i < n). rw (get_or-take n bs i 0 h) (b i))
    (λ (h : n ≤ i). let p : length (take n bs) ≤ i = rw (length-take n bs) (omega arith) in rw (get_or_past (take n bs) i 0 p) (omega arith)) (cases_lt i n)

pub bytes_drop : (n : ℕ) (bs : List ℕ) → Bytes bs → Bytes (drop n bs)
bytes_drop n bs b i = rw (get_or-drop n bs i 0) (b (n + i))

-- the bytes of the field at a place are those that stand there
pub field_back : (k : ℕ) (bs : List ℕ) → Bytes bs → k + 8 ≤ length bs → field_bytes (field_at k bs) ≡ take 8 (drop k bs)
unfolding field_bytes field_at
field_back k bs b h =
    let l : length (take 8 (drop k bs)) ≡ 8 = length-take-le 8 (drop k bs) (omega (arith, length-drop k bs)) in
    ap (λ (n : ℕ). digits n (value (take 8 (drop k bs)))) (sym l) ∙ digits_value (take 8 (drop k bs)) (bytes_take 8 (drop k bs) (bytes_drop k bs b))

pub fields_back : (n k : ℕ) (bs : List ℕ) → Bytes bs → k + 8 * n ≤ length bs → all_fields (fields_from n k bs) ≡ take (8 * n) (drop k bs)
fields_back zero k bs b h = refl
fields_back (suc n) k bs b h =
    let e : field_bytes (field_at k bs) ≡ take 8 (drop k bs) = field_back k bs b (omega arith) in
    let f : all_fields (fields_from n (k + 8) bs) ≡ take (8 * n) (drop (k + 8) bs) = fields_back n (k + 8) bs b (omega arith) in
    let g : drop 8 (drop k bs) ≡ drop (k + 8) bs = drop-drop 8 k bs in
    let t : take (8 + 8 * n) (drop k bs) ≡ take 8 (drop k bs) ++ take (8 * n) (drop 8 (drop k bs)) = take-add 8 (8 * n) (drop k bs) in
    let m : 8 * suc n ≡ 8 + 8 * n = omega arith in
    let u : take (8 * suc n) (drop k bs) ≡ take (8 + 8 * n) (drop k bs) = ap (λ (j : ℕ). take j (drop k bs)) m in
    cc

-- a field's number fits eight bytes
pub field_lt : (k : ℕ) (bs : List ℕ) → Bytes bs → field_at k bs < 18446744073709551616
unfolding field_at
field_lt k bs b =
    let h : value (take 8 (drop k bs)) < 256 ^ length (take 8 (drop k bs)) = value_lt (take 8 (drop k bs)) (bytes_take 8 (drop k bs) (bytes_drop k bs b)) in
    let l : length (take 8 (drop k bs)) ≤ 8 = rw (length-take 8 (drop k bs)) (omega arith) in
    let p : 256 ^ length (take 8 (drop k bs)) ≤ 256 ^ 8 = pow-le-pow_right {n = 256} (omega arith) l in
    omega arith
