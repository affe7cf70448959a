-- The table of forms against the bytes of calls, and rows that are just as long as their form asks. Assumes nothing.
use Rattle.std.proofs.Common.{◌≡◌, ℕ, zero, suc, ◌+◌, ◌*◌, ◌<◌, ◌≤◌, true, ◌&&◌, ltb, List, [], ◌∷◌, ◌++◌, length, get_or, take, drop, refl, ap, ◌∙◌, subst, arith, length-drop, take-append-drop}
use Rattle.std.specs.List.{flat_map}
use Rattle.std.proofs.lemmas.List.{take_all, drop_more, drop-drop}
use Rattle.std.proofs.lemmas.Bool.{lt-ltb, and_from}
use Rattle.fields.specs.Bytes.{Bytes, field_bytes, field_at, all_fields, fields_from}
use Rattle.fields.proofs.Numbers.{field_back, field_lt, fields_back, bytes_drop}
use Rattle.firm.specs.Stock.{Part}
use Rattle.firm.specs.Calls.{field, readable, readable_parts, call_number}
use Rattle.wire.specs.Rows.{rows, part_in, part_bytes}
use Rattle.wire.specs.Calls.{Form, one, two, three, recipe, none, forms, size, built, bytes_of_call}
use Rattle.wire.specs.Statements.{IsCall}
use Rattle.wire.proofs.Tables.{EachAt, found}
use Rattle.wire.specs.Lines.{length_rows}
use Rattle.wire.proofs.RowLaws.{parts_again}

-- what the table says of the call with the number k
abbrev pub Right : ℕ → Form → Type 0
Right k (one f) = (a : ℕ) → (bytes_of_call (f a) ≡ k ∷ all_fields (a ∷ [])) × (readable (f a) ≡ field a) × (call_number (f a) ≡ k)
Right k (two f) = (a b : ℕ) → (bytes_of_call (f a b) ≡ k ∷ all_fields (a ∷ (b ∷ []))) × (readable (f a b) ≡ (field a && field b)) × (call_number (f a b) ≡ k)
Right k (three f) =
    (a b c : ℕ) →
    (bytes_of_call (f a b c) ≡ k ∷ all_fields (a ∷ (b ∷ (c ∷ [])))) × (readable (f a b c) ≡ (field a && (field b && field c))) × (call_number (f a b c) ≡ k)
Right k (recipe f) =
    (i : ℕ) (ps : List Part) →
    (bytes_of_call (f i ps) ≡ k ∷ (field_bytes i ++ (length ps ∷ flat_map part_bytes ps)))
    × (readable (f i ps) ≡ (field i && (readable_parts ps && ltb (length ps) 256))) × (call_number (f i ps) ≡ k)
Right k none = ⊥

table : EachAt Right 0 forms
unfolding readable call_number
table = (
  λ a b c. (refl, refl, refl),
  (
    λ a b c. (refl, refl, refl),
    (
      λ a b. (refl, refl, refl),
      (
        λ a b. (refl, refl, refl),
        (
          λ a b c. (refl, refl, refl),
          (
            λ a b. (refl, refl, refl),
            (
              λ a. (refl, refl, refl),
              (
                λ a. (refl, refl, refl),
                (
                  λ i ps. (refl, refl, refl),
                  (
                    λ a b. (refl, refl, refl),
                    (
                      λ a b. (refl, refl, refl),
                      (
                        λ a. (refl, refl, refl),
                        (λ a. (refl, refl, refl), (λ a. (refl, refl, refl), (λ a. (refl, refl, refl), (λ a b. (refl, refl, refl), tt)))),
                      ),
                    ),
                  ),
                ),
              ),
            ),
          ),
        ),
      ),
    ),
  ),
)

pub right : (k : ℕ) → k < length forms → Right k (get_or forms k none)
right k h = let e : 0 + k ≡ k = omega arith in subst (λ (j : ℕ). Right j (get_or forms k none)) e (found Right none 0 k forms table h)

-- a first byte and fields that are the whole row
pub fields_row : (n k : ℕ) (bs : List ℕ) → Bytes bs → get_or bs 0 0 ≡ k → length bs ≡ 1 + 8 * n → k ∷ all_fields (fields_from n 1 bs) ≡ bs
fields_row n k bs b e l =
    let f : all_fields (fields_from n 1 bs) ≡ take (8 * n) (drop 1 bs) = fields_back n 1 bs b (omega arith) in
    let g : take (8 * n) (drop 1 bs) ≡ drop 1 bs = take_all (8 * n) (drop 1 bs) (omega (arith, length-drop 1 bs)) in
    let d : bs ≡ get_or bs 0 0 ∷ drop 1 bs = drop_more bs 0 0 (omega arith) in
    cc

recipe_row : (k : ℕ) (bs : List ℕ) → Bytes bs → get_or bs 0 0 ≡ k → length bs ≡ 10 + 16 * get_or bs 9 0 →
    k ∷ (field_bytes (field_at 1 bs) ++ (length (rows part_in 16 (get_or bs 9 0) (drop 10 bs)) ∷ flat_map part_bytes (rows part_in 16 (get_or bs 9 0) (drop 10 bs)))) ≡ bs
recipe_row k bs b e l =
    let f : field_bytes (field_at 1 bs) ≡ take 8 (drop 1 bs) = field_back 1 bs b (omega arith) in
    let n : length (rows part_in 16 (get_or bs 9 0) (drop 10 bs)) ≡ get_or bs 9 0 = length_rows part_in 16 (get_or bs 9 0) (drop 10 bs) in
    let j : flat_map part_bytes (rows part_in 16 (get_or bs 9 0) (drop 10 bs)) ≡ drop 10 bs = parts_again (get_or bs 9 0) (drop 10 bs) (bytes_drop 10 bs b) (length-drop 10 bs ∙ omega arith) in
    let m : drop 9 bs ≡ get_or bs 9 0 ∷ drop 10 bs = drop_more bs 9 0 (omega arith) in
    let s : drop 8 (drop 1 bs) ≡ drop 9 bs = drop-drop 8 1 bs in
    let t : take 8 (drop 1 bs) ++ drop 8 (drop 1 bs) ≡ drop 1 bs = take-append-drop 8 (drop 1 bs) in
    let d : bs ≡ get_or bs 0 0 ∷ drop 1 bs = drop_more bs 0 0 (omega arith) in
    cc

pub carried : (k : ℕ) (bs : List ℕ) → Bytes bs → field (field_at k bs) ≡ true
carried k bs b = lt-ltb (field_at k bs) 18446744073709551616 (field_lt k bs b)

parts_carried : (n : ℕ) (bs : List ℕ) → Bytes bs → readable_parts (rows part_in 16 n bs) ≡ true
unfolding readable_parts rows part_in
parts_carried zero bs b = refl
parts_carried (suc n) bs b = and_from _ _ (and_from _ _ (carried 0 bs b) (carried 8 bs b)) (parts_carried n (drop 16 bs) (bytes_drop 16 bs b))

-- a row of the length that its form asks for is the bytes of the call that is built from it
pub whole : (f : Form) (k : ℕ) (bs : List ℕ) → Bytes bs → get_or bs 0 0 ≡ k → k < length forms → Right k f → length bs ≡ size f bs → IsCall bs (built f bs)
whole (one f) k bs b e h r l =
    let s = r (field_at 1 bs) in
    ((omega (arith, s.2), s.1 ∙ carried 1 bs b), s.0 ∙ fields_row 1 k bs b e l)
whole (two f) k bs b e h r l =
    let s = r (field_at 1 bs) (field_at 9 bs) in
    ((omega (arith, s.2), s.1 ∙ and_from _ _ (carried 1 bs b) (carried 9 bs b)), s.0 ∙ fields_row 2 k bs b e l)
whole (three f) k bs b e h r l =
    let s = r (field_at 1 bs) (field_at 9 bs) (field_at 17 bs) in
    ((omega (arith, s.2), s.1 ∙ and_from _ _ (carried 1 bs b) (and_from _ _ (carried 9 bs b) (carried 17 bs b))), s.0 ∙ fields_row 3 k bs b e l)
whole (recipe f) k bs b e h r l =
    let ps : List Part = rows part_in 16 (get_or bs 9 0) (drop 10 bs) in
    let s = r (field_at 1 bs) ps in
    let n : length ps < 256 = omega (arith, length_rows part_in 16 (get_or bs 9 0) (drop 10 bs), b 9) in
    ((omega (arith, s.2), s.1 ∙ and_from _ _ (carried 1 bs b) (and_from _ _ (parts_carried (get_or bs 9 0) (drop 10 bs) (bytes_drop 10 bs b)) (lt-ltb (length ps) 256 n))), s.0 ∙ recipe_row k bs b e l)
whole none k bs b e h r l = absurd r

-- a form asks for nine bytes at least, and for the same of rows with the same count of parts
pub size_ge : (f : Form) (k : ℕ) (bs : List ℕ) → Right k f → 9 ≤ size f bs
size_ge (one f) k bs r = omega arith
size_ge (two f) k bs r = omega arith
size_ge (three f) k bs r = omega arith
size_ge (recipe f) k bs r = omega arith
size_ge none k bs r = absurd r

pub size_same : (f : Form) (xs ys : List ℕ) → (9 < size f xs → get_or xs 9 0 ≡ get_or ys 9 0) → size f xs ≡ size f ys
size_same (one f) xs ys e = refl
size_same (two f) xs ys e = refl
size_same (three f) xs ys e = refl
size_same (recipe f) xs ys e = ap (λ (n : ℕ). 10 + 16 * n) (e (omega arith))
size_same none xs ys e = refl
