-- The bytes of a recipe: the count is written over the byte that was kept for it. Assumes nothing.
use Rattle.std.proofs.Common.{◌≡◌, ℕ, ◌<◌, List, [], ◌∷◌, ◌++◌, length, set, Ok, Err, ap, ◌∙◌, append_assoc, append-nil, arith, length-append}
use Rattle.std.specs.List.{flat_map}
use Rattle.std.proofs.lemmas.List.{set_at}
use Rattle.words.specs.Readers.{Read, then}
use Rattle.fields.specs.Bytes.{field_bytes, all_fields}
use Rattle.fields.proofs.Numbers.{length_field}
use Rattle.wire.specs.Rows.{part_bytes}
use Rattle.firm.specs.Stock.{Part}
use Rattle.firm.specs.Calls.{made_of}
use Rattle.call_lines.specs.Recipes.{head, parts, appended}
use Rattle.call_lines.specs.Lines.{recipe, bytes_or_rest}

-- what stands before the parts: number, item, and a byte kept for the count
abbrev pub begun : ℕ → List ℕ
begun i = (8 ∷ all_fields (i ∷ [])) ++ (0 ∷ [])

head_length : (i : ℕ) → length (8 ∷ all_fields (i ∷ [])) ≡ 9
head_length i = omega (arith, length-append (field_bytes i) [], length_field i)

fields_of : (n m : ℕ) (out o : List ℕ) → ◌≡◌ {A = Read (ℕ × List ℕ)} (Ok (n, out)) (Ok (m, o)) → (n ≡ m) × (out ≡ o)
fields_of n m out o e =
    let f : Read (ℕ × List ℕ) → ℕ × List ℕ = λ r. elim r [ Ok p ↦ p | Err x ↦ (0, []) ] in
    let g : (n, out) ≡ (m, o) = ap f e in
    (ap (λ (p : ℕ × List ℕ). p.0) g, ap (λ (p : ℕ × List ℕ). p.1) g)

-- ten bytes, whatever follows
pub begun_long : (i n : ℕ) (out : List ℕ) (r : Read (List Part)) → Ok (n, out) ≡ appended (begun i) r → 9 < length out
begun_long i n out (Ok ps) e =
    let f : out ≡ begun i ++ flat_map part_bytes ps = (fields_of n (length ps) out (begun i ++ flat_map part_bytes ps) e).1 in
    omega (arith, ap length f, length-append (begun i) (flat_map part_bytes ps), length-append (8 ∷ all_fields (i ∷ [])) (0 ∷ []), head_length i)
begun_long i n out (Err x) e = absurd (let z : ◌≡◌ {A = ℕ} 0 1 = cc in omega arith)

counted_over : (i n : ℕ) (bs : List ℕ) → set (begun i ++ bs) 9 n ≡ 8 ∷ (field_bytes i ++ (n ∷ bs))
counted_over i n bs =
    ap (λ (x : List ℕ). set x 9 n) (append_assoc (8 ∷ all_fields (i ∷ [])) (0 ∷ []) bs)
    ∙ set_at (8 ∷ all_fields (i ∷ [])) 0 bs n 9 (head_length i)
    ∙ ap (λ (x : List ℕ). (8 ∷ x) ++ (n ∷ bs)) (append-nil (field_bytes i))

parts_bytes : (i n : ℕ) (out : List ℕ) (r : Read (List Part)) → Ok (n, out) ≡ appended (begun i) r → Ok (set out 9 n) ≡ bytes_or_rest (then r (λ ps. Ok (made_of i ps)))
parts_bytes i n out (Ok ps) e =
    let f = fields_of n (length ps) out (begun i ++ flat_map part_bytes ps) e in
    ap (λ (x : List ℕ). Ok (set x 9 n)) f.1 ∙ ap (λ (x : List ℕ). Ok x) (counted_over i n (flat_map part_bytes ps)) ∙ ap (λ (m : ℕ). Ok (8 ∷ (field_bytes i ++ (m ∷ flat_map part_bytes ps)))) f.0
parts_bytes i n out (Err x) e = absurd (let z : ◌≡◌ {A = ℕ} 0 1 = cc in omega arith)

pub recipe_bytes : (line rest out : List ℕ) (i n : ℕ) → Ok (i, rest) ≡ head line → Ok (n, out) ≡ appended (begun i) (parts 255 [] rest) → Ok (set out 9 n) ≡ bytes_or_rest (recipe line)
recipe_bytes line rest out i n h e =
    parts_bytes i n out (parts 255 [] rest) e ∙ ap (λ (r : Read (ℕ × List ℕ)). bytes_or_rest (then r (λ p. then (parts 255 [] p.1) (λ ps. Ok (made_of p.0 ps))))) h
