-- A recipe's parts in bytes, one after the other. Assumes nothing.
use Rattle.std.proofs.Common.{◌≡◌, ℕ, ◌-◌, ◌+◌, ◌*◌, ◌/◌, ◌<◌, ◌≤◌, true, List, [], ◌∷◌, ◌++◌, map, length, get_or, take, drop, codes, decimal, sym, ap, ◌∙◌, append_assoc, append-nil, arith, length-drop}
use Rattle.std.specs.List.{flat_map}
use Rattle.std.proofs.lemmas.List.{take_rest, take_more, take_all, drop_more, get_or-drop, nil_from_length, flat_map_more}
use Rattle.std.proofs.lemmas.Bool.{cond-true}
use Rattle.fields.specs.Bytes.{value, fields_from, rows_of}
use Rattle.fields.proofs.Words.{rows_counted, row_read}
use Rattle.wire.specs.Rows.{part_in}
use Rattle.wire.specs.Lines.{parts_counted}
use Rattle.wire.proofs.RowLaws.{rows_at}
use Rattle.wire.specs.Said.{are_parts, parts_in}
use Rattle.firm.specs.Stock.{Part}
use Rattle.call_printing.specs.Recipes.{recipe_line}
use Rattle.call_printing.proofs.Spacing.{spaced_one}
use Rattle.words.specs.Spaced.{spaced}
use Rattle.call_lines.specs.Written.{written_part, another_part, written_parts}

-- words that are the rows of parts
module _ (xs : List (List (List ℕ))) (bs : List ℕ) (e : map (map value) xs ≡ rows_of 2 (length bs / 16) bs) where
  as_many : length xs ≡ length (parts_in bs)
  as_many = rows_counted 2 xs (length bs / 16) bs e ∙ parts_counted bs

  -- the k-th part, as it is read of its words
  part_there : (k : ℕ) (p : Part) (ns : List ℕ) → k < length xs → ns ≡ map value (get_or xs k []) → ((b : List ℕ) → ns ≡ fields_from 2 0 b → p ≡ part_in b) → p ≡ get_or (parts_in bs) k p
  unfolding parts_in
  part_there k p ns h f g =
      let l : length xs ≡ length bs / 16 = rows_counted 2 xs (length bs / 16) bs e in
      g (drop (16 * k) bs) (f ∙ row_read 2 xs k (length bs / 16) bs [] e (omega arith)) ∙ sym (rows_at part_in 16 (length bs / 16) k bs p (omega arith))

  pub no_parts : (a : List ℕ) → length xs < 1 → a ≡ a ++ written_parts (parts_in bs)
  no_parts a h = sym (append-nil a) ∙ ap (λ (ps : List Part). a ++ written_parts ps) (sym (nil_from_length (parts_in bs) (omega (arith, as_many))))

  pub parts_first : (a b d : List ℕ) (p : Part) (ns : List ℕ) → 1 ≤ length xs → ns ≡ map value (get_or xs 0 []) → ((b : List ℕ) → ns ≡ fields_from 2 0 b → p ≡ part_in b)
      → b ≡ a ++ written_part p → d ≡ b ++ flat_map another_part (drop 1 (parts_in bs)) → d ≡ a ++ written_parts (parts_in bs)
  parts_first a b d p ns h f g i j =
      let ps : List Part = parts_in bs in
      let m : ps ≡ get_or ps 0 p ∷ drop 1 ps = drop_more ps 0 p (omega (arith, as_many)) in
      let r : p ≡ get_or ps 0 p = part_there 0 p ns (omega arith) f g in
      j ∙ ap (λ (x : List ℕ). x ++ flat_map another_part (drop 1 ps)) i ∙ append_assoc a (written_part p) (flat_map another_part (drop 1 ps))
      ∙ ap (λ (q : Part). a ++ written_parts (q ∷ drop 1 ps)) r ∙ ap (λ (qs : List Part). a ++ written_parts qs) (sym m)

  -- A TURN OF THE LOOP: one more is written
  pub parts_more : (i o b d : List ℕ) (k : ℕ) (p : Part) (ns : List ℕ) → k < length (take (length xs - 1) (drop 1 xs)) → ns ≡ map value (get_or (take (length xs - 1) (drop 1 xs)) k [])
      → ((b : List ℕ) → ns ≡ fields_from 2 0 b → p ≡ part_in b) → o ≡ i ++ flat_map another_part (take k (drop 1 (parts_in bs))) → b ≡ o ++ codes "," → d ≡ b ++ written_part p
      → d ≡ i ++ flat_map another_part (take (k + 1) (drop 1 (parts_in bs)))
  parts_more i o b d k p ns h f g u v w =
      let ps : List Part = drop 1 (parts_in bs) in
      let t : take (length xs - 1) (drop 1 xs) ≡ drop 1 xs = take_rest xs 1 in
      let l : 1 + k < length xs = omega (arith, ap length t, length-drop 1 xs) in
      let n : ns ≡ map value (get_or xs (1 + k) []) = f ∙ ap (λ (ys : List (List (List ℕ))). map value (get_or ys k [])) t ∙ ap (map value) (get_or-drop 1 xs k []) in
      let r : p ≡ get_or ps k p = part_there (1 + k) p ns l n g ∙ sym (get_or-drop 1 (parts_in bs) k p) in
      let m : take (k + 1) ps ≡ take k ps ++ (get_or ps k p ∷ []) = take_more ps k p (omega (arith, as_many, length-drop 1 (parts_in bs))) in
      w ∙ ap (λ (x : List ℕ). x ++ written_part p) (v ∙ ap (λ (x : List ℕ). x ++ codes ",") u)
      ∙ append_assoc (i ++ flat_map another_part (take k ps)) (codes ",") (written_part p)
      ∙ flat_map_more another_part i (take k ps) p
      ∙ ap (λ (q : Part). i ++ flat_map another_part (take k ps ++ (q ∷ []))) r
      ∙ ap (λ (qs : List Part). i ++ flat_map another_part qs) (sym m)

  pub parts_all : (k : ℕ) → length (take (length xs - 1) (drop 1 xs)) ≤ k → take k (drop 1 (parts_in bs)) ≡ drop 1 (parts_in bs)
  parts_all k h = take_all k (drop 1 (parts_in bs)) (omega (arith, as_many, ap length (take_rest xs 1), length-drop 1 xs, length-drop 1 (parts_in bs)))

-- a recipe whose bytes are parts
pub recipe_well : (a b d e bs : List ℕ) (i : ℕ) → are_parts bs ≡ true → b ≡ a ++ (codes "made of " ++ spaced (i ∷ [])) → d ≡ b ++ codes ":" → e ≡ d ++ written_parts (parts_in bs)
    → e ≡ a ++ recipe_line i bs
recipe_well a b d e bs i t f' g h =
    let f : b ≡ a ++ (codes "made of " ++ decimal i) = f' ∙ ap (λ (x : List ℕ). a ++ (codes "made of " ++ x)) (spaced_one i) in
    let W : List ℕ = written_parts (parts_in bs) in
    h ∙ ap (λ (x : List ℕ). x ++ W) (g ∙ ap (λ (x : List ℕ). x ++ codes ":") f)
    ∙ append_assoc (a ++ (codes "made of " ++ decimal i)) (codes ":") W
    ∙ append_assoc a (codes "made of " ++ decimal i) (codes ":" ++ W)
    ∙ ap (λ (x : List ℕ). a ++ x) (append_assoc (codes "made of ") (decimal i) (codes ":" ++ W) ∙ sym (cond-true (are_parts bs) (codes "made of " ++ (decimal i ++ (codes ":" ++ W))) [] t))
