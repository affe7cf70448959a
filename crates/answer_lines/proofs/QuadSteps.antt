-- Lines of four fields, one after the other. Assumes nothing.
use Rattle.std.proofs.Common.{◌≡◌, ℕ, zero, suc, ◌-◌, ◌/◌, ◌<◌, ◌≤◌, Bool, true, false, cond, List, [], ◌∷◌, ◌++◌, map, length, get_or, take, drop, Some, None, Ok, Err, codes, decimal, sym, refl, ap, ◌∙◌, append_assoc, append-nil, arith}
use Rattle.std.specs.List.{flat_map}
use Rattle.std.proofs.lemmas.List.{take_rest}
use Rattle.words.specs.Spaced.{another_number, spaced}
use Rattle.std.proofs.lemmas.List.Folds.{flat_map-map}
use Rattle.fields.specs.Bytes.{value, field_at, fields_from, rows_of}
use Rattle.wire.specs.Rows.{rows, lot_in, entry_in}
use Rattle.wire.proofs.RowLaws.{field_rows}
use Rattle.wire.specs.Told.{lots_in, entries_in, if_lines}
use Rattle.firm.specs.Calls.{Answer, lots, entries}
use Rattle.answer_lines.specs.Shown.{shown, shown_two, shown_four, shown_list, shown_lot, shown_entry}
use Rattle.answer_lines.specs.Showings.{shown_if, showing_of, whole, lines_showing, lines_shown}
use Rattle.answer_lines.specs.declared.error.ShowError.TheVariants.{NoAnswer}
use Rattle.answer_lines.specs.Quads.{quad_in, quads_in, shown_quad}

-- numbers with spaces between
pub spaced_two : (a b : ℕ) → spaced (a ∷ (b ∷ [])) ≡ shown_two a b
spaced_two a b = ap (λ (x : List ℕ). decimal a ++ x) (append-nil (another_number b))

pub spaced_four : (a b c d : ℕ) → spaced (a ∷ (b ∷ (c ∷ (d ∷ [])))) ≡ shown_four a b c d
spaced_four a b c d =
    ap (λ (x : List ℕ). decimal a ++ (another_number b ++ (another_number c ++ x))) (append-nil (another_number d))
    ∙ ap (λ (x : List ℕ). decimal a ++ (another_number b ++ x)) (append_assoc (codes " ") (decimal c) (another_number d))
    ∙ sym (append_assoc (decimal a) (another_number b) (codes " " ++ shown_two c d))

-- LISTS that are read in two ways and look the same
module _ {A B : Type 0} (f : A → List ℕ) (read : List ℕ → A) (g : B → List ℕ) (other : List ℕ → B) (e : (bs : List ℕ) → f (read bs) ≡ g (other bs)) where
  others_same : (n : ℕ) (bs : List ℕ) → flat_map (λ y. codes ", " ++ f y) (rows read 32 n bs) ≡ flat_map (λ y. codes ", " ++ g y) (rows other 32 n bs)
  unfolding rows
  others_same zero bs = refl
  others_same (suc n) bs =
      ap (λ (x : List ℕ). (codes ", " ++ x) ++ flat_map (λ y. codes ", " ++ f y) (rows read 32 n (drop 32 bs))) (e bs)
      ∙ ap (λ (x : List ℕ). (codes ", " ++ g (other bs)) ++ x) (others_same n (drop 32 bs))

  list_same : (n : ℕ) (bs : List ℕ) → shown_list f (rows read 32 n bs) ≡ shown_list g (rows other 32 n bs)
  unfolding rows
  list_same zero bs = refl
  list_same (suc n) bs =
      ap (λ (x : List ℕ). x ++ flat_map (λ y. codes ", " ++ f y) (rows read 32 n (drop 32 bs))) (e bs) ∙ ap (λ (x : List ℕ). g (other bs) ++ x) (others_same n (drop 32 bs))

-- lines of words are shown as lines of four numbers
abbrev pub words_shown : List (List ℕ) → List ℕ
words_shown ws = spaced (map value ws)

abbrev pub another_words : List (List ℕ) → List ℕ
another_words ws = codes ", " ++ words_shown ws

quad_shown : (bs : List ℕ) → spaced (fields_from 4 0 bs) ≡ shown_quad (quad_in bs)
unfolding quad_in
quad_shown bs = spaced_four (field_at 0 bs) (field_at 8 bs) (field_at 16 bs) (field_at 24 bs)

rows_shown : (n : ℕ) (bs : List ℕ) → shown_list spaced (rows_of 4 n bs) ≡ shown_list shown_quad (rows quad_in 32 n bs)
rows_shown n bs = ap (shown_list spaced) (field_rows 4 n bs) ∙ list_same spaced (fields_from 4 0) shown_quad quad_in quad_shown n bs

module _ (a bs : List ℕ) where
  pub quads_none : (xs : List (List (List ℕ))) (b : List ℕ) → length xs < 1 → map (map value) xs ≡ rows_of 4 (length bs / 32) bs → b ≡ a ++ codes "none" → b ≡ a ++ shown_list shown_quad (quads_in bs)
  unfolding quads_in
  quads_none [] b h e f = f ∙ ap (λ (x : List ℕ). a ++ x) (ap (shown_list spaced) e ∙ rows_shown (length bs / 32) bs)
  quads_none (x ∷ xs) b h e f = absurd (omega arith)

  pub quads_shown : (xs others : List (List (List ℕ))) (b d : List ℕ) → 1 ≤ length xs → map (map value) xs ≡ rows_of 4 (length bs / 32) bs → b ≡ a ++ words_shown (get_or xs 0 []) → others ≡ take (length xs - 1) (drop 1 xs)
      → d ≡ b ++ flat_map another_words others → d ≡ a ++ shown_list shown_quad (quads_in bs)
  unfolding quads_in
  quads_shown [] others b d h e f g i = absurd (omega arith)
  quads_shown (x ∷ xs) others b d h e f g i =
      let o : others ≡ xs = g ∙ take_rest (x ∷ xs) 1 in
      i ∙ ap (λ (y : List ℕ). y ++ flat_map another_words others) f ∙ append_assoc a (words_shown x) (flat_map another_words others)
      ∙ ap (λ (y : List (List (List ℕ))). a ++ (words_shown x ++ flat_map another_words y)) o
      ∙ ap (λ (y : List ℕ). a ++ (words_shown x ++ y)) (sym (flat_map-map (λ y. codes ", " ++ spaced y) (map value) xs))
      ∙ ap (λ (y : List (List ℕ)). a ++ shown_list spaced y) e ∙ ap (λ (y : List ℕ). a ++ y) (rows_shown (length bs / 32) bs)

-- LOTS AND ENTRIES are lines of four fields
lots_same : (bs : List ℕ) → shown_list shown_quad (quads_in bs) ≡ shown_list shown_lot (lots_in bs)
unfolding quads_in quad_in lots_in lot_in
lots_same bs = list_same shown_quad quad_in shown_lot lot_in (λ x. refl) (length bs / 32) bs

entries_same : (bs : List ℕ) → shown_list shown_quad (quads_in bs) ≡ shown_list shown_entry (entries_in bs)
unfolding quads_in quad_in entries_in entry_in
entries_same bs = list_same shown_quad quad_in shown_entry entry_in (λ x. refl) (length bs / 32) bs

-- a list is shown by its lines, if they are whole
if_whole : (b : Bool) (a : Answer) (s : List ℕ) → s ≡ shown a → (cond b (Ok tt) (Err NoAnswer) ≡ showing_of (cond b (Some a) None)) × (cond b s [] ≡ shown_if (cond b (Some a) None))
if_whole true a s e = (refl, e)
if_whole false a s e = (refl, refl)

pub lots_shown : (bs : List ℕ) → (lines_showing bs ≡ showing_of (if_lines bs (lots (lots_in bs)))) × (lines_shown bs ≡ shown_if (if_lines bs (lots (lots_in bs))))
unfolding shown
lots_shown bs = if_whole (whole bs) (lots (lots_in bs)) (shown_list shown_quad (quads_in bs)) (lots_same bs)

pub entries_shown : (bs : List ℕ) → (lines_showing bs ≡ showing_of (if_lines bs (entries (entries_in bs)))) × (lines_shown bs ≡ shown_if (if_lines bs (entries (entries_in bs))))
unfolding shown
entries_shown bs = if_whole (whole bs) (entries (entries_in bs)) (shown_list shown_quad (quads_in bs)) (entries_same bs)
