-- What the loops leave that empty rows and chain cells: the words that they write, and the others.
use Rattle.std.proofs.Common.{◌≡◌, ℕ, zero, suc, ◌+◌, ◌<◌, ◌≤◌, ◌≢◌, List, length, get_or, set, sym, refl, ap, ◌∙◌, ⊎_elim, arith, length-set, get_or-set_other, get_or-set_same}
use Rattle.std.proofs.lemmas.Bool.{cases_eq}
use Rattle.links.specs.Area.{place_at, tail_at, header_of, Sound, Lies, emptied, chained}
use Rattle.links.specs.declared.shape.Shape.{Shape}
use Rattle.links.proofs.Addresses.{header_is, place_inside, tail_inside, places_apart, tails_apart, place_tail_apart}
use Rattle.links.proofs.View.{lies_kept}

pub length_chained : (k : ℕ) (h : Shape) (c : ℕ) (n : List ℕ) → length (chained k h c n) ≡ length n
length_chained zero h c n = refl
length_chained (suc k) h c n = length_chained k h (c + 1) _ ∙ length-set n _ _

pub length_emptied : (k : ℕ) (h : Shape) (r : ℕ) (n : List ℕ) → length (emptied k h r n) ≡ length n
length_emptied zero h r n = refl
length_emptied (suc k) h r n = length_emptied k h (r + 1) _ ∙ length-set _ _ _ ∙ length-set n _ _

-- a word that is the link of none of the cells
pub chained_other : (k : ℕ) (h : Shape) (c : ℕ) (n : List ℕ) (i : ℕ) → ((d : ℕ) → c ≤ d → d < c + k → i ≢ place_at h d) → get_or (chained k h c n) i 0 ≡ get_or n i 0
chained_other zero h c n i out = refl
chained_other (suc k) h c n i out = chained_other k h (c + 1) _ i (λ d ge lt. out d (omega arith) (omega arith)) ∙ get_or-set_other n (place_at h c) i (c + 1) 0 (out c (omega arith) (omega arith))

-- a word that is none of the rows'
pub emptied_other : (k : ℕ) (h : Shape) (r : ℕ) (n : List ℕ) (i : ℕ) → ((s : ℕ) → r ≤ s → s < r + k → (i ≢ place_at h (header_of h s)) × (i ≢ tail_at h s)) →
    get_or (emptied k h r n) i 0 ≡ get_or n i 0
emptied_other zero h r n i out = refl
emptied_other (suc k) h r n i out =
    emptied_other k h (r + 1) _ i (λ s ge lt. out s (omega arith) (omega arith)) ∙ get_or-set_other _ (tail_at h r) i _ 0 (out r (omega arith) (omega arith)).1
    ∙ get_or-set_other n (place_at h (header_of h r)) i _ 0 (out r (omega arith) (omega arith)).0

module _ (h : Shape) (sound : Sound h) where
  -- headers are places
  header_place : (r : ℕ) → r < h.rows → header_of h r < h.cells + h.rows
  header_place r lt = omega (arith, header_is h r sound lt)

  heads_apart : (r s : ℕ) → r < h.rows → s < h.rows → r ≢ s → place_at h (header_of h r) ≢ place_at h (header_of h s)
  heads_apart r s lr ls ne =
      places_apart h sound (header_of h r) (header_of h s) (header_place r lr) (header_place s ls) (λ e. ne (omega (arith, header_is h r sound lr, header_is h s sound ls)))

  head_tail_apart : (r s : ℕ) → r < h.rows → s < h.rows → place_at h (header_of h r) ≢ tail_at h s
  head_tail_apart r s lr ls = place_tail_apart h sound (header_of h r) s (header_place r lr) ls

  pub chained_at : (k c : ℕ) (n : List ℕ) (i : ℕ) → Lies h n → c + k ≤ h.cells → c ≤ i → i < c + k → get_or (chained k h c n) (place_at h i) 0 ≡ i + 1
  chained_at zero c n i lies few le lt = absurd (omega arith)
  chained_at (suc k) c n i lies few le lt =
      ⊎_elim
      (λ (e : i ≡ c).
      chained_other k h (c + 1) _ (place_at h i) (λ d ge l. places_apart h sound i d (omega arith) (omega arith) (λ q. omega arith)) ∙ ap (λ j. get_or (set n (place_at h c) (c + 1)) (place_at h j) 0) e
      ∙ get_or-set_same n (place_at h c) (c + 1) 0 (place_inside h sound n lies c (omega arith)) ∙ ap (λ j. j + 1) (sym e))
      (λ (ne : i ≡ c → ⊥). chained_at k (c + 1) (set n (place_at h c) (c + 1)) i (lies_kept h n _ (length-set n (place_at h c) (c + 1)) lies) (omega arith) (omega arith) (omega arith))
      (cases_eq i c)

  pub emptied_at : (k r : ℕ) (n : List ℕ) (i : ℕ) → Lies h n → r + k ≤ h.rows → r ≤ i → i < r + k →
      (get_or (emptied k h r n) (place_at h (header_of h i)) 0 ≡ h.cells) × (get_or (emptied k h r n) (tail_at h i) 0 ≡ header_of h i)
  emptied_at zero r n i lies few le lt = absurd (omega arith)
  emptied_at (suc k) r n i lies few le lt =
      ⊎_elim
      (λ (e : i ≡ r). (
        emptied_other k h (r + 1) n₂ (place_at h (header_of h i)) (λ s ge l. (heads_apart i s (omega arith) (omega arith) (λ q. omega arith), head_tail_apart i s (omega arith) (omega arith)))
            ∙ get_or-set_other n₁ (tail_at h r) (place_at h (header_of h i)) (header_of h r) 0 (head_tail_apart i r (omega arith) (omega arith))
            ∙ ap (λ j. get_or n₁ (place_at h (header_of h j)) 0) e ∙ get_or-set_same n (place_at h (header_of h r)) h.cells 0 (place_inside h sound n lies (header_of h r) (header_place r (omega arith))),
        emptied_other k h (r + 1) n₂ (tail_at h i) (λ s ge l. (λ q. head_tail_apart s i (omega arith) (omega arith) (sym q), tails_apart h sound i s (λ q. omega arith))) ∙ ap (λ j. get_or n₂ (tail_at h j) 0) e
            ∙ get_or-set_same n₁ (tail_at h r) (header_of h r) 0 (tail_inside h sound n₁ lies₁ r (omega arith)) ∙ ap (header_of h) (sym e),
      ))
      (λ (ne : i ≡ r → ⊥). emptied_at k (r + 1) n₂ i (lies_kept h n₁ n₂ (length-set n₁ (tail_at h r) (header_of h r)) lies₁) (omega arith) (omega arith) (omega arith))
      (cases_eq i r)
    where
      n₁ : List ℕ
      n₁ = set n (place_at h (header_of h r)) h.cells

      n₂ : List ℕ
      n₂ = set n₁ (tail_at h r) (header_of h r)

      lies₁ : Lies h n₁
      lies₁ = lies_kept h n n₁ (length-set n (place_at h (header_of h r)) h.cells) lies
