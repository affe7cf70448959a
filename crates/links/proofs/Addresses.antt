-- Where the words of a shape lie: each in the slice, and no two at one address.
use Rattle.std.proofs.Common.{◌≡◌, ℕ, ◌+◌, ◌-◌, ◌*◌, ◌<◌, ◌≤◌, ltb, ◌≢◌, ◌⊎◌, List, length, refl, ap, ◌∙◌, subst, inl, inr, ⊎_elim, mul-le-mul_left, mul-add, arith}
use Rattle.std.proofs.lemmas.Bool.{cases_eq, cases_lt, cond-true, cond-false, lt-ltb, le-ltb}
use Rattle.links.specs.Area.{place_at, tail_at, header_of, Sound, Lies}
use Rattle.links.specs.declared.shape.Shape.{Shape}

pub cell_at : (h : Shape) (c : ℕ) → c < h.cells → place_at h c ≡ h.cells_at + h.cell_step * c
unfolding place_at
cell_at h c lt = cond-true (ltb c h.cells) _ _ (lt-ltb c h.cells lt)

pub head_at : (h : Shape) (r : ℕ) → place_at h (h.cells + r) ≡ h.heads_at + h.head_step * r
unfolding place_at
head_at h r =
    cond-false (ltb (h.cells + r) h.cells) (h.cells_at + h.cell_step * (h.cells + r)) (h.heads_at + h.head_step * (h.cells + r - h.cells)) (le-ltb (h.cells + r) h.cells (omega arith))
    ∙ ap (λ (i : ℕ). h.heads_at + h.head_step * i) (omega arith)

pub tail_lies : (h : Shape) (r : ℕ) → tail_at h r ≡ h.heads_at + h.head_step * r + 1
unfolding tail_at
tail_lies h r = refl

pub header_is : (h : Shape) (r : ℕ) → Sound h → r < h.rows → header_of h r ≡ h.cells + r
header_is h r sound lt = omega (arith, sound.places_few)

-- what lies at an index below another lies a step before it
steps : (s p q : ℕ) → p < q → s * p + s ≤ s * q
steps s p q lt =
    let le : s * (p + 1) ≤ s * q = mul-le-mul_left s (omega arith) in
    let one : s * 1 ≡ s = omega arith in
    omega (arith, mul-add s p 1)

-- two indices, apart by a step at least
steps_apart : (s p q : ℕ) → p ≢ q → (s * p + s ≤ s * q) ⊎ (s * q + s ≤ s * p)
steps_apart s p q ne = ⊎_elim (λ (lt : p < q). inl (steps s p q lt)) (λ (le : q ≤ p). inr (steps s q p (omega arith))) (cases_lt p q)

-- a place is a cell, or a header
pub data Place (h : Shape) : ℕ → Type 0 where
  cell : (c : ℕ) → c < h.cells → Place h c
  head : (r : ℕ) → r < h.rows → Place h (h.cells + r)

pub place_of : (h : Shape) (p : ℕ) → p < h.cells + h.rows → Place h p
place_of h p lt =
    ⊎_elim (λ (l : p < h.cells). cell p l)
    (λ (g : h.cells ≤ p). let e : h.cells + (p - h.cells) ≡ p = omega arith in subst (Place h) e (head (p - h.cells) (omega arith))) (cases_lt p h.cells)

module _ (h : Shape) (sound : Sound h) where
  heads_before : (r : ℕ) → r < h.rows → h.head_step * r + h.head_step ≤ h.head_step * h.rows
  heads_before r lt = steps h.head_step r h.rows lt

  -- every word lies in the slice
  pub place_inside : (n : List ℕ) → Lies h n → (p : ℕ) → p < h.cells + h.rows → place_at h p < length n
  place_inside n lies p lt = at p (place_of h p lt)
    where
      at : (q : ℕ) → Place h q → place_at h q < length n
      at _ (cell c l) = omega (arith, cell_at h c l, lies.cells, steps h.cell_step c h.cells l, sound.cells_apart)
      at _ (head r l) = omega (arith, head_at h r, lies.heads, heads_before r l, sound.heads_apart)

  pub tail_inside : (n : List ℕ) → Lies h n → (r : ℕ) → r < h.rows → tail_at h r < length n
  tail_inside n lies r lt = omega (arith, tail_lies h r, lies.heads, heads_before r lt, sound.heads_apart)

  -- and no two at one address
  pub places_apart : (p q : ℕ) → p < h.cells + h.rows → q < h.cells + h.rows → p ≢ q → place_at h p ≢ place_at h q
  places_apart p q lp lq ne = at p q (place_of h p lp) (place_of h q lq) ne
    where
      at : (p q : ℕ) → Place h p → Place h q → p ≢ q → place_at h p ≢ place_at h q
      at _ _ (cell c l) (cell d m) ne e =
          ⊎_elim (λ x. omega (arith, cell_at h c l, cell_at h d m, sound.cells_apart)) (λ x. omega (arith, cell_at h c l, cell_at h d m, sound.cells_apart)) (steps_apart h.cell_step c d ne)
      at _ _ (cell c l) (head r m) ne e = omega (arith, cell_at h c l, head_at h r, heads_before r m, sound.heads_first, sound.heads_apart)
      at _ _ (head r l) (cell d m) ne e = omega (arith, cell_at h d m, head_at h r, heads_before r l, sound.heads_first, sound.heads_apart)
      at _ _ (head r l) (head s m) ne e =
          ⊎_elim (λ x. omega (arith, head_at h r, head_at h s, sound.heads_apart)) (λ x. omega (arith, head_at h r, head_at h s, sound.heads_apart))
          (steps_apart h.head_step r s (λ (q : r ≡ s). ne (ap (λ (i : ℕ). h.cells + i) q)))

  pub tails_apart : (r s : ℕ) → r ≢ s → tail_at h r ≢ tail_at h s
  tails_apart r s ne e =
      ⊎_elim (λ x. omega (arith, tail_lies h r, tail_lies h s, sound.heads_apart)) (λ x. omega (arith, tail_lies h r, tail_lies h s, sound.heads_apart)) (steps_apart h.head_step r s ne)

  pub place_tail_apart : (p r : ℕ) → p < h.cells + h.rows → r < h.rows → place_at h p ≢ tail_at h r
  place_tail_apart p r lp lr = at p (place_of h p lp)
    where
      at : (p : ℕ) → Place h p → place_at h p ≢ tail_at h r
      at _ (cell c l) e = omega (arith, cell_at h c l, tail_lies h r, heads_before r lr, sound.heads_first, sound.heads_apart)
      at _ (head s l) e =
          ⊎_elim (λ (q : s ≡ r). omega (arith, head_at h s, tail_lies h r, ap (λ (i : ℕ). h.head_step * i) q))
          (λ (ne : s ≡ r → ⊥). ⊎_elim (λ x. omega (arith, head_at h s, tail_lies h r, sound.heads_apart)) (λ x. omega (arith, head_at h s, tail_lies h r, sound.heads_apart)) (steps_apart h.head_step s r ne)) (cases_eq s r)
