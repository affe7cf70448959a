-- A walk along a row: what comes of an iterator's cells, and which cell a number of steps meets.
use Rattle.std.proofs.Common.{◌≡◌, ℕ, zero, suc, ◌+◌, ◌-◌, ◌<◌, List, [], ◌∷◌, Some, None, Option, sym, refl, ap, ◌∙◌, arith}
use Rattle.std.specs.List.{slice_get}
use Rattle.links.specs.Area.{following_in, on_in}
use Rattle.links.specs.Walk.{cells_on, cells_left}
use Rattle.links.specs.declared.cells.Cells.{Cells}
use Rattle.links.specs.declared.shape.Shape.{Shape}

-- no steps are left, or no cell follows
on_zero : (k : ℕ) (h : Shape) (n : List ℕ) (o : Option ℕ) → k ≡ 0 → cells_on k h n o ≡ []
on_zero k h n o e = ap (λ (j : ℕ). cells_on j h n o) e

on_none : (k : ℕ) (h : Shape) (n : List ℕ) (o : Option ℕ) → None ≡ o → cells_on k h n o ≡ []
on_none zero h n o e = refl
on_none (suc k) h n o e = ap (cells_on (suc k) h n) (sym e)

on_some : (k : ℕ) (h : Shape) (n : List ℕ) (o : Option ℕ) (c : ℕ) → 0 < k → Some c ≡ o → cells_on k h n o ≡ c ∷ cells_on (k - 1) h n (following_in h n c)
on_some zero h n o c lt e = absurd (omega arith)
on_some (suc k) h n o c lt e = let z : suc k - 1 ≡ k = omega arith in ap (cells_on (suc k) h n) (sym e) ∙ ap (λ (j : ℕ). c ∷ cells_on j h n (following_in h n c)) (sym z)

module _ (s : Cells) where
  pub spent : s.left ≡ 0 → cells_left s ≡ []
  unfolding cells_left
  spent e = on_zero s.left s.shape s.words.now _ e

  pub ended : None ≡ following_in s.shape s.words.now s.place → cells_left s ≡ []
  unfolding cells_left
  ended e = on_none s.left s.shape s.words.now _ e

  pub moved : (c : ℕ) → 0 < s.left → Some c ≡ following_in s.shape s.words.now s.place → cells_left s ≡ c ∷ cells_left (record { shape = s.shape; words = s.words; place = c; left = s.left - 1 })
  unfolding cells_left
  moved c lt e = on_some s.left s.shape s.words.now _ c lt e

-- the cell k steps on
pub step_met : (k : ℕ) (h : Shape) (n : List ℕ) (o : Option ℕ) → slice_get (cells_on (k + 1) h n o) k ≡ on_in k h n o
step_met k h n o = let z : k + 1 ≡ suc k = omega arith in ap (λ (j : ℕ). slice_get (cells_on j h n o) k) z ∙ go k o
  where
    go : (k : ℕ) (o : Option ℕ) → slice_get (cells_on (suc k) h n o) k ≡ on_in k h n o
    go zero None = refl
    go zero (Some c) = refl
    go (suc k) None = refl
    go (suc k) (Some c) = go k (following_in h n c)
