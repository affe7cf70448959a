-- Numbers as calls have them. Assumes nothing.
use Rattle.std.proofs.Common.{◌≡◌, ℕ, List, [], ◌∷◌, ◌++◌, decimal, ap, append-nil}
use Rattle.words.specs.Spaced.{another_number, spaced}
use Rattle.call_lines.specs.Written.{written_two}

pub spaced_one : (a : ℕ) → spaced (a ∷ []) ≡ decimal a
spaced_one a = append-nil (decimal a)

pub spaced_two : (a b : ℕ) → spaced (a ∷ (b ∷ [])) ≡ written_two a b
spaced_two a b = ap (λ (x : List ℕ). decimal a ++ x) (append-nil (another_number b))
