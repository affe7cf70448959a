-- The numbers of a call, up to the line's end. Definitions only: nothing is assumed.
use Rattle.std.specs.Prelude.{ℕ, zero, suc, List, [], ◌∷◌, Ok}
use Rattle.words.specs.Readers.{Read, then, number, end}

unfoldable pub one : List ℕ → Read ℕ
one s = then (number s) (λ a. then (end a.1) (λ _. Ok a.0))

unfoldable pub two : List ℕ → Read (ℕ × ℕ)
two s = then (number s) (λ a. then (one a.1) (λ b. Ok (a.0, b)))

unfoldable pub three : List ℕ → Read (ℕ × ℕ × ℕ)
three s = then (number s) (λ a. then (two a.1) (λ b. Ok (a.0, b.0, b.1)))

-- so many
unfoldable pub numbers : ℕ → List ℕ → Read (List ℕ)
numbers zero s = then (end s) (λ _. Ok [])
numbers (suc n) s = then (number s) (λ a. then (numbers n a.1) (λ ns. Ok (a.0 ∷ ns)))
