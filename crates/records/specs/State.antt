-- What the two lent slices hold.
use Rattle.std.specs.Prelude.{ℕ, List}

pub record State : Type 0 where
  pub wide : List ℕ
  pub narrow : List ℕ

abbrev pub state : List ℕ → List ℕ → State
state w n = record { wide = w; narrow = n }
