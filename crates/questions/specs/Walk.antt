-- A walk along a row: a value that each of its cells changes, from the front on. Definitions only: nothing is assumed.
use Rattle.std.specs.Prelude.{ℕ, List}
use Rattle.std.specs.List.{fold}
use Rattle.links.specs.Walk.{cells_in}
use Rattle.links.specs.declared.shape.Shape.{Shape}

-- f with each cell of row r in turn, beginning from a
abbrev pub walked : {A : Type 0} → (A → ℕ → A) → Shape → List ℕ → ℕ → A → A
walked f h n r a = fold f a (cells_in h n r)
