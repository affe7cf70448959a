-- A walk along a row: the cells that come, one after the other.
use Rattle.std.specs.Prelude.{ℕ, zero, suc, List, [], ◌∷◌, Some, None, Option}
use Rattle.links.specs.Area.{following_in, header_of}
use Rattle.links.specs.declared.cells.Cells.{Cells}
use Rattle.links.specs.declared.shape.Shape.{Shape}

-- k cells at most, from one on
abbrev pub cells_on : ℕ → Shape → List ℕ → Option ℕ → List ℕ
cells_on zero h n o = []
cells_on (suc k) h n None = []
cells_on (suc k) h n (Some c) = c ∷ cells_on k h n (following_in h n c)

-- the whole row r, of as many cells as there are at most
abbrev pub cells_in : Shape → List ℕ → ℕ → List ℕ
cells_in h n r = cells_on h.cells h n (following_in h n (header_of h r))

-- those that an iterator has left
unfoldable pub cells_left : Cells → List ℕ
cells_left s = cells_on s.left s.shape s.words.now (following_in s.shape s.words.now s.place)
