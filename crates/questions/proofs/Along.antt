-- A walk meets the cells of its row, in order. Assumes nothing.
use Rattle.std.proofs.Common.{◌≡◌, ℕ, ◌<◌, List, ap}
use Rattle.std.specs.List.{fold}
use Rattle.links.specs.Area.{Sound}
use Rattle.links.specs.Model.{row}
use Rattle.links.specs.Rows.{Rows}
use Rattle.links.specs.declared.shape.Shape.{Shape}
use Rattle.links.proofs.Laws.{meets}
use Rattle.questions.specs.Walk.{walked}

pub walked_row : {A : Type 0} (f : A → ℕ → A) (h : Shape) (n : List ℕ) (m : List (List ℕ)) (r : ℕ) (a : A) → Sound h → Rows h n m → r < h.rows → walked f h n r a ≡ fold f a (row m r)
walked_row f h n m r a sound rows lt = ap (fold f a) (meets h n m r sound rows lt)
