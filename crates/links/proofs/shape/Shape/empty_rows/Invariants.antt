use Rattle.std.proofs.Common.{◌≡◌, ◌-◌}
use Rattle.links.specs.Area.{emptied}
use Rattle.links.proofs.shape.Shape.empty_rows.Given as goal

abbrev pub invariant-loop-row : goal.invariant-loop-row
invariant-loop-row l = emptied (l.self.rows - l.row) l.self l.row l.words ≡ emptied l.self.rows l.self 0 l.initial.words
