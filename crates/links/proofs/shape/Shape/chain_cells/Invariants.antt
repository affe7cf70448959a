use Rattle.std.proofs.Common.{◌≡◌, ◌-◌}
use Rattle.links.specs.Area.{chained}
use Rattle.links.proofs.shape.Shape.chain_cells.Given as goal

abbrev pub invariant-loop-cell : goal.invariant-loop-cell
invariant-loop-cell l = chained (l.self.cells - l.cell) l.self l.cell l.words ≡ chained l.self.cells l.self 0 l.initial.words
