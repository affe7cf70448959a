use Rattle.std.proofs.Common.{◌≡◌}
use Rattle.links.specs.Walk.{cells_left}
use Rattle.memory.specs.Lent.{seen}
use Rattle.taking.proofs.Along.{cost_along}
use Rattle.taking.specs.Takes.{cost_of}
use Rattle.taking.proofs.costs.cost_of.Given as goal

abbrev pub invariant-loop-cell : goal.invariant-loop-cell
invariant-loop-cell l = cost_along l.view.limits (seen l.view) (cells_left l.cell-iterator) l.left l.cost ≡ cost_of l.view.limits l.fn.want (seen l.view)
