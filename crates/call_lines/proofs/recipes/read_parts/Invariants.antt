use Rattle.std.proofs.Common.{vec_items}
use Rattle.call_lines.proofs.PartSteps.{Parted}
use Rattle.call_lines.proofs.recipes.read_parts.Given as goal

abbrev pub invariant-loop-count : goal.invariant-loop-count
invariant-loop-count l = Parted l.line l.rest (vec_items l.initial.out) (vec_items l.out) l.count
