use Rattle.std.proofs.Common.{rules}
use Rattle.reporting.specs.Columns.{aligned}
use Rattle.reporting.proofs.Aligned.{right_number}
use Rattle.reporting.proofs.columns.CellDisplay.fmt.Goals as goal

pub returns-clause-writes : goal.returns-clause-writes
unfolding aligned
returns-clause-writes g c = let e = rw (c.laid_out.ensures, right_number) at c.write.ensures.writes in search rules
