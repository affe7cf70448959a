use Rattle.std.proofs.Common.{sym, ◌∙◌, arith}
use Rattle.links.proofs.Steps.{chained_more, chained_all}
use Rattle.links.proofs.shape.Shape.chain_cells.Goals as goal

pub loop-cell-preserved : goal.loop-cell-preserved
loop-cell-preserved c =
    let e = chained_more c.args.self c.args.self.cells c.loop-cell.cell c.loop-cell.words (omega arith) in
    cc

pub returns : goal.returns
returns c = sym (chained_all c.args.self c.args.self.cells c.loop-cell.cell c.loop-cell.words (omega arith)) ∙ c.loop-cell.invariant
