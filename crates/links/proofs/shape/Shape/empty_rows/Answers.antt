use Rattle.std.proofs.Common.{sym, ◌∙◌, arith}
use Rattle.links.proofs.Steps.{emptied_more, emptied_all}
use Rattle.links.proofs.shape.Shape.empty_rows.Goals as goal

pub loop-row-preserved : goal.loop-row-preserved
loop-row-preserved c =
    let e = emptied_more c.args.self c.args.self.rows c.loop-row.row c.loop-row.words (omega arith) in
    cc

pub returns : goal.returns
returns c = sym (emptied_all c.args.self c.args.self.rows c.loop-row.row c.loop-row.words (omega arith)) ∙ c.loop-row.invariant
