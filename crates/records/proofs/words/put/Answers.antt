use Rattle.std.proofs.Common.{rules, refl}
use Rattle.records.proofs.Parts.{part_long, part_written, part_over, part_whole}
use Rattle.records.proofs.words.put.Goals as goal

pub loop-k-init : goal.loop-k-init
loop-k-init g c = refl

pub loop-k-preserved : goal.loop-k-preserved
loop-k-preserved g c =
    part_written g.row.N c.loop-k.k c.loop-k.part c.args.row c.index-row-k.result (part_long c.args.at g.row.N c.args.words.now c.loop-k.part c.requires c.loop-k.auto.part) (search rules) c.loop-k-test.true
    c.loop-k.invariant

pub returns : goal.returns
returns g c =
    part_over c.args.at g.row.N c.args.words.now c.loop-k.part c.args.row (search rules)
    (part_whole g.row.N c.loop-k.k c.loop-k.part c.args.row (part_long c.args.at g.row.N c.args.words.now c.loop-k.part c.requires c.loop-k.auto.part) (search rules) c.loop-k-test.false c.loop-k.invariant)
