use Rattle.std.proofs.Common.{◌<◌, length, ◌∙◌, arith}
use Rattle.memory.proofs.Holding.{same_on}
use Rattle.wire.specs.Said.{parts_in}
use Rattle.rules.proofs.PartRows.{kept_turns}
use Rattle.rules.proofs.recipes.add_parts.Goals as goal

pub loop-k-preserved : goal.loop-k-preserved
loop-k-preserved c =
    let few : c.loop-k.k < length (parts_in c.args.parts.now) = omega (arith, c.loop-k-test.true, c.count-k-end.ensures.rows) in (
      (same_on c.args.memory.now c.loop-k.memory c.add_part.new.memory c.loop-k.invariant.0.0 c.add_part.ensures.alone.0, c.add_part.ensures.alone.1 ∙ c.loop-k.invariant.0.1),
      kept_turns c.args.item (parts_in c.args.parts.now) c.loop-k.k c.args.memory.now.limits c.loop-k.memory.limits
          c.args.memory.now.narrow.now c.loop-k.memory.narrow.now c.add_part.new.memory.narrow.now c.in-Some.row c.add_part.result few c.loop-k.invariant.1 c.in-Some.ensures c.loop-k.invariant.0.0.2 c.add_part.ensures.narrow,
    )
