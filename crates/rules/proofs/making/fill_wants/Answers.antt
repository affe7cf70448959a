use Rattle.std.proofs.Common.{refl, ap, ◌∙◌, arith, length-set}
use Rattle.rules.specs.Making.{part_wanted, wants_of}
use Rattle.rules.proofs.Rows.{row_written, all_written}
use Rattle.rules.proofs.making.fill_wants.Goals as goal

pub loop-part-init : goal.loop-part-init
unfolding wants_of
loop-part-init c = (c.told-wants, refl)

pub loop-part-preserved : goal.loop-part-preserved
loop-part-preserved c =
    let h = c.loop-part.invariant in (
      length-set c.loop-part.wants c.loop-part.part c.part_wanted.result ∙ h.0,
      row_written c.args.view.limits c.args.recipe.first c.args.pieces c.args.view.narrow.now c.loop-part.wants _ c.loop-part.part c.part_wanted.result h.0 (omega (arith, c.loop-part-test.true)) h.1
          (c.part_wanted.ensures ∙ ap (λ r. part_wanted c.args.view.limits r c.args.pieces c.args.view.narrow.now) (omega (arith, c.saturating_add-row.ensures))),
    )

pub returns : goal.returns
returns c =
    all_written c.args.view.limits c.args.recipe.first c.args.pieces c.args.view.narrow.now c.loop-part.wants _ c.loop-part.part c.loop-part.invariant.0 (omega (arith, c.loop-part-test.false)) c.loop-part.invariant.1
