use Rattle.std.proofs.Common.{ap, subst}
use Rattle.firm.specs.Calls.{Answer}
use Rattle.records.specs.State.{state}
use Rattle.rules.specs.Going.{gone}
use Rattle.rules.specs.Outcome.{Outcome}
use Rattle.taking.proofs.TakingLaws.{takes_few}
use Rattle.session.specs.Calling.{Said}
use Rattle.session.proofs.Telling.{lots_said}
use Rattle.session.proofs.calling.say_goes.Goals as goal

pub returns-in-Ok-clause-bytes : goal.returns-in-Ok-clause-bytes
returns-in-Ok-clause-bytes c =
    let l = c.args.limits in
    let ps = (gone l c.args.order c.args.pieces (state c.args.wide.now c.args.narrow.now)).parts in
    subst (λ (a : Answer). Said a c.taken_length.result c.args.out.now c.goes.new.answer) (ap (λ (o : Outcome). o.answer) c.in-Ok.ensures.outcome)
    (lots_said l ps c.in-Ok.taken c.taken_length.result c.args.out.now c.goes.new.answer c.taken_length.ensures (takes_few l _ _) c.requires c.in-Ok.ensures.answer)
