use Rattle.std.proofs.Common.{ap, subst}
use Rattle.firm.specs.Calls.{Answer}
use Rattle.memory.specs.Lent.{words}
use Rattle.rules.specs.Making.{made}
use Rattle.rules.specs.Outcome.{Outcome}
use Rattle.taking.proofs.CountingOff.{counted_few}
use Rattle.session.specs.Calling.{Said}
use Rattle.session.proofs.Telling.{lots_said}
use Rattle.session.proofs.calling.say_makes.Goals as goal

pub returns-in-Ok-clause-bytes : goal.returns-in-Ok-clause-bytes
returns-in-Ok-clause-bytes c =
    let l = c.args.memory.now.limits in
    let ps = (made l c.args.item c.args.pieces (words c.args.memory.now)).parts in
    subst (λ (a : Answer). Said a c.taken_length.result c.args.out.now c.makes.new.answer) (ap (λ (o : Outcome). o.answer) c.in-Ok.ensures.outcome)
    (lots_said l ps c.in-Ok.taken c.taken_length.result c.args.out.now c.makes.new.answer c.taken_length.ensures (counted_few l _ _) c.requires c.in-Ok.ensures.answer)
