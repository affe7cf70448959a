-- Not `using(..)` on the function: with it the search does not close the goal.
use Rattle.firm.proofs.promises.refusal_keeps_by_steps.Goals as goal
use Rattle.firm.proofs.Keeping.{refusal_keeps_by_steps}

pub returns : goal.returns
returns g c = refusal_keeps_by_steps (g.K.Keeps.keeper c.args.k.now) (g.K.Keeps.stands c.args.k.now) (g.K.Keeps.stage c.args.k.now) c.requires.steps c.requires.stays
