-- Not `using(..)` on the function: with it the search does not close the goal.
use Rattle.session.proofs.Keeping.{all_steps, stays}
use Rattle.session.proofs.promises.refusals_keep.Goals as goal

pub refusal_keeps_by_steps-requires : goal.refusal_keeps_by_steps-requires
refusal_keeps_by_steps-requires c = record { steps = all_steps; stays = stays }
