-- Not `using(..)` on the function: with it the search does not close the goal.
use Rattle.session.proofs.Keeping.{all_steps}
use Rattle.session.proofs.promises.answers_are_right.Goals as goal

pub right_by_steps-requires : goal.right_by_steps-requires
right_by_steps-requires c = all_steps
