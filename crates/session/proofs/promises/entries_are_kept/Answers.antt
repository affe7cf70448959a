-- Not `using(..)` on the function: with it the search does not close the goal.
use Rattle.session.proofs.Agreeing.{entries_kept}
use Rattle.session.proofs.promises.entries_are_kept.Goals as goal

pub returns : goal.returns
returns c = entries_kept
