-- Not `using(..)` on the function: with it the search does not close the goal.
use Rattle.firm.proofs.laws.lots_small_stands.Goals as goal
use Rattle.firm.proofs.Bounds.{reached_small}

pub returns : goal.returns
returns c = reached_small
