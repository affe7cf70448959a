-- Not `using(..)` on the function: with it the search does not close the goal.
use Rattle.firm.proofs.statements.counted_there_stands.Goals as goal
use Rattle.firm.proofs.Counting.{counted_there}

pub returns : goal.returns
returns c = counted_there
