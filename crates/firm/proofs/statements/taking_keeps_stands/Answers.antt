-- Not `using(..)` on the function: with it the search does not close the goal.
use Rattle.firm.proofs.statements.taking_keeps_stands.Goals as goal
use Rattle.firm.proofs.Taking.{taking_keeps}

pub returns : goal.returns
returns c = taking_keeps
