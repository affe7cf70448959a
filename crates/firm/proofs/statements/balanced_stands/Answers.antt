-- Not `using(..)` on the function: with it the search does not close the goal.
use Rattle.firm.proofs.statements.balanced_stands.Goals as goal
use Rattle.firm.proofs.Balance.{balanced}

pub returns : goal.returns
returns c = balanced
