-- Not `using(..)` on the function: with it the search does not close the goal.
use Rattle.firm.proofs.laws.orders_known_stands.Goals as goal
use Rattle.firm.proofs.Known.{reached_known}

pub returns : goal.returns
returns c = reached_known
