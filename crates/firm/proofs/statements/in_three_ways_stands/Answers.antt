-- Not `using(..)` on the function: with it the search does not close the goal.
use Rattle.firm.proofs.statements.in_three_ways_stands.Goals as goal
use Rattle.firm.proofs.Orders.{in_three_ways}

pub returns : goal.returns
returns c = in_three_ways
