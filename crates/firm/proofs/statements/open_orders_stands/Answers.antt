-- Not `using(..)` on the function: with it the search does not close the goal.
use Rattle.firm.proofs.statements.open_orders_stands.Goals as goal
use Rattle.firm.proofs.Orders.{open_orders}

pub returns : goal.returns
returns c = open_orders
