-- Not `using(..)` on the function: with it the search does not close the goal.
use Rattle.firm.proofs.laws.lots_come_to_stock_stands.Goals as goal
use Rattle.firm.proofs.ItemLots.{lots_come_to_stock}

pub returns : goal.returns
returns c = lots_come_to_stock
