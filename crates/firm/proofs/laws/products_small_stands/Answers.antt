-- Not `using(..)` on the function: with it the search does not close the goal.
use Rattle.firm.proofs.laws.products_small_stands.Goals as goal
use Rattle.firm.proofs.Bounds.{products_small}

pub returns : goal.returns
returns c = products_small
