-- Not `using(..)` on the function: with it the search does not close the goal.
use Rattle.firm.proofs.statements.recipe_taking_keeps_stands.Goals as goal
use Rattle.firm.proofs.RecipeTaking.{recipe_taking_keeps}

pub returns : goal.returns
returns c = recipe_taking_keeps
