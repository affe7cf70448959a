use Rattle.std.proofs.Common.{arith}
use Rattle.std.proofs.lemmas.List.{take_rest}
use Rattle.wire.proofs.RecipeBytes.{recipe_is}
use Rattle.wire.proofs.Heads.{first_is}
use Rattle.wire.proofs.recipe.read_recipe.Goals as goal

pub returns : goal.returns
returns c =
    recipe_is c.args.bytes.now _ c.in_ok-item.item (omega arith) (omega (arith, c.type_inv.bytes 9)) (take_rest c.args.bytes.now 10)
    (first_is c.args.bytes.now c.in_ok-item.item (omega arith) c.in_ok-item.ensures)
