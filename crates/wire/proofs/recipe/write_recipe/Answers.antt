use Rattle.std.proofs.Common.{ℕ, ◌+◌, ◌-◌, ◌/◌, List, length, set, sym, ap, ◌∙◌, arith}
use borrow.Rule.Slice.PartMut.{put_mid}
use Rattle.wire.proofs.RecipeBytes.{parts_few, recipe_too_long, recipe_fits}
use Rattle.wire.proofs.Heads.{head_goes_in}
use Rattle.wire.proofs.recipe.write_recipe.Goals as goal

pub returns-then-out-size : goal.returns-then-out-size
returns-then-out-size c =
    let few = parts_few c.args.parts.now (sym c.are_parts.ensures ∙ c.if-not-are_parts.false) in
    recipe_too_long c.args.item (length c.args.parts.now / 16) c.args.parts.now c.args.out.now (λ i. omega (arith, c.type_inv.parts i)) few.0 few.1 (omega arith)

pub returns-in_err-put : goal.returns-in_err-put
returns-in_err-put c = absurd (head_goes_in 8 c.args.item c.args.out.now c.put.new.out (omega arith) c.in_err-put.ensures)

pub returns : goal.returns
returns c =
    let few = parts_few c.args.parts.now (sym c.are_parts.ensures ∙ c.if-not-are_parts.false) in
    recipe_fits c.args.item c.count.result (10 + length c.args.parts.now - 10) c.put.result c.args.parts.now c.args.out.now c.put.new.out _
    (λ i. omega (arith, c.type_inv.parts i)) (omega (arith, few.0)) (omega (arith, few.1)) (omega arith) (omega arith) c.put.ensures
    (ap (λ (xs : List ℕ). put_mid 10 (10 + length c.args.parts.now - 10) (set c.put.new.out 9 c.count.result) xs) c.copy_from_slice.ensures.after)
