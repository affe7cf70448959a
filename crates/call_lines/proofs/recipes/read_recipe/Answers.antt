use Rattle.std.proofs.Common.{◌≡◌, ℕ, ◌<◌, List, [], ◌∷◌, length, vec_items, ap, ◌∙◌, arith}
use Rattle.std.proofs.lemmas.Slice.{pushed}
use Rattle.call_lines.specs.Recipes.{parts, appended}
use Rattle.call_lines.proofs.RecipeBytes.{begun, begun_long, recipe_bytes}
use Rattle.call_lines.proofs.recipes.read_recipe.Goals as goal

pub index_mut-requires : goal.index_mut-requires
index_mut-requires c =
    let kept : vec_items c.push.new.self ≡ begun c.in_ok-item.item = pushed (0 ∷ []) c.in_ok-put_row.ensures c.in_ok-push.was c.push.ensures.items in
    let long : 9 < length (vec_items c.read_parts.new.out) =
    begun_long c.in_ok-item.item c.in_ok-count.count (vec_items c.read_parts.new.out) (parts 255 [] c.in_ok-item.rest.now)
    (c.in_ok-count.ensures ∙ ap (λ (b : List ℕ). appended b (parts 255 [] c.in_ok-item.rest.now)) kept) in
    omega (arith, long, c.read_parts.new.out.ok.0)

pub returns : goal.returns
returns c =
    let kept : vec_items c.push.new.self ≡ begun c.in_ok-item.item = pushed (0 ∷ []) c.in_ok-put_row.ensures c.in_ok-push.was c.push.ensures.items in
    recipe_bytes c.args.line.now c.in_ok-item.rest.now (vec_items c.read_parts.new.out) c.in_ok-item.item c.in_ok-count.count c.in_ok-item.ensures
    (c.in_ok-count.ensures ∙ ap (λ (b : List ℕ). appended b (parts 255 [] c.in_ok-item.rest.now)) kept)
