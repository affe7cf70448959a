-- Parts of recipes kept, and recipes begun: what it means for the lists.
use Rattle.std.proofs.Common.{◌≡◌, ℕ, ◌+◌, ◌<◌, List, [], ◌∷◌, ◌++◌, length, Ok, sym, ap, ◌∙◌, subst, ⊎_elim, arith}
use Rattle.std.proofs.lemmas.List.{length_push}
use Rattle.std.proofs.lemmas.Bool.{cases_eq}
use Rattle.layout.proofs.Owners.{differ}
use Rattle.layout.specs.Layout.{Good}
use Rattle.layout.specs.Words.{counters, parts, recipes}
use Rattle.layout.specs.declared.head.Counter.TheVariants.{Parts}
use Rattle.layout.specs.declared.limits.Limits.{Limits}
use Rattle.memory.proofs.Head.{count_same, count_kept}
use Rattle.memory.proofs.Slots.{part_slots, recipe_slots}
use Rattle.memory.specs.Books.{count_of, put_count, part_record, put_part, recipe_of, put_recipe}
use Rattle.memory.specs.Slots.{Within}
use Rattle.records.specs.Kinds.{part_kind}
use Rattle.records.specs.State.{State, state}
use Rattle.records.specs.declared.part.Part.{Part}
use Rattle.records.specs.declared.recipe.Recipe.{Recipe}
use Rattle.store.specs.Laws.{with_parts, with_recipe, AddsPart, RefusesPart, AddsRecipe, RefusesRecipe}
use Rattle.store.specs.Steps.{after, part_placed, front, recipe_placed}
use Rattle.store.specs.View.{Kept, Stands}
use Rattle.store.proofs.Beside.{BesideRecipes, beside_recipes_at_parts, beside_recipes_at_recipes, beside_recipes_count, counted}
use Rattle.store.proofs.Tables.{table_push, at_same, at_other, when_lt, when_ge}

-- all but the recipes
beside : (l : Limits) (s : State) (b : Kept) → Stands l s b → BesideRecipes l s b
beside l s b st = record { frame = st.frame; lots = st.lots; orders = st.orders; entries = st.entries; sums = st.sums }

module _ (l : Limits) (s : State) (b : Kept) (x : Part) (good : Good l) (st : Stands l s b) (less : length b.all_parts < l.parts) where
  abbrev ps : List Part
  ps = b.all_parts

  abbrev k : ℕ
  k = count_of Parts s.narrow

  is : k ≡ length ps
  is = st.recipes.count

  few : k < l.parts
  few = omega (arith, is)

  abbrev s₁ : State
  s₁ = state s.wide (put_part l k x s.narrow)

  abbrev s₂ : State
  s₂ = state s.wide (put_count Parts (k + 1) s₁.narrow)

  w₁ : Within parts l s s₁
  w₁ = (part_slots l).within k x s few

  w₂ : Within counters l s₁ s₂
  w₂ = counted Parts (k + 1) l s₁

  part_comes : Stands l (state s.wide (part_placed l x s.narrow)) (with_parts (ps ++ x ∷ []) b)
  unfolding part_placed
  part_comes =
      let rest = beside_recipes_count l s₁ b (k + 1) good (beside_recipes_at_parts l s s₁ b good w₁ (beside l s b st)) in
      record {
        frame = rest.frame;
        lots = rest.lots;
        orders = rest.orders;
        entries = rest.entries;
        sums = rest.sums;
        recipes = record {
          count = count_same Parts (k + 1) s₁.narrow (omega (arith, w₁.narrow.long, st.frame.roomy.narrow)) ∙ omega (arith, is, length_push ps x);
          few = omega (arith, length_push ps x);
          each = table_push (λ j. part_record l j s.narrow) (λ j. part_record l j s₂.narrow) part_kind.nothing x ps
              (ap (λ (j : ℕ). part_record l j s₂.narrow) (sym is) ∙ (part_slots l).kept k counters s₁ s₂ few (differ _ _ (λ e. omega arith)) w₂ ∙ (part_slots l).same k x s st.frame.roomy few)
              (λ j lt. (part_slots l).kept j counters s₁ s₂ (omega arith) (differ _ _ (λ e. omega arith)) w₂ ∙ (part_slots l).other j k x s (λ e. omega (arith, is))) st.recipes.each;
          first = λ i lt. (recipe_slots l).kept i counters s₁ s₂ lt (differ _ _ (λ e. omega arith)) w₂ ∙ (recipe_slots l).kept i parts s s₁ lt (differ _ _ (λ e. omega arith)) w₁ ∙ st.recipes.first i lt;
        };
      }

pub adds_part : AddsPart
adds_part l s b x good st less = (
  when_lt (count_of Parts s.narrow) l.parts _ _ (omega (arith, st.recipes.count)) ∙ ap (λ (j : ℕ). after (Ok j) (part_placed l x s.narrow)) st.recipes.count,
  part_comes l s b x good st less,
)

pub refuses_part : RefusesPart
refuses_part l s b x st full = when_ge (count_of Parts s.narrow) l.parts _ _ (omega (arith, st.recipes.count))

pub refuses_recipe : RefusesRecipe
refuses_recipe l s b i k st it full = when_lt i l.items _ _ it ∙ when_ge (count_of Parts s.narrow) l.parts _ _ (omega (arith, st.recipes.count))

-- where a recipe lies is put
recipe_put : (l : Limits) (s : State) (b : Kept) (i : ℕ) (r : Recipe) → Good l → Stands l s b → i < l.items → Stands l (state s.wide (put_recipe i r s.narrow)) (with_recipe i r b)
recipe_put l s b i r good st it =
    let rest = beside_recipes_at_recipes l s t b good w (beside l s b st) in
    record {
      frame = rest.frame;
      lots = rest.lots;
      orders = rest.orders;
      entries = rest.entries;
      sums = rest.sums;
      recipes = record {
        count = count_kept Parts recipes l s.narrow t.narrow (differ _ _ (λ e. omega arith)) w.narrow ∙ st.recipes.count;
        few = st.recipes.few;
        each = λ k lt. (part_slots l).kept k recipes s t (omega (arith, st.recipes.few)) (differ _ _ (λ e. omega arith)) w ∙ st.recipes.each k lt;
        first = λ j lt. ⊎_elim
            (λ (e : j ≡ i). ap (λ (q : ℕ). recipe_of q t.narrow) e ∙ (recipe_slots l).same i r s st.frame.roomy it ∙ sym (at_same b.recipes i j r e))
            (λ (ne : j ≡ i → ⊥). (recipe_slots l).other j i r s ne ∙ st.recipes.first j lt ∙ sym (at_other b.recipes i j r ne)) (cases_eq j i);
      };
    }
  where
    t : State
    t = state s.wide (put_recipe i r s.narrow)

    w : Within recipes l s t
    w = (recipe_slots l).within i r s it

pub adds_recipe : AddsRecipe
unfolding recipe_placed
adds_recipe l s b i k good st it less = (
  when_lt i l.items _ _ it ∙ when_lt (count_of Parts s.narrow) l.parts _ _ (omega (arith, st.recipes.count))
      ∙ ap (λ (j : ℕ). after (Ok j) (recipe_placed l i k s.narrow)) st.recipes.count,
  placed,
)
  where
    with_row : Kept
    with_row = with_parts (b.all_parts ++ front i k ∷ []) b

    at : ℕ → Recipe
    at j = record { first = j + 1; parts = k }

    placed : Stands l (state s.wide (recipe_placed l i k s.narrow)) (with_recipe i (at (length b.all_parts)) with_row)
    placed =
        subst (λ (j : ℕ). Stands l (state s.wide (recipe_placed l i k s.narrow)) (with_recipe i (at j) with_row)) st.recipes.count
        (recipe_put l (state s.wide (part_placed l (front i k) s.narrow)) with_row i (at (count_of Parts s.narrow)) good (part_comes l s b (front i k) good st less) it)
