-- Kept recipes with one more, and what its rows leave in memory. Assumes nothing.
use Rattle.std.proofs.Common.{◌≡◌, ℕ, zero, suc, ◌+◌, ◌-◌, ◌^◌, ◌<◌, ◌≤◌, true, cond, ◌&&◌, eqb, ltb, leb, List, [], ◌∷◌, ◌++◌, map, length, take, drop, sym, refl, ap, ◌∙◌, subst, inl, inr, append_assoc, append-nil, arith}
use Rattle.std.proofs.lemmas.List.{length_push, length-map, length-append, length-drop, length-take, take_all, drop_at, take-append-le, drop-append-le}
use Rattle.std.proofs.lemmas.Bool.{cases_eq, eq-eqb, ne_eqb, and_parts, leb-true, ltb-true}
use Rattle.firm.specs.Stock as stock
use Rattle.firm.specs.Stock.{pick}
use Rattle.firm.specs.Firm as firm
use Rattle.firm.specs.Firm.{recipe, recipe_parts}
use Rattle.firm.specs.Refusals.{good_parts}
use Rattle.firm.proofs.Picks.{pick_true, pick_false}
use Rattle.layout.specs.Layout.{Good}
use Rattle.layout.specs.declared.limits.Limits.{Limits}
use Rattle.records.specs.State.{State, state}
use Rattle.records.specs.declared.part.Part.{Part}
use Rattle.records.specs.declared.recipe.Recipe.{Recipe}
use Rattle.rules.specs.Recipes.{good_part, row_of, parts_added}
use Rattle.store.specs.Laws.{with_parts}
use Rattle.store.specs.Steps.{After, front, part_placed, add_part}
use Rattle.store.specs.View.{Kept, Stands}
use Rattle.store.proofs.RecipeLaws.{adds_part}
use Rattle.store.proofs.Tables.{at_same, at_other}
use Rattle.session.specs.Means.{part_of, rows_of, RecipesMean, Sized}
use Rattle.session.proofs.Small.{SmallPart, sized_part_placed}

-- RECIPES of the books, with one more
recipe_push : (rs : List firm.Recipe) (r : firm.Recipe) (j : ℕ) (d : List stock.Part) → recipe (rs ++ r ∷ []) j d ≡ pick (eqb r.makes j) r.of_parts (recipe rs j d)
unfolding recipe
recipe_push [] r j d = refl
recipe_push (x ∷ rs) r j d = recipe_push rs r j (pick (eqb x.makes j) x.of_parts d)

pub recipe_parts_push : (rs : List firm.Recipe) (r : firm.Recipe) → recipe_parts (rs ++ r ∷ []) ≡ recipe_parts rs + suc (length r.of_parts)
unfolding recipe_parts
recipe_parts_push [] r = omega arith
recipe_parts_push (x ∷ rs) r = omega (arith, recipe_parts_push rs r)

-- ROWS. Those that lie there lie there still where more come behind them
rows_stay : (p k : ℕ) (xs ys : List Part) → p ≤ length xs - k → take p (drop k (xs ++ ys)) ≡ take p (drop k xs)
rows_stay zero k xs ys few = refl
rows_stay (suc p) k xs ys few =
    ap (take (suc p)) (drop-append-le k xs ys (omega arith)) ∙ take-append-le (suc p) (drop k xs) ys (omega (arith, length-drop k xs))

part_back : (ps : List stock.Part) → map part_of (map row_of ps) ≡ ps
part_back [] = refl
part_back (p ∷ ps) = ap (λ (qs : List stock.Part). p ∷ qs) (part_back ps)

-- the rows with those of a recipe behind them: the one in front, and its parts
abbrev pub more_rows : List Part → ℕ → List stock.Part → List Part
more_rows rows i ps = (rows ++ front i (length ps) ∷ []) ++ map row_of ps

abbrev pub lies_at : List Part → List stock.Part → Recipe
lies_at rows ps = record { first = length rows + 1; parts = length ps }

pub recipes_more : (l : Limits) (rows : List Part) (of : ℕ → Recipe) (rs : List firm.Recipe) (i : ℕ) (ps : List stock.Part) → RecipesMean l rows of rs →
    RecipesMean l (more_rows rows i ps) (λ j. cond (eqb j i) (lies_at rows ps) (of j)) (rs ++ (record { makes = i; of_parts = ps } ∷ []))
recipes_more l rows of rs i ps h =
    record {
      each = λ j lt. elim (cases_eq j i) [
        | inl e ↦ ap (λ (x : Recipe). map part_of (rows_of x all)) (at_same of i j new e) ∙ new_lies ∙ sym (is_new j e)
        | inr ne ↦ ap (λ (x : Recipe). map part_of (rows_of x all)) (at_other of i j new ne) ∙ ap (map part_of) (old_lies j lt) ∙ h.each j lt ∙ sym (is_old j ne)
      ];
      many = λ j lt. elim (cases_eq j i) [
        | inl e ↦ ap (λ (x : Recipe). x.parts) (at_same of i j new e) ∙ ap length (sym (is_new j e))
        | inr ne ↦ ap (λ (x : Recipe). x.parts) (at_other of i j new ne) ∙ h.many j lt ∙ ap length (sym (is_old j ne))
      ];
      rows = omega (arith, h.rows, recipe_parts_push rs made, length_push rows (front i (length ps)), length-append fronted (map row_of ps), length-map ps row_of);
    }
  where
    made : firm.Recipe
    made = record { makes = i; of_parts = ps }

    new : Recipe
    new = lies_at rows ps

    all : List Part
    all = more_rows rows i ps

    fronted : List Part
    fronted = rows ++ front i (length ps) ∷ []

    is_new : (j : ℕ) → j ≡ i → recipe (rs ++ made ∷ []) j [] ≡ ps
    is_new j e = recipe_push rs made j [] ∙ pick_true (eqb i j) ps (recipe rs j []) (eq-eqb i j (sym e))

    is_old : (j : ℕ) → (j ≡ i → ⊥) → recipe (rs ++ made ∷ []) j [] ≡ recipe rs j []
    is_old j ne = recipe_push rs made j [] ∙ pick_false (eqb i j) ps (recipe rs j []) (ne_eqb i j (λ e. ne (sym e)))

    new_lies : map part_of (rows_of new all) ≡ ps
    new_lies =
        ap (λ (xs : List Part). map part_of (take (length ps) xs)) (drop_at fronted (map row_of ps) (length rows + 1) (length_push rows (front i (length ps))))
        ∙ ap (map part_of) (take_all (length ps) (map row_of ps) (omega (arith, length-map ps row_of))) ∙ part_back ps

    old_lies : (j : ℕ) → j < l.items → rows_of (of j) all ≡ rows_of (of j) rows
    old_lies j lt =
        let as_many : length (take (of j).parts (drop (of j).first rows)) ≡ (of j).parts = sym (length-map (rows_of (of j) rows) part_of) ∙ ap length (h.each j lt) ∙ sym (h.many j lt) in
        let few : (of j).parts ≤ length rows - (of j).first = omega (arith, as_many, length-take (of j).parts (drop (of j).first rows), length-drop (of j).first rows) in
        ap (λ (xs : List Part). take (of j).parts (drop (of j).first xs)) (append_assoc rows (front i (length ps) ∷ []) (map row_of ps))
        ∙ rows_stay (of j).parts (of j).first rows ((front i (length ps) ∷ []) ++ map row_of ps) few

-- IN MEMORY: good parts come one by one behind the rows that are there
pub parts_stand : (l : Limits) (ps : List stock.Part) (i : ℕ) (s : State) (b : Kept) → Good l → i < 2 ^ 32 → good_parts ps i ≡ true → length b.all_parts + length ps ≤ l.parts → Stands l s b → Sized l s →
    Stands l (state s.wide (parts_added l ps s.narrow)) (with_parts (b.all_parts ++ map row_of ps) b) × Sized l (state s.wide (parts_added l ps s.narrow))
unfolding good_parts parts_added
parts_stand l [] i s b good small g room st z = (subst (λ (xs : List Part). Stands l s (with_parts xs b)) (sym (append-nil b.all_parts)) st, z)
parts_stand l (p ∷ ps) i s b good small g room st z =
    let good_ones = and_parts (good_part p i) (good_parts ps i) g in
    let fields = and_parts (ltb p.item i) (leb 1 p.each && leb p.each 1000) good_ones.0 in
    let item : p.item < i = ltb-true p.item i fields.0 in
    let each : p.each ≤ 1000 = leb-true p.each 1000 (and_parts (leb 1 p.each) (leb p.each 1000) fields.1).1 in
    let x : Part = row_of p in
    let less : length b.all_parts < l.parts = omega arith in
    let adds = adds_part l s b x good st less in
    let t : State = state s.wide (part_placed l x s.narrow) in
    let small_x : SmallPart x = record { item = omega arith; each = omega arith } in
    let z₁ : Sized l t = sized_part_placed l x s small_x (omega (arith, st.recipes.count, good.parts)) z in
    let rest = parts_stand l ps i t (with_parts (b.all_parts ++ x ∷ []) b) good small good_ones.1 (omega (arith, length_push b.all_parts x)) adds.1 z₁ in
    let left : part_placed l x s.narrow ≡ (add_part l x s.narrow).left = sym (ap (λ (a : After ℕ (List ℕ)). a.left) adds.0) in
    subst (λ (n : List ℕ). Stands l (state s.wide (parts_added l ps n)) (with_parts (b.all_parts ++ (x ∷ map row_of ps)) b) × Sized l (state s.wide (parts_added l ps n))) left
    (subst (λ (xs : List Part). Stands l (state s.wide (parts_added l ps t.narrow)) (with_parts xs b)) (append_assoc b.all_parts (x ∷ []) (map row_of ps)) rest.0, rest.1)
