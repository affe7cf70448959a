-- A recipe from now on, at any stage that does that call. Assumes nothing.
use Rattle.std.proofs.Common.{◌≡◌, ℕ, suc, ◌+◌, ◌-◌, ◌^◌, ◌<◌, ◌≤◌, min, Bool, true, false, ◌&&◌, ◌||◌, eqb, ltb, leb, List, [], ◌∷◌, ◌++◌, length, Ok, sym, refl, ap, ◌∙◌, subst, append-nil, arith}
use Rattle.std.proofs.lemmas.List.{length_push}
use Rattle.std.proofs.lemmas.Bool.{cond_both, and_parts, leb-true, ltb-true}
use Rattle.firm.specs.Stock as stock
use Rattle.firm.specs.Ledger.{sum_of}
use Rattle.firm.specs.Ledger as ledger
use Rattle.firm.specs.Firm.{Firm}
use Rattle.firm.specs.Firm as firm
use Rattle.firm.specs.Calls.{Call, number, Limits, call_number}
use Rattle.firm.specs.Calls as calls
use Rattle.firm.specs.Changes.{next, changed}
use Rattle.firm.specs.Refusals.{good_parts, good_fields, good_call, turned_by, fits, place}
use Rattle.firm.specs.Answers.{told}
use Rattle.firm.specs.Statements.{Reached}
use Rattle.firm.proofs.Bounds.{reached_parts}
use Rattle.firm.proofs.Fitting.{fits_by}
use Rattle.firm.proofs.Turned.{turned_bad, turned_full, turned_not}
use Rattle.layout.specs.Layout.{Good}
use Rattle.layout.specs.declared.head.Counter.TheVariants.{Parts}
use Rattle.layout.specs.declared.head.Total.TheVariants.{Documents}
use Rattle.memory.specs.Books.{count_of, total_of}
use Rattle.records.specs.State.{State, state}
use Rattle.rules.specs.Checks.{document_fits}
use Rattle.rules.specs.Outcome.{outcome, refuse}
use Rattle.rules.specs.Recipes.{row_of, some_parts, recipe_fits, parts_added, recipe_kept}
use Rattle.rules.specs.Recipes as recipes
use Rattle.rules.specs.Totals.{raised}
use Rattle.store.specs.Laws.{with_parts, with_recipe, with_total}
use Rattle.store.specs.Steps.{After, after, front, recipe_placed, add_recipe}
use Rattle.store.specs.View.{Kept, Stands}
use Rattle.store.proofs.RecipeLaws.{adds_recipe}
use Rattle.session.specs.Means.{Means, limits_of, account_sums, Sized}
use Rattle.session.proofs.KeptRecipes.{recipe_parts_push, more_rows, lies_at, recipes_more, parts_stand}
use Rattle.session.proofs.Small.{sized_recipe_placed, sized_raised}
use Rattle.session.proofs.Steps.{raised_stands}
use Rattle.session.proofs.Turning.{Done, refuses, goes}

module _ (l : Limits) (s : State) (f : Firm) (i : ℕ) (ps : List stock.Part) (can : ℕ → Bool) (can_make : can 8 ≡ true) (good : Good (limits_of l)) (cans : l.calls_can ≡ can) (r : Reached l f) (h : Means (limits_of l) s f) where
  abbrev c : Call
  c = calls.made_of i ps

  abbrev m : Kept
  m = h.kept

  abbrev d : ℕ
  d = total_of Documents s.wide

  abbrev fields : Bool
  fields = ltb i l.items && some_parts ps i

  good_is : good_call l c ≡ fields
  unfolding call_number good_fields
  good_is = ap (λ (b : Bool). (eqb 8 255 || b) && fields) (ap (λ (g : ℕ → Bool). g 8) cans ∙ can_make)

  by_0 : turned_by f c ≡ 0
  unfolding turned_by
  by_0 = refl

  at_2 : place c 2 ≡ 0
  unfolding place call_number
  at_2 = refl

  at_9 : place c 9 ≡ 0
  unfolding place call_number
  at_9 = refl

  documents_are : d ≡ f.documents
  documents_are = h.stands.frame.totals Documents ∙ h.documents

  -- WHETHER IT FITS: the firm afterwards
  abbrev made : firm.Recipe
  made = record { makes = i; of_parts = ps }

  abbrev target : Firm
  target = next f f.lots f.orders (f.recipes ++ made ∷ []) []

  changed_is : changed f c ≡ target
  unfolding changed
  changed_is = refl

  fits_are : fits l (changed f c) ≡ recipe_fits (limits_of l) (length ps) s
  fits_are =
      let fit = reached_parts l f r in
      ap (fits l) changed_is
      ∙ fits_by l target true true (leb (count_of Parts s.narrow + (1 + length ps)) l.parts) true true true (document_fits s)
      fit.orders fit.lots
      (ap (λ (n : ℕ). leb n l.parts) (omega (arith, recipe_parts_push f.recipes made, h.recipes.rows, h.stands.recipes.count)))
      (ap (λ (es : List ledger.Entry). leb (length es) l.entries) (append-nil f.entries) ∙ fit.entries)
      (ap (λ (es : List ledger.Entry). leb (sum_of es) 1000000000000000) (append-nil f.entries) ∙ fit.sum) fit.worth
      (ap (λ (n : ℕ). leb (suc n) 1099511627776) (sym documents_are))
      ∙ both (leb (count_of Parts s.narrow + (1 + length ps)) l.parts) (document_fits s)
    where
      both : (a b : Bool) → ((true && true) && ((a && true) && (true && (true && b)))) ≡ (a && b)
      both true b = refl
      both false b = refl

  -- IT IS DONE
  module _ (g : fields ≡ true) (fit : recipe_fits (limits_of l) (length ps) s ≡ true) where
    tested : (length m.all_parts + (1 + length ps) ≤ l.parts) × (d < 1099511627776)
    tested =
        let u = and_parts (leb (count_of Parts s.narrow + (1 + length ps)) l.parts) (document_fits s) fit in
        (omega (arith, leb-true _ _ u.0, h.stands.recipes.count), ltb-true _ _ u.1)

    known : i < l.items
    known = ltb-true i l.items (and_parts (ltb i l.items) (some_parts ps i) g).0

    some : (good_parts ps i ≡ true) × (length ps ≤ 16)
    some =
        let u = and_parts (good_parts ps i) (leb 1 (length ps) && leb (length ps) 16) (and_parts (ltb i l.items) (some_parts ps i) g).1 in
        (u.0, leb-true _ _ (and_parts (leb 1 (length ps)) (leb (length ps) 16) u.1).1)

    -- the row in front, and where the recipe lies
    abbrev s₁ : State
    s₁ = state s.wide (recipe_placed (limits_of l) i (length ps) s.narrow)

    abbrev k₁ : Kept
    k₁ = with_recipe i (lies_at m.all_parts ps) (with_parts (m.all_parts ++ front i (length ps) ∷ []) m)

    adds : (add_recipe (limits_of l) i (length ps) s.narrow ≡ after (Ok (length m.all_parts)) (recipe_placed (limits_of l) i (length ps) s.narrow)) × Stands (limits_of l) s₁ k₁
    adds = adds_recipe (limits_of l) s m i (length ps) good h.stands known (omega (arith, tested.0))

    sized₁ : Sized (limits_of l) s₁
    sized₁ =
        sized_recipe_placed (limits_of l) i (length ps) s (record { item = omega (arith, known, good.items); each = omega (arith, some.1) }) (omega (arith, tested.0, h.stands.recipes.count, good.parts)) h.sized

    -- its parts
    abbrev s₂ : State
    s₂ = state s.wide (parts_added (limits_of l) ps s₁.narrow)

    abbrev k₂ : Kept
    k₂ = with_parts (more_rows m.all_parts i ps) k₁

    kept₂ : Stands (limits_of l) s₂ k₂ × Sized (limits_of l) s₂
    kept₂ =
        parts_stand (limits_of l) ps i s₁ k₁ good (omega (arith, known, good.items)) some.0
        (omega (arith, tested.0, length_push m.all_parts (front i (length ps)))) adds.1 sized₁

    -- the documents, and what all of it stands for
    made_means : Means (limits_of l) (recipe_kept (limits_of l) i ps s) (changed f c)
    unfolding recipe_kept
    made_means =
        subst (λ (a : After ℕ (List ℕ)). Means (limits_of l) (state (raised Documents 1 s.wide) (parts_added (limits_of l) ps a.left)) (changed f c)) (sym adds.0)
        (subst (Means (limits_of l) (state (raised Documents 1 s.wide) s₂.narrow)) (sym changed_is) (record {
          kept = with_total Documents (min (2 ^ 64 - 1) (m.totals Documents + 1)) k₂;
          stands = raised_stands (limits_of l) s₂ k₂ Documents 1 good kept₂.0;
          documents = omega (arith, tested.1, h.documents, documents_are);
          booked = h.booked ∙ ap sum_of (sym (append-nil f.entries));
          worth = h.worth;
          lots = h.lots;
          used = h.used;
          orders = h.orders;
          entries = h.entries ∙ sym (append-nil f.entries);
          stocks = h.stocks;
          balances = λ a lt. h.balances a lt ∙ ap (λ (es : List ledger.Entry). account_sums es a) (sym (append-nil f.entries));
          recipes = recipes_more (limits_of l) m.all_parts m.recipes f.recipes i ps h.recipes;
          sized = sized_raised (limits_of l) Documents 1 s₂ kept₂.1;
        }))

  says : number d ≡ told f c
  unfolding told
  says = ap number documents_are

  pub made_of_done : Done l s f c (recipes.made_of (limits_of l) i ps s)
  made_of_done =
      cond_both fields _ (refuse 2 0 s) (Done l s f c)
      (λ g. cond_both (recipe_fits (limits_of l) (length ps) s) (outcome (number d) (recipe_kept (limits_of l) i ps s)) (refuse 9 0 s) (Done l s f c)
      (λ fit. goes l s f c _ _ (turned_not l f c (good_is ∙ g) by_0 (fits_are ∙ fit)) says (made_means g fit))
      (λ over. refuses l s f c 9 0 (turned_full l f c (good_is ∙ g) by_0 (fits_are ∙ over)) (omega arith) at_9 h))
      (λ bad. refuses l s f c 2 0 (turned_bad l f c (good_is ∙ bad)) (omega arith) at_2 h)
