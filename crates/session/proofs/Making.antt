-- Pieces that are made by a recipe, at any stage that does that call. Assumes nothing.
use Rattle.std.proofs.Common.{◌≡◌, ℕ, suc, ◌+◌, ◌-◌, ◌*◌, ◌^◌, ◌<◌, ◌≤◌, min, Bool, true, false, cond, ◌&&◌, ◌||◌, eqb, ltb, leb, ◌⊎◌, List, [], ◌∷◌, ◌++◌, map, length, Option, Ok, sym, refl, ap, ◌∙◌, subst, ap₂, inl, inr, append-nil, arith}
use Rattle.std.proofs.lemmas.List.{length_push, length-map, map-append}
use Rattle.std.proofs.lemmas.Bool.{cond_both, cond-true, cond-false, and_parts, leb-true, leb-false, ltb-true, le-leb, lt-leb, lt-ltb, le-ltb, cases_lt, cases_eq, eq-eqb, ne_eqb}
use Rattle.std.specs.List.{list_all, list_any}
use Rattle.firm.specs.Stock.{pick, Part, take_all, on_hand, worth, all_worth, of_item}
use Rattle.firm.specs.Stock as stock
use Rattle.firm.specs.Ledger.{Entry}
use Rattle.firm.specs.Firm.{Firm, recipe}
use Rattle.firm.specs.Calls.{Call, lots, Limits, call_number}
use Rattle.firm.specs.Calls as calls
use Rattle.firm.specs.Changes.{changed}
use Rattle.firm.specs.Refusals.{some_pieces, good_fields, good_call, turned_by, fits, place}
use Rattle.firm.specs.Answers.{told}
use Rattle.firm.specs.Statements.{Reached}
use Rattle.firm.proofs.Bounds.{reached_parts, reached_small}
use Rattle.firm.proofs.Fitting.{fits_by}
use Rattle.firm.proofs.Ledger.{worth_push}
use Rattle.firm.proofs.Picks.{pick_true, pick_false}
use Rattle.firm.proofs.Turned.{turned_bad, turned_known, turned_full, turned_not}
use Rattle.layout.specs.Layout.{Good}
use Rattle.layout.specs.declared.head.Total.TheVariants.{Documents}
use Rattle.layout.specs.declared.limits.Limits as memory
use Rattle.links.specs.Model.{first}
use Rattle.memory.specs.Books.{total_of, lot_record, recipe_of}
use Rattle.questions.specs.Listing.{lot_of}
use Rattle.records.specs.State.{State, state}
use Rattle.records.specs.declared.lot.Lot.{Lot}
use Rattle.rules.specs.Checks.{document_fits}
use Rattle.rules.specs.Totals.{document_more}
use Rattle.rules.specs.Making.{in_all, lies, all_lie, takes_lot, empties, frees, has_place, makes_fits, stored_new, lot_kept, cost_all, new_lot, made_of, item_wants}
use Rattle.rules.specs.Making as making
use Rattle.rules.specs.Outcome.{refuse}
use Rattle.store.specs.Laws.{with_lots, with_total, with_stocks, stock_with}
use Rattle.store.specs.Steps.{After, after, first_lot, lot_placed, add_lot, lot_counted, count_in}
use Rattle.store.specs.View.{Kept, Stands}
use Rattle.store.proofs.LotLaws.{adds_lot, walks_lots}
use Rattle.store.proofs.SumLaws.{counts_in}
use Rattle.taking.specs.Laws.{LotsMean, Priced, KnownItems, with_all_lots}
use Rattle.taking.specs.Takes.{want, Taking, take_counted}
use Rattle.taking.specs.Wanted.{wanted, wants_of}
use Rattle.taking.specs.declared.wants.Want.{Want}
use Rattle.taking.proofs.AllTaking.{recipe_wanted, wanted_costs}
use Rattle.session.specs.Means.{Means, limits_of, Sized}
use Rattle.session.proofs.Counting.{worth_most, on_hand_small, stock_more}
use Rattle.session.proofs.CountingOff.{TookCounted, took_counted, sized_counted}
use Rattle.session.proofs.RecipeWants.{Fine, reached_fine, wants_known, wants_some, wants_few, recipe_wants}
use Rattle.session.proofs.Steps.{of_item_push, raised_stands}
use Rattle.session.proofs.Small.{sized_lot_placed, sized_lot_counted, sized_raised}
use Rattle.session.proofs.Turning.{Done, refuses, goes}
use Rattle.session.proofs.Wanting.{total, in_all_is, AllSome, all_so, all_by, one_so, none_so, lie_lack, lack_lie, gives, wanted_few, frees_less, frees_none}

-- tests of what is wanted that come to tests of items
all_same : (l : memory.Limits) (t : ℕ → Bool) (u : Want → Bool) (ws : List Want) → KnownItems l ws → ((w : Want) → w.item < l.items → u w ≡ t w.item) → list_all u ws ≡ list_all (λ w. t w.item) ws
all_same l t u [] known h = refl
all_same l t u (w ∷ ws) known h = ap₂ ◌&&◌ (h w known.0) (all_same l t u ws known.1 h)

any_same : (l : memory.Limits) (t : ℕ → Bool) (u : Want → Bool) (ws : List Want) → KnownItems l ws → ((w : Want) → w.item < l.items → u w ≡ t w.item) → list_any u ws ≡ list_any (λ w. t w.item) ws
any_same l t u [] known h = refl
any_same l t u (w ∷ ws) known h = ap₂ ◌||◌ (h w known.0) (any_same l t u ws known.1 h)

module _ (l : Limits) (s : State) (f : Firm) (i q : ℕ) (can : ℕ → Bool) (can_make : can 9 ≡ true) (good : Good (limits_of l)) (cans : l.calls_can ≡ can) (r : Reached l f) (h : Means (limits_of l) s f) where
  abbrev c : Call
  c = calls.makes i q

  abbrev m : Kept
  m = h.kept

  -- the recipe, and what it asks for
  abbrev ps : List Part
  ps = recipe f.recipes i []

  abbrev ws : List Want
  ws = wants_of ps q

  -- what is made is the document d
  abbrev d : ℕ
  d = total_of Documents s.wide

  good_is : good_call l c ≡ (ltb i l.items && some_pieces q)
  unfolding call_number good_fields
  good_is = ap (λ (b : Bool). (eqb 9 255 || b) && (ltb i l.items && some_pieces q)) (ap (λ (g : ℕ → Bool). g 9) cans ∙ can_make)

  at_2 : place c 2 ≡ 0
  unfolding place call_number
  at_2 = refl

  at_7 : place c 7 ≡ 1
  unfolding place call_number
  at_7 = refl

  at_8 : place c 8 ≡ 0
  unfolding place call_number
  at_8 = refl

  at_9 : place c 9 ≡ 0
  unfolding place call_number
  at_9 = refl

  documents_are : d ≡ f.documents
  documents_are = h.stands.frame.totals Documents ∙ h.documents

  -- WHAT IS TAKEN of the lots of the books
  abbrev t : stock.Taken
  t = wanted f.lots ws

  same : t ≡ take_all f.lots ps q
  same = recipe_wanted f.lots ps q

  priced : Priced f.lots
  priced = record { small = reached_small l f r; worth = leb-true _ _ (reached_parts l f r).worth }

  lots_mean : LotsMean (limits_of l) m.lots_of m.lots_used f.lots
  lots_mean = record { each = h.lots; used = h.used }

  by_8 : length ps ≡ 0 → turned_by f c ≡ 8
  unfolding turned_by
  by_8 e = pick_true (eqb (length ps) 0) 8 _ (eq-eqb _ _ e)

  by_lack : (length ps ≡ 0 → ⊥) → turned_by f c ≡ pick (eqb t.lacking 0) 0 7
  unfolding turned_by
  by_lack ne = pick_false (eqb (length ps) 0) 8 _ (ne_eqb _ _ ne) ∙ ap (λ (u : stock.Taken). pick (eqb u.lacking 0) 0 7) (sym same)

  module _ (here : i < l.items) (some : some_pieces q ≡ true) where
    fine : Fine i ps
    fine = reached_fine l f r i

    q_some : 1 ≤ q
    q_some = leb-true 1 q (and_parts (leb 1 q) (leb q 1000000) some).0

    q_few : q ≤ 1000000
    q_few = leb-true q 1000000 (and_parts (leb 1 q) (leb q 1000000) some).1

    known : KnownItems (limits_of l) ws
    known = wants_known i q (limits_of l) ps here fine.parts

    all_some : AllSome ws
    all_some = wants_some i q ps q_some fine.parts

    small : (j : ℕ) → total ws j < 2 ^ 64
    small j = omega (arith, wants_few i q ps j q_few fine.parts, fine.few)

    many : (recipe_of i s.narrow).parts ≡ length ps
    many = ap (λ z. z.parts) (h.stands.recipes.first i here) ∙ h.recipes.many i here

    ws_are : item_wants (limits_of l) i q s ≡ ws
    ws_are =
        ap (λ z. making.parts_wanted (limits_of l) z q s.narrow) (h.stands.recipes.first i here)
        ∙ recipe_wants (limits_of l) q s.narrow m.all_parts h.stands.recipes.each (omega (arith, h.stands.recipes.few, good.parts)) (m.recipes i) ps (h.recipes.each i here) (h.recipes.many i here) fine.few

    -- WHETHER IT LIES THERE
    lie_is : all_lie ws s.wide ≡ list_all (λ w. leb (total ws w.item) (on_hand f.lots w.item)) ws
    lie_is =
        all_same (limits_of l) (λ j. leb (total ws j) (on_hand f.lots j)) (lies ws s.wide) ws known
        (λ w lt. ap₂ leb (in_all_is ws w.item (small w.item)) (ap (λ z. z.pieces) (h.stands.sums.stocks w.item lt ∙ h.stocks w.item lt)))

    enough : all_lie ws s.wide ≡ true → t.lacking ≡ 0
    enough e =
        lie_lack f.lots ws (λ j. at j (cases_lt 0 (total ws j)))
      where
        at : (j : ℕ) → (0 < total ws j) ⊎ (total ws j ≤ 0) → total ws j ≤ on_hand f.lots j
        at j (inl lt) = leb-true _ _ (all_so (λ n. leb (total ws n) (on_hand f.lots n)) ws (sym lie_is ∙ e) j lt)
        at j (inr le) = omega (arith, le)

    lacks : all_lie ws s.wide ≡ false → t.lacking ≡ 0 → ⊥
    lacks e none = apart (sym (lie_is ∙ all_by (λ j. leb (total ws j) (on_hand f.lots j)) ws (λ j. le-leb _ _ (omega (arith, lack_lie f.lots ws none j)))) ∙ e)
      where
        apart : true ≡ false → ⊥
        apart e = cc

    -- WHETHER THERE IS A PLACE
    oldest : (j : ℕ) → j < l.items → takes_lot (limits_of l) ws s (first_lot (limits_of l) j s.narrow) j ≡ gives (of_item f.lots j) (total ws j)
    oldest j lt =
        let walk = walks_lots (limits_of l) s m j good h.stands lt in
        ap (λ (o : Option ℕ). takes_lot (limits_of l) ws s o j) walk.starts ∙ at walk.places
        ∙ ap₂ gives (ap (map lot_of) walk.each ∙ h.lots j lt) (in_all_is ws j (small j))
      where
        at : (cs : List ℕ) → takes_lot (limits_of l) ws s (first cs) j ≡ gives (map lot_of (map (λ n. lot_record (limits_of l) n s) cs)) (in_all ws j)
        at [] = refl
        at (n ∷ cs) = refl

    frees_is : frees (limits_of l) ws s ≡ list_any (λ w. gives (of_item f.lots w.item) (total ws w.item)) ws
    frees_is = any_same (limits_of l) (λ j. gives (of_item f.lots j) (total ws j)) (empties (limits_of l) ws s) ws known (λ w lt. oldest w.item lt)

    place_is : has_place (limits_of l) ws s ≡ leb (length t.left + 1) l.lots
    place_is = ap (λ (b : Bool). b || frees (limits_of l) ws s) (ap (λ (n : ℕ). ltb n l.lots) (h.stands.lots.used ∙ h.used)) ∙ room (cases_lt (length f.lots) l.lots)
      where
        full : (b : Bool) → frees (limits_of l) ws s ≡ b → l.lots ≤ length f.lots → b ≡ leb (length t.left + 1) l.lots
        full true e more =
            let one = one_so (λ j. gives (of_item f.lots j) (total ws j)) ws all_some (sym frees_is ∙ e) in
            sym (le-leb _ _ (omega (arith, frees_less f.lots ws one.0 all_some one.1 one.2, leb-true _ _ (reached_parts l f r).lots)))
        full false e more =
            sym (lt-leb _ _ (omega (arith, more, frees_none f.lots ws all_some (none_so (λ j. gives (of_item f.lots j) (total ws j)) ws (sym frees_is ∙ e)))))

        room : (length f.lots < l.lots) ⊎ (l.lots ≤ length f.lots) → (ltb (length f.lots) l.lots || frees (limits_of l) ws s) ≡ leb (length t.left + 1) l.lots
        room (inl lt) = ap (λ (b : Bool). b || frees (limits_of l) ws s) (lt-ltb _ _ lt) ∙ sym (le-leb _ _ (omega (arith, lt, wanted_few f.lots ws)))
        room (inr more) = ap (λ (b : Bool). b || frees (limits_of l) ws s) (le-ltb _ _ more) ∙ full (frees (limits_of l) ws s) refl more

    -- WHETHER IT FITS: the firm afterwards
    abbrev lot : Lot
    lot = new_lot i q t.cost d

    abbrev target : stock.Taken → ℕ → List Entry → Firm
    target u n es =
        record {
          documents = suc f.documents;
          lots = u.left ++ (record { item = i; pieces = q; cost = u.cost; from = n } ∷ []);
          orders = f.orders;
          recipes = f.recipes;
          entries = es;
        }

    changed_is : changed f c ≡ target t d f.entries
    unfolding changed
    changed_is =
        ap (λ (u : stock.Taken). target u f.documents (f.entries ++ [])) (sym same) ∙ ap (λ (n : ℕ). target t n (f.entries ++ [])) (sym documents_are)
        ∙ ap (target t d) (append-nil f.entries)

    cents : all_worth t.left + t.cost ≡ all_worth f.lots
    cents = (wanted_costs f.lots ws).1

    fits_are : fits l (changed f c) ≡ makes_fits (limits_of l) ws s
    fits_are =
        let fit = reached_parts l f r in
        ap (fits l) changed_is
        ∙ fits_by l (target t d f.entries) true (has_place (limits_of l) ws s) true true true true (document_fits s)
        fit.orders
        (ap (λ (n : ℕ). leb n l.lots) (length_push t.left (lot_of lot)) ∙ sym place_is)
        fit.parts
        fit.entries
        fit.sum
        (ap (λ (n : ℕ). leb n 1000000000000) (worth_push t.left (lot_of lot) ∙ cents) ∙ fit.worth)
        (ap (λ (n : ℕ). leb (suc n) 1099511627776) (sym documents_are))
        ∙ both (has_place (limits_of l) ws s) (document_fits s)
      where
        both : (b g : Bool) → ((true && b) && ((true && true) && (true && (true && g)))) ≡ (b && g)
        both true g = refl
        both false g = refl

    by_0 : all_lie ws s.wide ≡ true → (length ps ≡ 0 → ⊥) → turned_by f c ≡ 0
    by_0 e ne = by_lack ne ∙ pick_true (eqb t.lacking 0) 0 7 (eq-eqb _ _ (enough e))

    -- IT IS DONE
    module _ (lie : all_lie ws s.wide ≡ true) (fit : makes_fits (limits_of l) ws s ≡ true) where
      abbrev tests : Type 0
      tests = (length t.left + 1 ≤ l.lots) × (d < 1099511627776)

      tested : tests
      tested = let u = and_parts (has_place (limits_of l) ws s) (document_fits s) fit in (leb-true _ _ (sym place_is ∙ u.0), ltb-true _ _ u.1)

      left_is : (j : ℕ) → on_hand t.left j + total ws j ≡ on_hand f.lots j
      left_is j = lack_lie f.lots ws (enough lie) j

      left_few : (j : ℕ) → j < l.items → on_hand t.left j ≤ 2 ^ 48
      left_few j lt = omega (arith, left_is j, on_hand_small (limits_of l) s f good h j lt)

      -- what is taken, and counted off
      abbrev taking : Taking
      taking = take_counted (limits_of l) ws s

      took : TookCounted (limits_of l) m taking t
      took =
          took_counted (limits_of l) m good ws f.lots s priced h.stands lots_mean h.stocks known
          (omega (arith, length-map ps (λ (p : Part). want p.item (p.each * q)), fine.few)) (leb-true _ _ (reached_parts l f r).lots) (λ j. omega (arith, left_is j))

      abbrev k₁ : Kept
      k₁ = with_stocks took.stocks (with_all_lots took.of took.many m)

      abbrev s₁ : State
      s₁ = taking.slices

      sized₁ : Sized (limits_of l) s₁
      sized₁ = sized_counted (limits_of l) ws s good h.sized

      cost_is : cost_all taking ≡ t.cost
      cost_is = omega (arith, ap all_worth took.parts, (wanted_costs f.lots ws).0, cents, priced.worth)

      -- the lot that is made
      abbrev k₃ : Kept
      k₃ = with_lots i (k₁.lots_of i ++ lot ∷ []) (k₁.lots_used + 1) k₁

      adds : (n : ℕ) × (n < l.lots) × (add_lot (limits_of l) lot s₁ ≡ after (Ok n) (lot_placed (limits_of l) n lot s₁)) × (lot_record (limits_of l) n (lot_placed (limits_of l) n lot s₁) ≡ lot)
          × Stands (limits_of l) (lot_placed (limits_of l) n lot s₁) k₃
      adds = adds_lot (limits_of l) s₁ k₁ lot good took.stands here (omega (arith, took.means.used, tested.0))

      abbrev s₂ : State
      s₂ = lot_placed (limits_of l) adds.0 lot s₁

      -- it is counted
      abbrev k₄ : Kept
      k₄ = with_stocks (λ j. stock_with lot j (took.stocks j)) k₃

      abbrev s₃ : State
      s₃ = state (count_in (limits_of l) adds.0 s₂) s₂.narrow

      stands₃ : Stands (limits_of l) s₃ k₄
      stands₃ = subst (λ (y : Lot). Stands (limits_of l) (state (lot_counted (limits_of l) y s₂.wide) s₂.narrow) k₄) (sym adds.3) (counts_in (limits_of l) s₂ k₃ lot good adds.4 here)

      sized₃ : Sized (limits_of l) s₃
      sized₃ =
          sized_lot_counted (limits_of l) (lot_record (limits_of l) adds.0 s₂) s₂ (sized_lot_placed (limits_of l) adds.0 lot s₁
          (record { item = omega (arith, here, good.items); pieces = omega (arith, q_few); cost = omega (arith, cents, priced.worth); «document» = omega (arith, tested.1) })
          (omega (arith, adds.1, good.lots)) sized₁)

      -- the document, and what all of it stands for
      abbrev k₅ : Kept
      k₅ = with_total Documents (min (2 ^ 64 - 1) (k₄.totals Documents + 1)) k₄

      lots_are : (j : ℕ) → j < l.items → (j ≡ i) ⊎ (j ≡ i → ⊥) → map lot_of (k₃.lots_of j) ≡ of_item (t.left ++ (lot_of lot ∷ [])) j
      lots_are j lt (inl z) =
          ap (map lot_of) (cond-true (eqb j i) (k₁.lots_of i ++ lot ∷ []) (k₁.lots_of j) (eq-eqb _ _ z))
          ∙ map-append lot_of (k₁.lots_of i) (lot ∷ [])
          ∙ ap (λ (ls : List stock.Lot). ls ++ lot_of lot ∷ []) (took.means.each i here ∙ ap (of_item t.left) (sym z))
          ∙ ap (λ (ls : List stock.Lot). of_item t.left j ++ ls) (sym (pick_true (eqb i j) (lot_of lot ∷ []) [] (eq-eqb _ _ (sym z))))
          ∙ sym (of_item_push t.left (lot_of lot) j)
      lots_are j lt (inr z) =
          ap (map lot_of) (cond-false (eqb j i) (k₁.lots_of i ++ lot ∷ []) (k₁.lots_of j) (ne_eqb _ _ z))
          ∙ took.means.each j lt ∙ sym (append-nil (of_item t.left j))
          ∙ ap (λ (ls : List stock.Lot). of_item t.left j ++ ls) (sym (pick_false (eqb i j) (lot_of lot ∷ []) [] (ne_eqb _ _ (λ w. z (sym w)))))
          ∙ sym (of_item_push t.left (lot_of lot) j)

      document_means : Means (limits_of l) (document_more s₃) (target t d f.entries)
      document_means =
          record {
            kept = k₅;
            stands = raised_stands (limits_of l) s₃ k₄ Documents 1 good stands₃;
            documents = omega (arith, tested.1, h.documents, documents_are);
            booked = h.booked;
            worth = omega (arith, h.worth, cents, worth_push t.left (lot_of lot));
            lots = λ j lt. lots_are j lt (cases_eq j i);
            used = omega (arith, took.means.used, length_push t.left (lot_of lot));
            orders = h.orders;
            entries = h.entries;
            stocks = λ j lt. stock_more t.left lot j (took.stocks j) (took.sums j lt) (omega (arith, left_few j lt, q_few)) (omega (arith, worth_most t.left j, cents, priced.worth));
            balances = h.balances;
            recipes = h.recipes;
            sized = sized_raised (limits_of l) Documents 1 s₃ sized₃;
          }

      stored_means : Means (limits_of l) (stored_new (limits_of l) (new_lot i q (cost_all taking) d) s₁) (changed f c)
      unfolding stored_new
      stored_means =
          subst (Means (limits_of l) (document_more (lot_kept (limits_of l) (add_lot (limits_of l) (new_lot i q (cost_all taking) d) s₁)))) (sym changed_is)
          (subst (λ (x : ℕ). Means (limits_of l) (document_more (lot_kept (limits_of l) (add_lot (limits_of l) (new_lot i q x d) s₁))) (target t d f.entries)) (sym cost_is)
          (subst (λ (a : After ℕ State). Means (limits_of l) (document_more (lot_kept (limits_of l) a)) (target t d f.entries)) (sym adds.2) document_means))

      says : lots taking.parts ≡ told f c
      unfolding told
      says = ap lots took.parts ∙ ap (λ (u : stock.Taken). lots u.parts) same

    -- THE LAST CHECKS
    module _ (made : length ps ≡ 0 → ⊥) where
      last_done : Done l s f c (cond (all_lie ws s.wide) (cond (makes_fits (limits_of l) ws s) (made_of (limits_of l) i q d (take_counted (limits_of l) ws s)) (refuse 9 0 s)) (refuse 7 1 s))
      last_done =
          cond_both (all_lie ws s.wide) _ (refuse 7 1 s) (Done l s f c)
          (λ lie. cond_both (makes_fits (limits_of l) ws s) _ (refuse 9 0 s) (Done l s f c)
          (λ fit. goes l s f c _ _ (turned_not l f c all_good (by_0 lie made) (fits_are ∙ fit)) (says lie fit) (stored_means lie fit))
          (λ over. refuses l s f c 9 0 (turned_full l f c all_good (by_0 lie made) (fits_are ∙ over)) (omega arith) at_9 h))
          (λ lack. refuses l s f c 7 1 (turned_known l f c 7 all_good (by_lack made ∙ pick_false (eqb t.lacking 0) 0 7 (ne_eqb _ _ (lacks lack))) (omega arith)) (omega arith) at_7 h)
        where
          all_good : good_call l c ≡ true
          all_good = good_is ∙ ap₂ ◌&&◌ (lt-ltb _ _ here) some

      item_done : Done l s f c
          (cond (all_lie (item_wants (limits_of l) i q s) s.wide)
          (cond (makes_fits (limits_of l) (item_wants (limits_of l) i q s) s) (made_of (limits_of l) i q d (making.made (limits_of l) i q s)) (refuse 9 0 s)) (refuse 7 1 s))
      item_done =
          subst (λ (vs : List Want). Done l s f c (cond (all_lie vs s.wide) (cond (makes_fits (limits_of l) vs s) (made_of (limits_of l) i q d (take_counted (limits_of l) vs s)) (refuse 9 0 s)) (refuse 7 1 s)))
          (sym ws_are) last_done

  pub makes_done : Done l s f c (making.makes (limits_of l) i q s)
  makes_done =
      cond_both (ltb i l.items) _ (refuse 2 0 s) (Done l s f c)
      (λ here. cond_both (some_pieces q) _ (refuse 2 0 s) (Done l s f c)
      (λ some. cond_both (leb 1 (recipe_of i s.narrow).parts) _ (refuse 8 0 s) (Done l s f c)
      (λ made. item_done (ltb-true _ _ here) some (λ e. absurd (omega (arith, e, leb-true _ _ made, many (ltb-true _ _ here) some))))
      (λ none. refuses l s f c 8 0
      (turned_known l f c 8 (good_is ∙ ap₂ ◌&&◌ here some) (by_8 (omega (arith, leb-false _ _ none, many (ltb-true _ _ here) some))) (omega arith)) (omega arith) at_8 h))
      (λ bad. refuses l s f c 2 0 (turned_bad l f c (good_is ∙ ap₂ ◌&&◌ here bad)) (omega arith) at_2 h))
      (λ past. refuses l s f c 2 0 (turned_bad l f c (good_is ∙ ap (λ (b : Bool). b && some_pieces q) past)) (omega arith) at_2 h)
