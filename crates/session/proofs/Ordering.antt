-- An order to buy or to sell. Assumes nothing.
use Rattle.std.proofs.Common.{◌≡◌, ℕ, suc, ◌+◌, ◌-◌, ◌^◌, ◌<◌, ◌≤◌, min, Bool, true, false, cond, ◌&&◌, ◌||◌, eqb, ltb, leb, List, [], ◌∷◌, ◌++◌, length, Ok, sym, refl, ap, ◌∙◌, subst, ap₂, inl, inr, append-nil, arith}
use Rattle.std.proofs.lemmas.List.{length_push, length-map, map-append}
use Rattle.std.proofs.lemmas.Bool.{cond_both, and_parts, leb-true, ltb-true, lt-ltb, le-ltb, cases_lt}
use Rattle.firm.specs.Ledger.{sum_of}
use Rattle.firm.specs.Ledger as ledger
use Rattle.firm.specs.Firm.{Firm}
use Rattle.firm.specs.Firm as firm
use Rattle.firm.specs.Calls.{Call, number, Limits, call_number}
use Rattle.firm.specs.Calls as calls
use Rattle.firm.specs.Changes.{next, changed}
use Rattle.firm.specs.Refusals.{some_pieces, good_fields, good_call, turned_by, fits, place}
use Rattle.firm.specs.Answers.{told}
use Rattle.firm.specs.Statements.{Reached}
use Rattle.firm.proofs.Bounds.{reached_parts}
use Rattle.firm.proofs.Fitting.{fits_by}
use Rattle.firm.proofs.Turned.{turned_bad, turned_full, turned_not}
use Rattle.layout.specs.Layout.{Good}
use Rattle.layout.specs.declared.head.Total.TheVariants.{Documents}
use Rattle.memory.specs.Books.{total_of}
use Rattle.records.specs.State.{State, state}
use Rattle.records.specs.declared.order.Order.{Order}
use Rattle.rules.specs.Checks.{document_fits}
use Rattle.rules.specs.Ordering.{new_order, order_fields, added, ordered}
use Rattle.rules.specs.Outcome.{refuse}
use Rattle.rules.specs.Totals.{raised}
use Rattle.store.specs.Laws.{with_orders, with_total}
use Rattle.store.specs.Steps.{After, after, order_placed, add_order}
use Rattle.store.specs.View.{Kept, Stands}
use Rattle.store.proofs.OrderLaws.{adds_order, refuses_order}
use Rattle.session.specs.Means.{Means, order_of, limits_of, account_sums}
use Rattle.firm.specs.Promise.{whole}
use Rattle.session.proofs.Steps.{raised_stands}
use Rattle.session.proofs.Small.{SmallOrder, sized_order_placed, sized_raised}
use Rattle.session.proofs.Turning.{Done, refuses, goes}

-- the call of each kind
abbrev order_call : Bool → ℕ → ℕ → ℕ → Call
order_call true i q p = calls.sells i q p
order_call false i q p = calls.buys i q p

module _ (l : Limits) (s : State) (f : Firm) (b : Bool) (i q p : ℕ) (good : Good (limits_of l)) (cans : l.calls_can ≡ whole) (r : Reached l f) (h : Means (limits_of l) s f) where
  abbrev c : Call
  c = order_call b i q p

  abbrev x : Order
  x = new_order b i q p

  abbrev fields : Bool
  fields = order_fields (limits_of l) i q p

  good_is : good_call l c ≡ fields
  unfolding call_number good_fields
  good_is =
      elim b as (λ v. good_call l (order_call v i q p) ≡ fields) [
        | true ↦ ap (λ (g : ℕ → Bool). (eqb 1 255 || g 1) && fields) cans
        | false ↦ ap (λ (g : ℕ → Bool). (eqb 0 255 || g 0) && fields) cans
      ]

  none_known : turned_by f c ≡ 0
  unfolding turned_by
  none_known = elim b as (λ v. turned_by f (order_call v i q p) ≡ 0) [ true ↦ refl | false ↦ refl ]

  at_2 : place c 2 ≡ 0
  unfolding place call_number
  at_2 = elim b as (λ v. place (order_call v i q p) 2 ≡ 0) [ true ↦ refl | false ↦ refl ]

  at_9 : place c 9 ≡ 0
  unfolding place call_number
  at_9 = elim b as (λ v. place (order_call v i q p) 9 ≡ 0) [ true ↦ refl | false ↦ refl ]

  -- the firm afterwards
  abbrev target : Bool → Firm
  target v = next f f.lots (f.orders ++ (order_of (new_order v i q p) ∷ [])) f.recipes []

  changed_is : changed f c ≡ target b
  unfolding changed
  changed_is = elim b as (λ v. changed f (order_call v i q p) ≡ target v) [ true ↦ refl | false ↦ refl ]

  told_is : told f c ≡ number (length f.orders)
  unfolding told
  told_is = elim b as (λ v. told f (order_call v i q p) ≡ number (length f.orders)) [ true ↦ refl | false ↦ refl ]

  -- how many documents and orders there are, in memory and in the books
  documents_are : total_of Documents s.wide ≡ f.documents
  documents_are = h.stands.frame.totals Documents ∙ h.documents

  orders_are : length h.kept.all_orders ≡ length f.orders
  orders_are = sym (length-map h.kept.all_orders order_of) ∙ ap length h.orders

  fits_is : fits l (changed f c) ≡ (ltb (length f.orders) l.orders && document_fits s)
  fits_is =
      let fit = reached_parts l f r in
      ap (fits l) changed_is
      ∙ fits_by l (target b) (ltb (length f.orders) l.orders) true true true true true (document_fits s)
      (ap (λ (n : ℕ). leb n l.orders) (length_push f.orders (order_of x) ∙ omega arith))
      fit.lots fit.parts (ap (λ (es : List ledger.Entry). leb (length es) l.entries) (append-nil f.entries) ∙ fit.entries)
      (ap (λ (es : List ledger.Entry). leb (sum_of es) 1000000000000000) (append-nil f.entries) ∙ fit.sum) fit.worth
      (ap (λ (n : ℕ). leb (suc n) 1099511627776) (sym documents_are))
      ∙ both (ltb (length f.orders) l.orders) (document_fits s)
    where
      both : (a b : Bool) → ((a && true) && ((true && true) && (true && (true && b)))) ≡ (a && b)
      both true b = refl
      both false b = refl

  -- IT IS DONE
  module _ (g : fields ≡ true) (time : document_fits s ≡ true) (less : length f.orders < l.orders) where
    early : f.documents < 1099511627776
    early = omega (arith, ltb-true _ _ time, documents_are)

    known : i < l.items
    known = ltb-true i l.items (and_parts (ltb i l.items) (some_pieces q && leb p 1000000) g).0

    small : SmallOrder x
    small =
        let b = and_parts (some_pieces q) (leb p 1000000) (and_parts (ltb i l.items) (some_pieces q && leb p 1000000) g).1 in
        let pieces = leb-true q 1000000 (and_parts (leb 1 q) (leb q 1000000) b.0).1 in
        let price = leb-true p 1000000 b.1 in
        record { item = omega (arith, known, good.items); pieces = omega arith; price = omega arith; moved = omega arith; billed = omega arith }

    abbrev t : State
    t = state s.wide (order_placed (limits_of l) x s.narrow)

    abbrev k₁ : Kept
    k₁ = with_orders (h.kept.all_orders ++ x ∷ []) h.kept

    adds : (add_order (limits_of l) x s.narrow ≡ after (Ok (length h.kept.all_orders)) (order_placed (limits_of l) x s.narrow)) × Stands (limits_of l) t k₁
    adds = adds_order (limits_of l) s h.kept x good h.stands known (omega (arith, orders_are))

    placed_means : Means (limits_of l) (state (raised Documents 1 s.wide) (order_placed (limits_of l) x s.narrow)) (changed f c)
    placed_means =
        subst (Means (limits_of l) (state (raised Documents 1 s.wide) (order_placed (limits_of l) x s.narrow))) (sym changed_is) (record {
          kept = with_total Documents (min (2 ^ 64 - 1) (h.kept.totals Documents + 1)) k₁;
          stands = raised_stands (limits_of l) t k₁ Documents 1 good adds.1;
          documents = omega (arith, early, h.documents);
          booked = h.booked ∙ ap sum_of (sym (append-nil f.entries));
          worth = h.worth;
          lots = h.lots;
          used = h.used;
          orders = map-append order_of h.kept.all_orders (x ∷ []) ∙ ap (λ (os : List firm.Order). os ++ order_of x ∷ []) h.orders;
          entries = h.entries ∙ sym (append-nil f.entries);
          stocks = h.stocks;
          balances = λ a lt. h.balances a lt ∙ ap (λ (es : List ledger.Entry). account_sums es a) (sym (append-nil f.entries));
          recipes = h.recipes;
          sized = sized_raised (limits_of l) Documents 1 t (sized_order_placed (limits_of l) x s small (omega (arith, h.stands.orders.count, orders_are, good.orders)) h.sized);
        })

    says : number (length h.kept.all_orders) ≡ told f c
    says = ap number orders_are ∙ sym told_is

    placed_done : Done l s f c (added s.wide (add_order (limits_of l) x s.narrow))
    placed_done =
        subst (λ (a : After ℕ (List ℕ)). Done l s f c (added s.wide a)) (sym adds.0)
        (goes l s f c _ _ (turned_not l f c (good_is ∙ g) none_known (fits_is ∙ ap₂ ◌&&◌ (lt-ltb _ _ less) time)) says placed_means)

  -- NO ORDER MORE FITS
  full_done : fields ≡ true → document_fits s ≡ true → l.orders ≤ length f.orders → Done l s f c (added s.wide (add_order (limits_of l) x s.narrow))
  full_done g time more =
      let known = ltb-true i l.items (and_parts (ltb i l.items) (some_pieces q && leb p 1000000) g).0 in
      let full : length h.kept.all_orders ≡ l.orders = omega (arith, orders_are, h.stands.orders.few) in
      subst (λ (a : After ℕ (List ℕ)). Done l s f c (added s.wide a)) (sym (refuses_order (limits_of l) s h.kept x h.stands known full))
      (refuses l s f c 9 0 (turned_full l f c (good_is ∙ g) none_known (fits_is ∙ ap₂ ◌&&◌ (le-ltb _ _ more) time)) (omega arith) at_9 h)

  pub ordered_done : Done l s f c (ordered (limits_of l) b i q p s)
  ordered_done =
      cond_both fields (cond (document_fits s) (added s.wide (add_order (limits_of l) x s.narrow)) (refuse 9 0 s)) (refuse 2 0 s) (Done l s f c)
      (λ g. cond_both (document_fits s) (added s.wide (add_order (limits_of l) x s.narrow)) (refuse 9 0 s) (Done l s f c)
      (λ time. elim (cases_lt (length f.orders) l.orders) [ inl less ↦ placed_done g time less | inr more ↦ full_done g time more ])
      (λ late. refuses l s f c 9 0 (turned_full l f c (good_is ∙ g) none_known (fits_is ∙ ap (λ (b : Bool). ltb (length f.orders) l.orders && b) late ∙ and_none (ltb (length f.orders) l.orders))) (omega arith) at_9 h))
      (λ bad. refuses l s f c 2 0 (turned_bad l f c (good_is ∙ bad)) (omega arith) at_2 h)
    where
      and_none : (a : Bool) → (a && false) ≡ false
      and_none true = refl
      and_none false = refl
