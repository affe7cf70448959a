-- Goods that go on an order to sell, at any stage that does that call. Assumes nothing.
use Rattle.std.proofs.Common.{◌≡◌, ℕ, suc, ◌+◌, ◌-◌, ◌^◌, ◌<◌, ◌≤◌, min, Bool, true, false, cond, ◌&&◌, ◌||◌, eqb, ltb, leb, List, [], ◌∷◌, ◌++◌, length, get_or, set, Ok, sym, refl, ap, ◌∙◌, subst, ap₂, arith, length-set}
use Rattle.std.proofs.lemmas.List.{length-map, map-set, get_or-map}
use Rattle.std.proofs.lemmas.Bool.{cond_both, and_parts, leb-true, ltb-true, le-leb}
use Rattle.firm.specs.Stock.{pick, take, on_hand, all_worth}
use Rattle.firm.specs.Stock as stock
use Rattle.firm.specs.Ledger.{entry}
use Rattle.firm.specs.Firm.{Firm, no_order, the_order, moved_by}
use Rattle.firm.specs.Firm as firm
use Rattle.firm.specs.Calls.{Call, lots, Limits, call_number}
use Rattle.firm.specs.Calls as calls
use Rattle.firm.specs.Changes.{changed}
use Rattle.firm.specs.Refusals.{some_pieces, good_fields, good_call, turned_by, fits, place}
use Rattle.firm.specs.Answers.{told}
use Rattle.firm.specs.Statements.{Reached}
use Rattle.firm.specs.Laws.{Known}
use Rattle.firm.proofs.Bounds.{reached_parts, reached_small}
use Rattle.firm.proofs.Fitting.{fits_by, length_entry, sum_entry}
use Rattle.firm.proofs.Known.{reached_known}
use Rattle.firm.proofs.Picks.{pick_true, pick_false}
use Rattle.firm.proofs.Taking.{take_keeps}
use Rattle.firm.proofs.Turned.{turned_bad, turned_known, turned_full, turned_not}
use Rattle.layout.specs.Layout.{Good}
use Rattle.layout.specs.declared.head.Counter.TheVariants.{Orders, Entries}
use Rattle.layout.specs.declared.head.Total.TheVariants.{Documents, Booked, Worth}
use Rattle.memory.specs.Books.{count_of, total_of, order_record, put_order, stock_of}
use Rattle.questions.specs.Entries.{entry_of}
use Rattle.records.specs.Kinds.{order_kind}
use Rattle.records.specs.State.{State, state}
use Rattle.records.specs.declared.account.Account.TheVariants.{CostOfSales}
use Rattle.records.specs.declared.entry.Entry.{Entry}
use Rattle.records.specs.declared.order.Order.{Order}
use Rattle.rules.specs.Checks.{document_fits, enters as entering, moved_more}
use Rattle.rules.specs.Entering.{entered}
use Rattle.rules.specs.Going.{gone, summed_out, issued, goods_fit, let_go}
use Rattle.rules.specs.Going as going
use Rattle.rules.specs.Outcome.{refuse}
use Rattle.rules.specs.Receiving.{with_order}
use Rattle.rules.specs.Totals.{raised, lowered}
use Rattle.store.specs.Laws.{with_orders, with_entries, with_total, with_stocks, with_balances, stock_without}
use Rattle.store.specs.Steps.{After, after, set_order, counted_out}
use Rattle.store.specs.View.{Kept, Stands}
use Rattle.store.proofs.OrderLaws.{sets_order}
use Rattle.store.proofs.SumLaws.{counts_out}
use Rattle.taking.specs.Laws.{LotsMean, Priced, with_all_lots, Took}
use Rattle.taking.specs.Takes.{want, cost_of, cost_taken}
use Rattle.taking.specs.declared.wants.Want.{Want}
use Rattle.taking.proofs.AllTaking.{one_wanted}
use Rattle.taking.proofs.Costing.{costs}
use Rattle.taking.proofs.TakingLaws.{takes}
use Rattle.session.specs.Means.{Means, order_of, limits_of, Sized}
use Rattle.session.proofs.Counting.{cost_most, stock_less, take_few}
use Rattle.session.proofs.Entering.{Entered, enters}
use Rattle.session.proofs.GoodsFit.{goes_fits, goods_are}
use Rattle.session.proofs.Steps.{raised_stands, lowered_stands}
use Rattle.session.proofs.Small.{sized_put_order, sized_taken, sized_counted_out, sized_raised, sized_lowered, order_small}
use Rattle.session.proofs.Turning.{Done, refuses, goes}

module _ (l : Limits) (s : State) (f : Firm) (k q : ℕ) (can : ℕ → Bool) (can_go : can 3 ≡ true) (good : Good (limits_of l)) (cans : l.calls_can ≡ can) (r : Reached l f) (h : Means (limits_of l) s f) where
  abbrev c : Call
  c = calls.goes k q

  abbrev m : Kept
  m = h.kept

  -- the order as it lies in memory and as it is in the books; what goes is the document d
  abbrev o : Order
  o = order_record (limits_of l) k s.narrow

  abbrev a : firm.Order
  a = the_order f k

  abbrev d : ℕ
  d = total_of Documents s.wide

  good_is : good_call l c ≡ some_pieces q
  unfolding call_number good_fields
  good_is = ap (λ (b : Bool). (eqb 3 255 || b) && some_pieces q) (ap (λ (g : ℕ → Bool). g 3) cans ∙ can_go)

  at_2 : place c 2 ≡ 0
  unfolding place call_number
  at_2 = refl

  at_4 : place c 4 ≡ 0
  unfolding place call_number
  at_4 = refl

  at_5 : place c 5 ≡ 0
  unfolding place call_number
  at_5 = refl

  at_6 : place c 6 ≡ 1
  unfolding place call_number
  at_6 = refl

  at_7 : place c 7 ≡ 1
  unfolding place call_number
  at_7 = refl

  at_9 : place c 9 ≡ 0
  unfolding place call_number
  at_9 = refl

  documents_are : d ≡ f.documents
  documents_are = h.stands.frame.totals Documents ∙ h.documents

  orders_are : length m.all_orders ≡ length f.orders
  orders_are = sym (length-map m.all_orders order_of) ∙ ap length h.orders

  entries_are : length m.all_entries ≡ length f.entries
  entries_are = sym (length-map m.all_entries entry_of) ∙ ap length h.entries

  -- WHY IT IS TURNED AWAY
  there : ltb k (length f.orders) ≡ ltb k (count_of Orders s.narrow)
  there = ap (ltb k) (sym (h.stands.orders.count ∙ orders_are))

  by_4 : ltb k (count_of Orders s.narrow) ≡ false → turned_by f c ≡ 4
  unfolding turned_by
  by_4 e = pick_false (ltb k (length f.orders)) _ 4 (there ∙ e)

  module _ (e : ltb k (count_of Orders s.narrow) ≡ true) where
    few : k < length f.orders
    few = ltb-true k (length f.orders) (there ∙ e)

    at_k : o ≡ get_or m.all_orders k order_kind.nothing
    at_k = h.stands.orders.each k (omega (arith, few, orders_are))

    same : order_of o ≡ a
    same =
        ap order_of at_k ∙ sym (get_or-map order_of m.all_orders k order_kind.nothing no_order (omega (arith, few, orders_are)))
        ∙ ap (λ (os : List firm.Order). get_or os k no_order) h.orders

    known : Known l (order_of o)
    known = subst (Known l) (sym same) (reached_known l f r k few)

    hand : (stock_of o.item s.wide).pieces ≡ on_hand f.lots o.item
    hand = ap (λ z. z.pieces) (h.stands.sums.stocks o.item known.item ∙ h.stocks o.item known.item)

    by_5 : o.sells ≡ false → turned_by f c ≡ 5
    unfolding turned_by
    by_5 y = pick_true (ltb k (length f.orders)) _ 4 (there ∙ e) ∙ pick_false a.sells _ 5 (sym (ap (λ (z : firm.Order). z.sells) same) ∙ y)

    by_pieces : o.sells ≡ true → turned_by f c ≡ pick (leb (o.moved + q) o.pieces) (pick (leb q (stock_of o.item s.wide).pieces) 0 7) 6
    unfolding turned_by
    by_pieces y =
        pick_true (ltb k (length f.orders)) _ 4 (there ∙ e) ∙ pick_true a.sells _ 5 (sym (ap (λ (z : firm.Order). z.sells) same) ∙ y)
        ∙ ap (λ (z : firm.Order). pick (leb (z.moved + q) z.pieces) (pick (leb q (on_hand f.lots z.item)) 0 7) 6) (sym same)
        ∙ ap (λ (n : ℕ). pick (leb (o.moved + q) o.pieces) (pick (leb q n) 0 7) 6) (sym hand)

    -- WHAT IS TAKEN of the lots of the books, at the cost x
    abbrev w : Want
    w = want o.item q

    abbrev t : stock.Taken
    t = take f.lots o.item q

    abbrev x : ℕ
    x = t.cost

    priced : Priced f.lots
    priced = record { small = reached_small l f r; worth = leb-true _ _ (reached_parts l f r).worth }

    lots_mean : LotsMean (limits_of l) m.lots_of m.lots_used f.lots
    lots_mean = record { each = h.lots; used = h.used }

    cost_is : cost_of (limits_of l) w s ≡ x
    cost_is = costs (limits_of l) s m f.lots w good h.stands lots_mean priced known.item

    -- all that lies there costs no less, so that what goes is within the limits where that is
    no_less : x ≤ (stock_of o.item s.wide).worth
    no_less = omega (arith, cost_most f.lots o.item q, ap (λ z. z.worth) (h.stands.sums.stocks o.item known.item ∙ h.stocks o.item known.item))

    goods_are_in : goods_fit (limits_of l) w s ≡ goes_fits (limits_of l) x s
    goods_are_in = goods_are (limits_of l) w x s cost_is no_less

    -- WHETHER IT FITS: the firm afterwards, by the order and the document
    abbrev target : firm.Order → ℕ → Firm
    target y n =
        let u : stock.Taken = take f.lots y.item q in
        record {
          documents = suc f.documents;
          lots = u.left;
          orders = set f.orders k (moved_by y q);
          recipes = f.recipes;
          entries = f.entries ++ entry 6 0 u.cost n;
        }

    changed_is : changed f c ≡ target (order_of o) d
    unfolding changed
    changed_is = ap₂ target (sym same) (sym documents_are)

    fits_are : fits l (changed f c) ≡ goes_fits (limits_of l) x s
    fits_are =
        let fit = reached_parts l f r in
        ap (fits l) changed_is
        ∙ fits_by l (target (order_of o) d) true true true (leb (count_of Entries s.narrow + cond (eqb x 0) 0 1) l.entries) (leb (total_of Booked s.wide + x) 1000000000000000) true (document_fits s)
        (ap (λ (n : ℕ). leb n l.orders) (length-set f.orders k (moved_by (order_of o) q)) ∙ fit.orders)
        (le-leb _ _ (omega (arith, take_few f.lots o.item q, leb-true _ _ fit.lots)))
        fit.parts
        (ap (λ (n : ℕ). leb n l.entries) (length_entry f.entries 6 0 x d ∙ ap (λ (n : ℕ). n + cond (eqb x 0) 0 1) (sym (h.stands.entries.count ∙ entries_are))))
        (ap (λ (n : ℕ). leb n 1000000000000000) (sum_entry f.entries 6 0 x d ∙ ap (λ (n : ℕ). n + x) (sym (h.stands.frame.totals Booked ∙ h.booked))))
        (le-leb _ _ (omega (arith, (take_keeps f.lots o.item q).0, leb-true _ _ fit.worth)))
        (ap (λ (n : ℕ). leb (suc n) 1099511627776) (sym documents_are))
        ∙ both (leb (count_of Entries s.narrow + cond (eqb x 0) 0 1) l.entries) (leb (total_of Booked s.wide + x) 1000000000000000) (document_fits s)
      where
        both : (u v g : Bool) → ((true && true) && ((true && u) && (v && (true && g)))) ≡ ((u && v) && g)
        both true true g = refl
        both true false g = refl
        both false v g = refl

    -- IT IS DONE
    module _ (g : some_pieces q ≡ true) (enough : o.moved + q ≤ o.pieces) (lie : q ≤ on_hand f.lots o.item) (fit : goes_fits (limits_of l) x s ≡ true) where
      abbrev tests : Type 0
      tests = (count_of Entries s.narrow + cond (eqb x 0) 0 1 ≤ l.entries) × (total_of Booked s.wide + x ≤ 1000000000000000) × (d < 1099511627776)

      tested : tests
      tested =
          let u = and_parts (entering (limits_of l) x s) (document_fits s) fit in
          let v = and_parts (leb (count_of Entries s.narrow + cond (eqb x 0) 0 1) l.entries) (leb (total_of Booked s.wide + x) 1000000000000000) u.0 in
          (leb-true _ _ v.0, leb-true _ _ v.1, ltb-true _ _ u.1)

      -- the order
      abbrev o' : Order
      o' = moved_more o q

      abbrev k₀ : Kept
      k₀ = with_orders (set m.all_orders k o') m

      sets : (set_order (limits_of l) k o' s.narrow ≡ after (Ok k) (put_order (limits_of l) k o' s.narrow)) × Stands (limits_of l) (state s.wide (put_order (limits_of l) k o' s.narrow)) k₀
      sets = sets_order (limits_of l) s m k o' good h.stands (omega (arith, few, orders_are)) (ap (λ (z : Order). z.item) at_k)

      abbrev s₀ : State
      s₀ = with_order (limits_of l) k o' s

      stands₀ : Stands (limits_of l) s₀ k₀
      stands₀ = subst (λ (n : After ℕ (List ℕ)). Stands (limits_of l) (state s.wide n.left) k₀) (sym sets.0) sets.1

      sized₀ : Sized (limits_of l) s₀
      sized₀ =
          subst (λ (n : After ℕ (List ℕ)). Sized (limits_of l) (state s.wide n.left)) (sym sets.0)
          (sized_put_order (limits_of l) k o' s (record {
            item = omega (arith, known.item, good.items);
            pieces = omega (arith, known.pieces);
            price = omega (arith, known.price);
            moved = omega (arith, enough, known.pieces);
            billed = (order_small (limits_of l) k s h.sized).billed;
          }) h.sized)

      -- the lots
      took : Took (limits_of l) k₀ (gone (limits_of l) k q s) t
      took =
          subst (Took (limits_of l) k₀ (gone (limits_of l) k q s)) (one_wanted f.lots w)
          (takes (limits_of l) s₀ k₀ f.lots (w ∷ []) good stands₀ lots_mean priced (known.item, tt) (omega arith))

      abbrev s₁ : State
      s₁ = (gone (limits_of l) k q s).slices

      abbrev k₁ : Kept
      k₁ = with_all_lots took.lots.of took.lots.many k₀

      sized₁ : Sized (limits_of l) s₁
      sized₁ = sized_taken (limits_of l) (w ∷ []) s₀ good sized₀

      -- the item's sums
      abbrev s₂ : State
      s₂ = state (counted_out (limits_of l) o.item q x s₁.wide) s₁.narrow

      abbrev k₂ : Kept
      k₂ = with_stocks (λ i. stock_without o.item q x i (m.stocks i)) k₁

      stands₂ : Stands (limits_of l) s₂ k₂
      stands₂ = counts_out (limits_of l) s₁ k₁ o.item q x good took.lots.stands known.item

      sized₂ : Sized (limits_of l) s₂
      sized₂ = sized_counted_out (limits_of l) o.item q x s₁ sized₁

      -- the entry
      abbrev y : Entry
      y = record { left = 6; right = 0; amount = x; «document» = d }

      enters_it : Entered (limits_of l) (entered (limits_of l) y s₂) k₂ (f.entries ++ entry 6 0 x d)
      enters_it =
          enters (limits_of l) s₂ k₂ f.entries y good
          (record { all = m.all_entries; sides = m.balances; stands = stands₂; sized = sized₂; entries = h.entries; balances = h.balances })
          (record { left = omega arith; right = omega arith; amount = omega (arith, tested.1); «document» = omega (arith, tested.2) }) (omega arith) (omega arith)
          (omega (arith, tested.0, stands₂.entries.count, h.stands.entries.count)) (omega (arith, tested.1, h.stands.frame.totals Booked, h.booked))

      -- the totals, and what all of it stands for
      issued_means : Means (limits_of l) (issued (limits_of l) CostOfSales w x d s₁) (changed f c)
      unfolding issued
      issued_means =
          subst (Means (limits_of l) (summed_out x s₃)) (sym changed_is) (record {
            kept = k₆;
            stands = raised_stands (limits_of l) s₅ k₅ Documents 1 good (raised_stands (limits_of l) s₄ k₄ Booked x good (lowered_stands (limits_of l) s₃ k₃ Worth x good enters_it.stands));
            documents = omega (arith, tested.2, h.documents, documents_are);
            booked = omega (arith, tested.1, h.booked, h.stands.frame.totals Booked, sum_entry f.entries 6 0 x d);
            worth = omega (arith, h.worth, (take_keeps f.lots o.item q).0);
            lots = took.lots.means.each;
            used = took.lots.means.used;
            orders = map-set order_of m.all_orders k o' ∙ ap (λ (os : List firm.Order). set os k (order_of o')) h.orders;
            entries = enters_it.entries;
            stocks = λ i lt. stock_less f.lots o.item q i (m.stocks i) (h.stocks i lt) lie;
            balances = enters_it.balances;
            recipes = h.recipes;
            sized = sized_raised (limits_of l) Documents 1 s₅ (sized_raised (limits_of l) Booked x s₄ (sized_lowered (limits_of l) Worth x s₃ enters_it.sized));
          })
        where
          s₃ : State
          s₃ = entered (limits_of l) y s₂

          k₃ : Kept
          k₃ = with_balances enters_it.sides (with_entries enters_it.all k₂)

          s₄ : State
          s₄ = state (lowered Worth x s₃.wide) s₃.narrow

          k₄ : Kept
          k₄ = with_total Worth (k₃.totals Worth - x) k₃

          s₅ : State
          s₅ = state (raised Booked x s₄.wide) s₄.narrow

          k₅ : Kept
          k₅ = with_total Booked (min (2 ^ 64 - 1) (k₄.totals Booked + x)) k₄

          k₆ : Kept
          k₆ = with_total Documents (min (2 ^ 64 - 1) (k₅.totals Documents + 1)) k₅

      -- what was taken cost what the books say
      cost_taken_is : cost_taken (gone (limits_of l) k q s) ≡ x
      cost_taken_is = omega (arith, ap all_worth took.parts, (take_keeps f.lots o.item q).1, tested.1)

      says : lots (gone (limits_of l) k q s).parts ≡ told f c
      unfolding told
      says = ap lots took.parts ∙ ap (λ (z : firm.Order). lots (take f.lots z.item q).parts) same

    -- THE LAST CHECKS
    module _ (g : some_pieces q ≡ true) (sell : o.sells ≡ true) (enough : leb (o.moved + q) o.pieces ≡ true) (lie : leb q (stock_of o.item s.wide).pieces ≡ true) where
      by_0 : turned_by f c ≡ 0
      by_0 = by_pieces sell ∙ pick_true (leb (o.moved + q) o.pieces) _ 6 enough ∙ pick_true (leb q (stock_of o.item s.wide).pieces) 0 7 lie

      lies : q ≤ on_hand f.lots o.item
      lies = omega (arith, leb-true _ _ lie, hand)

      last_done : Done l s f c (cond (goods_fit (limits_of l) w s) (let_go (limits_of l) o q d (gone (limits_of l) k q s)) (refuse 9 0 s))
      last_done =
          cond_both (goods_fit (limits_of l) w s) (let_go (limits_of l) o q d (gone (limits_of l) k q s)) (refuse 9 0 s) (Done l s f c)
          (λ within.
          let fit : goes_fits (limits_of l) x s ≡ true = sym goods_are_in ∙ within in
          goes l s f c _ _ (turned_not l f c (good_is ∙ g) by_0 (fits_are ∙ fit)) (says g (leb-true _ _ enough) lies fit)
          (subst (λ (n : ℕ). Means (limits_of l) (issued (limits_of l) CostOfSales w n d (gone (limits_of l) k q s).slices) (changed f c)) (sym (cost_taken_is g (leb-true _ _ enough) lies fit))
          (issued_means g (leb-true _ _ enough) lies fit)))
          (λ over. refuses l s f c 9 0 (turned_full l f c (good_is ∙ g) by_0 (fits_are ∙ sym goods_are_in ∙ over)) (omega arith) at_9 h)

  pub goes_done : Done l s f c (going.goes (limits_of l) k q s)
  goes_done =
      cond_both (some_pieces q) _ (refuse 2 0 s) (Done l s f c)
      (λ g. cond_both (ltb k (count_of Orders s.narrow)) _ (refuse 4 0 s) (Done l s f c)
      (λ e. cond_both o.sells _ (refuse 5 0 s) (Done l s f c)
      (λ sell. cond_both (leb (o.moved + q) o.pieces) _ (refuse 6 1 s) (Done l s f c)
      (λ enough. cond_both (leb q (stock_of o.item s.wide).pieces) _ (refuse 7 1 s) (Done l s f c)
      (λ lie. last_done e g sell enough lie)
      (λ lack. refuses l s f c 7 1
      (turned_known l f c 7 (good_is ∙ g) (by_pieces e sell ∙ pick_true (leb (o.moved + q) o.pieces) _ 6 enough ∙ pick_false (leb q (stock_of o.item s.wide).pieces) 0 7 lack) (omega arith)) (omega arith) at_7 h))
      (λ short. refuses l s f c 6 1 (turned_known l f c 6 (good_is ∙ g) (by_pieces e sell ∙ pick_false (leb (o.moved + q) o.pieces) _ 6 short) (omega arith)) (omega arith) at_6 h))
      (λ buy. refuses l s f c 5 0 (turned_known l f c 5 (good_is ∙ g) (by_5 e buy) (omega arith)) (omega arith) at_5 h))
      (λ none. refuses l s f c 4 0 (turned_known l f c 4 (good_is ∙ g) (by_4 none) (omega arith)) (omega arith) at_4 h))
      (λ bad. refuses l s f c 2 0 (turned_bad l f c (good_is ∙ bad)) (omega arith) at_2 h)
