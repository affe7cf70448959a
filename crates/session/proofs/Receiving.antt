-- Goods that come on an order to buy. Assumes nothing.
use Rattle.std.proofs.Common.{◌≡◌, ℕ, suc, ◌+◌, ◌-◌, ◌*◌, ◌^◌, ◌<◌, ◌≤◌, min, Bool, true, false, cond, ◌&&◌, ◌||◌, eqb, ltb, leb, List, [], ◌∷◌, ◌++◌, length, get_or, set, Ok, sym, refl, ap, ◌∙◌, subst, ap₂, inl, inr, arith, length-set}
use Rattle.std.proofs.lemmas.List.{length_push, length-map, map-set, get_or-map}
use Rattle.std.proofs.lemmas.Bool.{cond_both, and_parts, leb-true, ltb-true, le-leb, lt-leb, cases_lt}
use Rattle.firm.specs.Stock.{pick}
use Rattle.firm.specs.Ledger.{entry}
use Rattle.firm.specs.Firm.{Firm, no_order, the_order, moved_by}
use Rattle.firm.specs.Firm as firm
use Rattle.firm.specs.Calls.{Call, number, Limits, call_number}
use Rattle.firm.specs.Calls as calls
use Rattle.firm.specs.Changes.{changed}
use Rattle.firm.specs.Refusals.{some_pieces, good_fields, good_call, turned_by, fits, place}
use Rattle.firm.specs.Answers.{told}
use Rattle.firm.specs.Statements.{Reached}
use Rattle.firm.specs.Laws.{Known}
use Rattle.firm.proofs.Bounds.{reached_parts}
use Rattle.firm.proofs.Fitting.{fits_by, length_entry, sum_entry}
use Rattle.firm.proofs.Known.{reached_known}
use Rattle.firm.proofs.Ledger.{worth_push}
use Rattle.firm.proofs.Picks.{pick_true, pick_false}
use Rattle.firm.proofs.Turned.{turned_bad, turned_known, turned_full, turned_not}
use Rattle.layout.specs.Layout.{Good}
use Rattle.layout.specs.declared.head.Counter.TheVariants.{Orders, Entries}
use Rattle.layout.specs.declared.head.Total.TheVariants.{Documents, Booked, Worth}
use Rattle.memory.specs.Books.{count_of, total_of, order_record, put_order, lot_record}
use Rattle.questions.specs.Entries.{entry_of}
use Rattle.questions.specs.Listing.{lot_of}
use Rattle.records.specs.Kinds.{order_kind}
use Rattle.records.specs.State.{State, state}
use Rattle.records.specs.declared.entry.Entry.{Entry}
use Rattle.records.specs.declared.lot.Lot.{Lot}
use Rattle.records.specs.declared.order.Order.{Order}
use Rattle.rules.specs.Checks.{document_fits, enters as entering, worth_fits, moved_more}
use Rattle.rules.specs.Entering.{entered}
use Rattle.rules.specs.Outcome.{refuse}
use Rattle.rules.specs.Receiving.{with_order, summed, received, comes_fits, new_lot, placed, comes}
use Rattle.rules.specs.Totals.{raised}
use Rattle.store.specs.Laws.{with_lots, with_orders, with_entries, with_total, with_stocks, with_balances, stock_with}
use Rattle.store.specs.Steps.{After, after, lot_placed, add_lot, set_order, lot_counted, count_in}
use Rattle.store.specs.View.{Kept, Stands}
use Rattle.store.proofs.LotLaws.{adds_lot, refuses_lot}
use Rattle.store.proofs.OrderLaws.{sets_order}
use Rattle.store.proofs.SumLaws.{counts_in}
use Rattle.session.specs.Means.{Means, order_of, limits_of, Sized}
use Rattle.firm.specs.Promise.{whole}
use Rattle.session.proofs.Counting.{worth_most, on_hand_small, stock_more}
use Rattle.session.proofs.Entering.{Entered, enters}
use Rattle.session.proofs.Steps.{lots_with, raised_stands}
use Rattle.session.proofs.Small.{sized_put_order, sized_lot_placed, sized_lot_counted, sized_raised, order_small}
use Rattle.session.proofs.Turning.{Done, refuses, goes}

module _ (l : Limits) (s : State) (f : Firm) (k q : ℕ) (good : Good (limits_of l)) (cans : l.calls_can ≡ whole) (r : Reached l f) (h : Means (limits_of l) s f) where
  abbrev c : Call
  c = calls.comes k q

  abbrev m : Kept
  m = h.kept

  -- the order as it lies in memory and as it is in the books; what comes costs x, by the document d
  abbrev o : Order
  o = order_record (limits_of l) k s.narrow

  abbrev a : firm.Order
  a = the_order f k

  abbrev x : ℕ
  x = q * o.price

  abbrev d : ℕ
  d = total_of Documents s.wide

  good_is : good_call l c ≡ some_pieces q
  unfolding call_number good_fields
  good_is = ap (λ (g : ℕ → Bool). (eqb 2 255 || g 2) && some_pieces q) cans

  at_2 : place c 2 ≡ 0
  unfolding place call_number
  at_2 = refl

  at_4 : place c 4 ≡ 0
  unfolding place call_number
  at_4 = refl

  at_5 : place c 5 ≡ 0
  unfolding place call_number
  at_5 = refl

  at_6 : place c 6 ≡ 1
  unfolding place call_number
  at_6 = refl

  at_9 : place c 9 ≡ 0
  unfolding place call_number
  at_9 = refl

  documents_are : d ≡ f.documents
  documents_are = h.stands.frame.totals Documents ∙ h.documents

  orders_are : length m.all_orders ≡ length f.orders
  orders_are = sym (length-map m.all_orders order_of) ∙ ap length h.orders

  entries_are : length m.all_entries ≡ length f.entries
  entries_are = sym (length-map m.all_entries entry_of) ∙ ap length h.entries

  -- WHY IT IS TURNED AWAY
  there : ltb k (length f.orders) ≡ ltb k (count_of Orders s.narrow)
  there = ap (ltb k) (sym (h.stands.orders.count ∙ orders_are))

  by_4 : ltb k (count_of Orders s.narrow) ≡ false → turned_by f c ≡ 4
  unfolding turned_by
  by_4 e = pick_false (ltb k (length f.orders)) _ 4 (there ∙ e)

  module _ (e : ltb k (count_of Orders s.narrow) ≡ true) where
    few : k < length f.orders
    few = ltb-true k (length f.orders) (there ∙ e)

    at_k : o ≡ get_or m.all_orders k order_kind.nothing
    at_k = h.stands.orders.each k (omega (arith, few, orders_are))

    same : order_of o ≡ a
    same =
        ap order_of at_k ∙ sym (get_or-map order_of m.all_orders k order_kind.nothing no_order (omega (arith, few, orders_are)))
        ∙ ap (λ (os : List firm.Order). get_or os k no_order) h.orders

    by_5 : o.sells ≡ true → turned_by f c ≡ 5
    unfolding turned_by
    by_5 y = pick_true (ltb k (length f.orders)) _ 4 (there ∙ e) ∙ pick_true a.sells 5 _ (sym (ap (λ (z : firm.Order). z.sells) same) ∙ y)

    by_pieces : o.sells ≡ false → turned_by f c ≡ pick (leb (o.moved + q) o.pieces) 0 6
    unfolding turned_by
    by_pieces y =
        pick_true (ltb k (length f.orders)) _ 4 (there ∙ e) ∙ pick_false a.sells 5 _ (sym (ap (λ (z : firm.Order). z.sells) same) ∙ y)
        ∙ ap (λ (z : firm.Order). pick (leb (z.moved + q) z.pieces) 0 6) (sym same)

    -- WHETHER IT FITS: the firm afterwards, by the order and the document
    abbrev target : firm.Order → ℕ → Firm
    target y n =
        record {
          documents = suc f.documents;
          lots = f.lots ++ (record { item = y.item; pieces = q; cost = q * y.price; from = n } ∷ []);
          orders = set f.orders k (moved_by y q);
          recipes = f.recipes;
          entries = f.entries ++ entry 0 1 (q * y.price) n;
        }

    changed_is : changed f c ≡ target (order_of o) d
    unfolding changed
    changed_is = ap₂ target (sym same) (sym documents_are)

    abbrev lot : Lot
    lot = new_lot o q d

    -- all but whether there is room for the lot
    fits_are : (b : Bool) → leb (length f.lots + 1) l.lots ≡ b → fits l (changed f c) ≡ (b && comes_fits (limits_of l) x s)
    fits_are b space =
        let fit = reached_parts l f r in
        ap (fits l) changed_is
        ∙ fits_by l (target (order_of o) d) true b true (leb (count_of Entries s.narrow + cond (eqb x 0) 0 1) l.entries) (leb (total_of Booked s.wide + x) 1000000000000000) (worth_fits x s) (document_fits s)
        (ap (λ (n : ℕ). leb n l.orders) (length-set f.orders k (moved_by (order_of o) q)) ∙ fit.orders)
        (ap (λ (n : ℕ). leb n l.lots) (length_push f.lots (lot_of lot)) ∙ space)
        fit.parts
        (ap (λ (n : ℕ). leb n l.entries) (length_entry f.entries 0 1 x d ∙ ap (λ (n : ℕ). n + cond (eqb x 0) 0 1) (sym (h.stands.entries.count ∙ entries_are))))
        (ap (λ (n : ℕ). leb n 1000000000000000) (sum_entry f.entries 0 1 x d ∙ ap (λ (n : ℕ). n + x) (sym (h.stands.frame.totals Booked ∙ h.booked))))
        (ap (λ (n : ℕ). leb n 1000000000000) (worth_push f.lots (lot_of lot) ∙ ap (λ (n : ℕ). n + x) (sym (h.stands.frame.totals Worth ∙ h.worth))))
        (ap (λ (n : ℕ). leb (suc n) 1099511627776) (sym documents_are))
        ∙ both b (leb (count_of Entries s.narrow + cond (eqb x 0) 0 1) l.entries) (leb (total_of Booked s.wide + x) 1000000000000000) (worth_fits x s && document_fits s)
      where
        both : (b u v g : Bool) → ((true && b) && ((true && u) && (v && g))) ≡ (b && ((u && v) && g))
        both true true v g = refl
        both true false v g = refl
        both false u v g = refl

    module _ (g : some_pieces q ≡ true) (enough : o.moved + q ≤ o.pieces) (fit : comes_fits (limits_of l) x s ≡ true) where
      known : Known l (order_of o)
      known = subst (Known l) (sym same) (reached_known l f r k few)

      q_small : q ≤ 1000000
      q_small = leb-true q 1000000 (and_parts (leb 1 q) (leb q 1000000) g).1

      abbrev tests : Type 0
      tests =
          (count_of Entries s.narrow + cond (eqb x 0) 0 1 ≤ l.entries) × (total_of Booked s.wide + x ≤ 1000000000000000) × (total_of Worth s.wide + x ≤ 1000000000000)
          × (d < 1099511627776)

      tested : tests
      tested =
          let u = and_parts (entering (limits_of l) x s) (worth_fits x s && document_fits s) fit in
          let v = and_parts (leb (count_of Entries s.narrow + cond (eqb x 0) 0 1) l.entries) (leb (total_of Booked s.wide + x) 1000000000000000) u.0 in
          let w = and_parts (worth_fits x s) (document_fits s) u.1 in
          (leb-true _ _ v.0, leb-true _ _ v.1, leb-true _ _ w.0, ltb-true _ _ w.1)

      -- IT IS DONE: the lot
      module _ (less : length f.lots < l.lots) where
        abbrev k₀ : Kept
        k₀ = with_lots o.item (m.lots_of o.item ++ lot ∷ []) (m.lots_used + 1) m

        adds : (n : ℕ) × (n < l.lots) × (add_lot (limits_of l) lot s ≡ after (Ok n) (lot_placed (limits_of l) n lot s)) × (lot_record (limits_of l) n (lot_placed (limits_of l) n lot s) ≡ lot)
            × Stands (limits_of l) (lot_placed (limits_of l) n lot s) k₀
        adds = adds_lot (limits_of l) s m lot good h.stands known.item (omega (arith, h.used))

        abbrev s₀ : State
        s₀ = lot_placed (limits_of l) adds.0 lot s

        -- it is counted
        abbrev k₁ : Kept
        k₁ = with_stocks (λ i. stock_with lot i (m.stocks i)) k₀

        abbrev s₁ : State
        s₁ = state (count_in (limits_of l) adds.0 s₀) s₀.narrow

        stands₁ : Stands (limits_of l) s₁ k₁
        stands₁ = subst (λ (y : Lot). Stands (limits_of l) (state (lot_counted (limits_of l) y s₀.wide) s₀.narrow) k₁) (sym adds.3) (counts_in (limits_of l) s₀ k₀ lot good adds.4 known.item)

        sized₁ : Sized (limits_of l) s₁
        sized₁ =
            sized_lot_counted (limits_of l) (lot_record (limits_of l) adds.0 s₀) s₀ (sized_lot_placed (limits_of l) adds.0 lot s
            (record { item = omega (arith, known.item, good.items); pieces = omega (arith, q_small); cost = omega (arith, tested.1); «document» = omega (arith, tested.3) })
            (omega (arith, adds.1, good.lots)) h.sized)

        -- the order
        abbrev o' : Order
        o' = moved_more o q

        abbrev k₂ : Kept
        k₂ = with_orders (set m.all_orders k o') k₁

        sets : (set_order (limits_of l) k o' s₁.narrow ≡ after (Ok k) (put_order (limits_of l) k o' s₁.narrow)) × Stands (limits_of l) (state s₁.wide (put_order (limits_of l) k o' s₁.narrow)) k₂
        sets =
            sets_order (limits_of l) s₁ k₁ k o' good stands₁ (omega (arith, few, orders_are)) (ap (λ (z : Order). z.item) at_k)

        abbrev s₂ : State
        s₂ = with_order (limits_of l) k o' s₁

        stands₂ : Stands (limits_of l) s₂ k₂
        stands₂ = subst (λ (n : After ℕ (List ℕ)). Stands (limits_of l) (state s₁.wide n.left) k₂) (sym sets.0) sets.1

        sized₂ : Sized (limits_of l) s₂
        sized₂ =
            subst (λ (n : After ℕ (List ℕ)). Sized (limits_of l) (state s₁.wide n.left)) (sym sets.0)
            (sized_put_order (limits_of l) k o' s₁ (record {
              item = omega (arith, known.item, good.items);
              pieces = omega (arith, known.pieces);
              price = omega (arith, known.price);
              moved = omega (arith, enough, known.pieces);
              billed = (order_small (limits_of l) k s h.sized).billed;
            }) sized₁)

        -- the entry
        abbrev y : Entry
        y = record { left = 0; right = 1; amount = x; «document» = d }

        enters_it : Entered (limits_of l) (entered (limits_of l) y s₂) k₂ (f.entries ++ entry 0 1 x d)
        enters_it =
            enters (limits_of l) s₂ k₂ f.entries y good
            (record { all = m.all_entries; sides = m.balances; stands = stands₂; sized = sized₂; entries = h.entries; balances = h.balances })
            (record { left = omega arith; right = omega arith; amount = omega (arith, tested.1); «document» = omega (arith, tested.3) }) (omega arith) (omega arith)
            (omega (arith, tested.0, stands₂.entries.count, h.stands.entries.count)) (omega (arith, tested.1, h.stands.frame.totals Booked, h.booked))

        -- the totals, and what all of it stands for
        received_means : Means (limits_of l) (received (limits_of l) k o' x d s₁) (changed f c)
        unfolding received
        received_means =
            subst (Means (limits_of l) (summed x s₃)) (sym changed_is) (record {
              kept = k₆;
              stands = raised_stands (limits_of l) s₅ k₅ Documents 1 good (raised_stands (limits_of l) s₄ k₄ Booked x good (raised_stands (limits_of l) s₃ k₃ Worth x good enters_it.stands));
              documents = omega (arith, tested.3, h.documents, documents_are);
              booked = omega (arith, tested.1, h.booked, h.stands.frame.totals Booked, sum_entry f.entries 0 1 x d);
              worth = omega (arith, tested.2, h.worth, h.stands.frame.totals Worth, worth_push f.lots (lot_of lot));
              lots = lots_with l.items m.lots_of f.lots lot h.lots known.item;
              used = omega (arith, h.used, length_push f.lots (lot_of lot));
              orders = map-set order_of m.all_orders k o' ∙ ap (λ (os : List firm.Order). set os k (order_of o')) h.orders;
              entries = enters_it.entries;
              stocks = λ i lt. stock_more f.lots lot i (m.stocks i) (h.stocks i lt) (omega (arith, on_hand_small (limits_of l) s f good h i lt, q_small))
                  (omega (arith, worth_most f.lots i, tested.2, h.stands.frame.totals Worth, h.worth));
              balances = enters_it.balances;
              recipes = h.recipes;
              sized = sized_raised (limits_of l) Documents 1 s₅ (sized_raised (limits_of l) Booked x s₄ (sized_raised (limits_of l) Worth x s₃ enters_it.sized));
            })
          where
            s₃ : State
            s₃ = entered (limits_of l) y s₂

            k₃ : Kept
            k₃ = with_balances enters_it.sides (with_entries enters_it.all k₂)

            s₄ : State
            s₄ = state (raised Worth x s₃.wide) s₃.narrow

            k₄ : Kept
            k₄ = with_total Worth (min (2 ^ 64 - 1) (k₃.totals Worth + x)) k₃

            s₅ : State
            s₅ = state (raised Booked x s₄.wide) s₄.narrow

            k₅ : Kept
            k₅ = with_total Booked (min (2 ^ 64 - 1) (k₄.totals Booked + x)) k₄

            k₆ : Kept
            k₆ = with_total Documents (min (2 ^ 64 - 1) (k₅.totals Documents + 1)) k₅

        says : number d ≡ told f c
        unfolding told
        says = ap number documents_are

        done : o.sells ≡ false → Done l s f c (placed (limits_of l) k o q d (add_lot (limits_of l) lot s))
        done buy =
            subst (λ (n : After ℕ State). Done l s f c (placed (limits_of l) k o q d n)) (sym adds.2)
            (goes l s f c _ _ (turned_not l f c (good_is ∙ g) (by_pieces buy ∙ pick_true (leb (o.moved + q) o.pieces) 0 6 (le-leb _ _ enough)) (fits_are true (le-leb _ _ (omega arith)) ∙ fit)) says received_means)

      -- NO LOT MORE FITS
      full : l.lots ≤ length f.lots → o.sells ≡ false → Done l s f c (placed (limits_of l) k o q d (add_lot (limits_of l) lot s))
      full more buy =
          let all : m.lots_used ≡ l.lots = omega (arith, h.used, h.stands.lots.free) in
          subst (λ (n : After ℕ State). Done l s f c (placed (limits_of l) k o q d n)) (sym (refuses_lot (limits_of l) s m lot good h.stands known.item all))
          (refuses l s f c 9 0
          (turned_full l f c (good_is ∙ g) (by_pieces buy ∙ pick_true (leb (o.moved + q) o.pieces) 0 6 (le-leb _ _ enough)) (fits_are false (lt-leb _ _ (omega arith)))) (omega arith) at_9 h)

    -- THE LAST CHECKS
    module _ (g : some_pieces q ≡ true) (buy : o.sells ≡ false) (enough : leb (o.moved + q) o.pieces ≡ true) where
      by_0 : turned_by f c ≡ 0
      by_0 = by_pieces buy ∙ pick_true (leb (o.moved + q) o.pieces) 0 6 enough

      last_done : Done l s f c (cond (comes_fits (limits_of l) x s) (placed (limits_of l) k o q d (add_lot (limits_of l) lot s)) (refuse 9 0 s))
      last_done =
          cond_both (comes_fits (limits_of l) x s) (placed (limits_of l) k o q d (add_lot (limits_of l) lot s)) (refuse 9 0 s) (Done l s f c)
          (λ fit. elim (cases_lt (length f.lots) l.lots) [ inl less ↦ done g (leb-true _ _ enough) fit less buy | inr more ↦ full g (leb-true _ _ enough) fit more buy ])
          (λ over. refuses l s f c 9 0
          (turned_full l f c (good_is ∙ g) by_0 (fits_are (leb (length f.lots + 1) l.lots) refl ∙ ap (λ (b : Bool). leb (length f.lots + 1) l.lots && b) over ∙ and_none (leb (length f.lots + 1) l.lots)))
          (omega arith) at_9 h)
        where
          and_none : (b : Bool) → (b && false) ≡ false
          and_none true = refl
          and_none false = refl

  pub comes_done : Done l s f c (comes (limits_of l) k q s)
  comes_done =
      cond_both (some_pieces q) _ (refuse 2 0 s) (Done l s f c)
      (λ g. cond_both (ltb k (count_of Orders s.narrow)) _ (refuse 4 0 s) (Done l s f c)
      (λ e. cond_both o.sells (refuse 5 0 s) _ (Done l s f c)
      (λ sell. refuses l s f c 5 0 (turned_known l f c 5 (good_is ∙ g) (by_5 e sell) (omega arith)) (omega arith) at_5 h)
      (λ buy. cond_both (leb (o.moved + q) o.pieces) _ (refuse 6 1 s) (Done l s f c)
      (λ enough. last_done e g buy enough)
      (λ short. refuses l s f c 6 1 (turned_known l f c 6 (good_is ∙ g) (by_pieces e buy ∙ pick_false (leb (o.moved + q) o.pieces) 0 6 short) (omega arith)) (omega arith) at_6 h)))
      (λ none. refuses l s f c 4 0 (turned_known l f c 4 (good_is ∙ g) (by_4 none) (omega arith)) (omega arith) at_4 h))
      (λ bad. refuses l s f c 2 0 (turned_bad l f c (good_is ∙ bad)) (omega arith) at_2 h)
