-- A count of an item's pieces, at any stage that does that call. Assumes nothing.
use Rattle.std.proofs.Common.{◌≡◌, ℕ, suc, ◌+◌, ◌-◌, ◌^◌, ◌<◌, ◌≤◌, min, Bool, true, false, cond, ◌&&◌, ◌||◌, eqb, ltb, leb, List, [], ◌∷◌, ◌++◌, length, Ok, sym, refl, ap, ◌∙◌, subst, ap₂, inl, inr, append-nil, arith}
use Rattle.std.proofs.lemmas.List.{length_push, length-map}
use Rattle.std.proofs.lemmas.Bool.{cond_both, and_parts, leb-true, ltb-true, ltb-false, eqb-true, eqb-false, le-leb, lt-leb, lt-ltb, le-ltb, cases_lt, eq-eqb, ne_eqb}
use Rattle.firm.specs.Stock.{pick, take, on_hand, all_worth}
use Rattle.firm.specs.Stock as stock
use Rattle.firm.specs.Ledger.{entry, sum_of}
use Rattle.firm.specs.Ledger as ledger
use Rattle.firm.specs.Firm.{Firm}
use Rattle.firm.specs.Calls.{Call, Limits, call_number}
use Rattle.firm.specs.Calls as calls
use Rattle.firm.specs.Changes.{next, changed}
use Rattle.firm.specs.Refusals.{good_fields, good_call, turned_by, fits, place}
use Rattle.firm.specs.Answers.{told}
use Rattle.firm.specs.Statements.{Reached}
use Rattle.firm.proofs.Bounds.{reached_parts, reached_small}
use Rattle.firm.proofs.Fitting.{fits_by, length_entry, sum_entry}
use Rattle.firm.proofs.Ledger.{worth_push}
use Rattle.firm.proofs.Picks.{pick_true, pick_false}
use Rattle.firm.proofs.Taking.{take_keeps}
use Rattle.firm.proofs.Turned.{turned_bad, turned_full, turned_not}
use Rattle.layout.specs.Layout.{Good}
use Rattle.layout.specs.declared.head.Counter.TheVariants.{Entries}
use Rattle.layout.specs.declared.head.Total.TheVariants.{Documents, Booked, Worth}
use Rattle.memory.specs.Books.{count_of, total_of, lot_record, stock_of}
use Rattle.questions.specs.Entries.{entry_of}
use Rattle.questions.specs.Listing.{lot_of}
use Rattle.records.specs.State.{State, state}
use Rattle.records.specs.declared.account.Account.TheVariants.{Losses}
use Rattle.records.specs.declared.entry.Entry.{Entry}
use Rattle.records.specs.declared.lot.Lot.{Lot}
use Rattle.records.specs.declared.stock.Stock.{Stock}
use Rattle.rules.specs.Checks.{document_fits, enters as entering}
use Rattle.rules.specs.Counting.{before, agreed, written_off, lost, found_lot, placed, found, settled}
use Rattle.rules.specs.Counting as counting
use Rattle.rules.specs.Entering.{entered}
use Rattle.rules.specs.Going.{summed_out, issued, goods_fit}
use Rattle.rules.specs.Outcome.{outcome, refuse}
use Rattle.rules.specs.Totals.{raised, lowered, document_more}
use Rattle.store.specs.Laws.{with_lots, with_entries, with_total, with_stocks, with_balances, stock_with, stock_without}
use Rattle.store.specs.Steps.{After, after, lot_placed, add_lot, lot_counted, count_in, counted_out}
use Rattle.store.specs.View.{Kept, Stands}
use Rattle.store.proofs.LotLaws.{adds_lot, refuses_lot}
use Rattle.store.proofs.SumLaws.{counts_in, counts_out}
use Rattle.taking.specs.Laws.{LotsMean, Priced, with_all_lots, Took}
use Rattle.taking.specs.Takes.{want, cost_of, cost_taken, take_all}
use Rattle.taking.specs.declared.wants.Want.{Want}
use Rattle.taking.proofs.AllTaking.{one_wanted}
use Rattle.taking.proofs.Costing.{costs}
use Rattle.taking.proofs.TakingLaws.{takes}
use Rattle.session.specs.Means.{Means, stock_sums, account_sums, limits_of, Sized}
use Rattle.session.proofs.Counting.{worth_most, cost_most, on_hand_small, stock_more, stock_less, take_few}
use Rattle.session.proofs.Entering.{Entered, enters}
use Rattle.session.proofs.GoodsFit.{goes_fits, goods_are}
use Rattle.session.proofs.Steps.{lots_with, raised_stands, lowered_stands}
use Rattle.session.proofs.Small.{sized_taken, sized_lot_placed, sized_lot_counted, sized_counted_out, sized_raised, sized_lowered}
use Rattle.session.proofs.Turning.{Done, refuses, goes}

module _ (l : Limits) (s : State) (f : Firm) (i q : ℕ) (can : ℕ → Bool) (can_count : can 10 ≡ true) (good : Good (limits_of l)) (cans : l.calls_can ≡ can) (r : Reached l f) (h : Means (limits_of l) s f) where
  abbrev c : Call
  c = calls.counted i q

  abbrev m : Kept
  m = h.kept

  -- what there was of the item, in memory and in the books; the count is the document d
  abbrev a : Stock
  a = stock_of i s.wide

  abbrev b : Stock
  b = stock_sums f.lots i

  abbrev n : ℕ
  n = on_hand f.lots i

  abbrev d : ℕ
  d = total_of Documents s.wide

  good_is : good_call l c ≡ (ltb i l.items && leb q 1000000000)
  unfolding call_number good_fields
  good_is = ap (λ (y : Bool). (eqb 10 255 || y) && (ltb i l.items && leb q 1000000000)) (ap (λ (g : ℕ → Bool). g 10) cans ∙ can_count)

  by_0 : turned_by f c ≡ 0
  unfolding turned_by
  by_0 = refl

  at_2 : place c 2 ≡ 0
  unfolding place call_number
  at_2 = refl

  at_9 : place c 9 ≡ 0
  unfolding place call_number
  at_9 = refl

  says : before b ≡ told f c
  unfolding told
  says = refl

  documents_are : d ≡ f.documents
  documents_are = h.stands.frame.totals Documents ∙ h.documents

  entries_are : length m.all_entries ≡ length f.entries
  entries_are = sym (length-map m.all_entries entry_of) ∙ ap length h.entries

  module _ (g : good_call l c ≡ true) (known : i < l.items) (few : q ≤ 1000000000) where
    stock_is : a ≡ b
    stock_is = h.stands.sums.stocks i known ∙ h.stocks i known

    -- AS MANY ARE THERE
    module _ (same : q ≡ n) where
      abbrev agreed_firm : Firm
      agreed_firm = next f f.lots f.orders f.recipes []

      agreed_is : changed f c ≡ agreed_firm
      unfolding changed
      agreed_is = pick_true (leb n q) _ _ (le-leb n q (omega arith)) ∙ pick_true (eqb n q) agreed_firm _ (eq-eqb n q (sym same))

      agreed_fits : fits l (changed f c) ≡ document_fits s
      agreed_fits =
          let fit = reached_parts l f r in
          ap (fits l) agreed_is
          ∙ fits_by l agreed_firm true true true true true true (document_fits s) fit.orders fit.lots fit.parts
          (ap (λ (es : List ledger.Entry). leb (length es) l.entries) (append-nil f.entries) ∙ fit.entries)
          (ap (λ (es : List ledger.Entry). leb (sum_of es) 1000000000000000) (append-nil f.entries) ∙ fit.sum) fit.worth
          (ap (λ (k : ℕ). leb (suc k) 1099511627776) (sym documents_are))

      agreed_means : document_fits s ≡ true → Means (limits_of l) (document_more s) (changed f c)
      agreed_means time =
          subst (Means (limits_of l) (document_more s)) (sym agreed_is) (record {
            kept = with_total Documents (min (2 ^ 64 - 1) (m.totals Documents + 1)) m;
            stands = raised_stands (limits_of l) s m Documents 1 good h.stands;
            documents = omega (arith, ltb-true _ _ time, documents_are, h.documents);
            booked = h.booked ∙ ap sum_of (sym (append-nil f.entries));
            worth = h.worth;
            lots = h.lots;
            used = h.used;
            orders = h.orders;
            entries = h.entries ∙ sym (append-nil f.entries);
            stocks = h.stocks;
            balances = λ k lt. h.balances k lt ∙ ap (λ (es : List ledger.Entry). account_sums es k) (sym (append-nil f.entries));
            recipes = h.recipes;
            sized = sized_raised (limits_of l) Documents 1 s h.sized;
          })

      agreed_done : Done l s f c (agreed b s)
      agreed_done =
          cond_both (document_fits s) (outcome (before b) (document_more s)) (refuse 9 0 s) (Done l s f c)
          (λ time. goes l s f c _ _ (turned_not l f c g by_0 (agreed_fits ∙ time)) says (agreed_means time))
          (λ late. refuses l s f c 9 0 (turned_full l f c g by_0 (agreed_fits ∙ late)) (omega arith) at_9 h)

    -- MORE ARE THERE
    module _ (more : n < q) where
      abbrev lot : Lot
      lot = found_lot i (q - n) d

      abbrev found_firm : ℕ → Firm
      found_firm k = next f (f.lots ++ (record { item = i; pieces = q - n; cost = 0; from = k } ∷ [])) f.orders f.recipes []

      found_is : changed f c ≡ found_firm d
      unfolding changed
      found_is =
          pick_true (leb n q) _ _ (le-leb n q (omega arith)) ∙ pick_false (eqb n q) (next f f.lots f.orders f.recipes []) _ (ne_eqb n q (λ e. omega arith))
          ∙ ap found_firm (sym documents_are)

      found_fits : fits l (changed f c) ≡ (ltb (length f.lots) l.lots && document_fits s)
      found_fits =
          let fit = reached_parts l f r in
          ap (fits l) found_is
          ∙ fits_by l (found_firm d) true (ltb (length f.lots) l.lots) true true true true (document_fits s) fit.orders
          (ap (λ (k : ℕ). leb k l.lots) (length_push f.lots (lot_of lot) ∙ omega arith)) fit.parts
          (ap (λ (es : List ledger.Entry). leb (length es) l.entries) (append-nil f.entries) ∙ fit.entries)
          (ap (λ (es : List ledger.Entry). leb (sum_of es) 1000000000000000) (append-nil f.entries) ∙ fit.sum)
          (le-leb _ _ (omega (arith, worth_push f.lots (lot_of lot), leb-true _ _ fit.worth)))
          (ap (λ (k : ℕ). leb (suc k) 1099511627776) (sym documents_are))
          ∙ both (ltb (length f.lots) l.lots) (document_fits s)
        where
          both : (u v : Bool) → ((true && u) && ((true && true) && (true && (true && v)))) ≡ (u && v)
          both true v = refl
          both false v = refl

      module _ (time : document_fits s ≡ true) (less : length f.lots < l.lots) where
        early : d < 1099511627776
        early = ltb-true _ _ time

        abbrev k_lot : Kept
        k_lot = with_lots i (m.lots_of i ++ lot ∷ []) (m.lots_used + 1) m

        adds : (p : ℕ) × (p < l.lots) × (add_lot (limits_of l) lot s ≡ after (Ok p) (lot_placed (limits_of l) p lot s)) × (lot_record (limits_of l) p (lot_placed (limits_of l) p lot s) ≡ lot)
            × Stands (limits_of l) (lot_placed (limits_of l) p lot s) k_lot
        adds = adds_lot (limits_of l) s m lot good h.stands known (omega (arith, h.used))

        abbrev s_lot : State
        s_lot = lot_placed (limits_of l) adds.0 lot s

        -- it is counted
        abbrev k_in : Kept
        k_in = with_stocks (λ j. stock_with lot j (m.stocks j)) k_lot

        abbrev s_in : State
        s_in = state (count_in (limits_of l) adds.0 s_lot) s_lot.narrow

        stands_in : Stands (limits_of l) s_in k_in
        stands_in = subst (λ (y : Lot). Stands (limits_of l) (state (lot_counted (limits_of l) y s_lot.wide) s_lot.narrow) k_in) (sym adds.3) (counts_in (limits_of l) s_lot k_lot lot good adds.4 known)

        sized_in : Sized (limits_of l) s_in
        sized_in =
            sized_lot_counted (limits_of l) (lot_record (limits_of l) adds.0 s_lot) s_lot (sized_lot_placed (limits_of l) adds.0 lot s
            (record { item = omega (arith, known, good.items); pieces = omega (arith, few); cost = omega arith; «document» = omega (arith, early) })
            (omega (arith, adds.1, good.lots)) h.sized)

        found_means : Means (limits_of l) (document_more s_in) (changed f c)
        found_means =
            subst (Means (limits_of l) (document_more s_in)) (sym found_is) (record {
              kept = with_total Documents (min (2 ^ 64 - 1) (m.totals Documents + 1)) k_in;
              stands = raised_stands (limits_of l) s_in k_in Documents 1 good stands_in;
              documents = omega (arith, early, documents_are, h.documents);
              booked = h.booked ∙ ap sum_of (sym (append-nil f.entries));
              worth = omega (arith, h.worth, worth_push f.lots (lot_of lot));
              lots = lots_with l.items m.lots_of f.lots lot h.lots known;
              used = omega (arith, h.used, length_push f.lots (lot_of lot));
              orders = h.orders;
              entries = h.entries ∙ sym (append-nil f.entries);
              stocks = λ j lt. stock_more f.lots lot j (m.stocks j) (h.stocks j lt) (omega (arith, on_hand_small (limits_of l) s f good h j lt, few))
                  (omega (arith, worth_most f.lots j, leb-true _ _ (reached_parts l f r).worth));
              balances = λ k lt. h.balances k lt ∙ ap (λ (es : List ledger.Entry). account_sums es k) (sym (append-nil f.entries));
              recipes = h.recipes;
              sized = sized_raised (limits_of l) Documents 1 s_in sized_in;
            })

        placed_done : Done l s f c (placed (limits_of l) b (add_lot (limits_of l) lot s))
        placed_done =
            subst (λ (y : After ℕ State). Done l s f c (placed (limits_of l) b y)) (sym adds.2)
            (goes l s f c _ _ (turned_not l f c g by_0 (found_fits ∙ ap₂ ◌&&◌ (lt-ltb _ _ less) time)) says found_means)

      -- no lot more fits
      full_done : document_fits s ≡ true → l.lots ≤ length f.lots → Done l s f c (placed (limits_of l) b (add_lot (limits_of l) lot s))
      full_done time full =
          let all : m.lots_used ≡ l.lots = omega (arith, h.used, h.stands.lots.free) in
          subst (λ (y : After ℕ State). Done l s f c (placed (limits_of l) b y)) (sym (refuses_lot (limits_of l) s m lot good h.stands known all))
          (refuses l s f c 9 0 (turned_full l f c g by_0 (found_fits ∙ ap₂ ◌&&◌ (le-ltb _ _ full) time)) (omega arith) at_9 h)

      found_done : Done l s f c (found (limits_of l) i (q - n) b s)
      found_done =
          cond_both (document_fits s) (placed (limits_of l) b (add_lot (limits_of l) lot s)) (refuse 9 0 s) (Done l s f c)
          (λ time. elim (cases_lt (length f.lots) l.lots) [ inl less ↦ placed_done time less | inr full ↦ full_done time full ])
          (λ late. refuses l s f c 9 0 (turned_full l f c g by_0 (found_fits ∙ ap (λ (y : Bool). ltb (length f.lots) l.lots && y) late ∙ and_none (ltb (length f.lots) l.lots))) (omega arith) at_9 h)
        where
          and_none : (y : Bool) → (y && false) ≡ false
          and_none true = refl
          and_none false = refl

    -- FEWER ARE THERE: p are lost, at the cost x
    module _ (less : q < n) where
      abbrev p : ℕ
      p = n - q

      abbrev w : Want
      w = want i p

      abbrev t : stock.Taken
      t = take f.lots i p

      abbrev x : ℕ
      x = t.cost

      priced : Priced f.lots
      priced = record { small = reached_small l f r; worth = leb-true _ _ (reached_parts l f r).worth }

      lots_mean : LotsMean (limits_of l) m.lots_of m.lots_used f.lots
      lots_mean = record { each = h.lots; used = h.used }

      cost_is : cost_of (limits_of l) w s ≡ x
      cost_is = costs (limits_of l) s m f.lots w good h.stands lots_mean priced known

      goods_are_in : goods_fit (limits_of l) w s ≡ goes_fits (limits_of l) x s
      goods_are_in = goods_are (limits_of l) w x s cost_is (omega (arith, cost_most f.lots i p, ap (λ z. z.worth) stock_is))

      abbrev lost_firm : ℕ → Firm
      lost_firm k = next f t.left f.orders f.recipes (entry 8 0 x k)

      lost_is : changed f c ≡ lost_firm d
      unfolding changed
      lost_is = pick_false (leb n q) _ _ (lt-leb n q less) ∙ ap lost_firm (sym documents_are)

      lost_fits : fits l (changed f c) ≡ goes_fits (limits_of l) x s
      lost_fits =
          let fit = reached_parts l f r in
          ap (fits l) lost_is
          ∙ fits_by l (lost_firm d) true true true (leb (count_of Entries s.narrow + cond (eqb x 0) 0 1) l.entries) (leb (total_of Booked s.wide + x) 1000000000000000) true (document_fits s)
          fit.orders
          (le-leb _ _ (omega (arith, take_few f.lots i p, leb-true _ _ fit.lots)))
          fit.parts
          (ap (λ (k : ℕ). leb k l.entries) (length_entry f.entries 8 0 x d ∙ ap (λ (k : ℕ). k + cond (eqb x 0) 0 1) (sym (h.stands.entries.count ∙ entries_are))))
          (ap (λ (k : ℕ). leb k 1000000000000000) (sum_entry f.entries 8 0 x d ∙ ap (λ (k : ℕ). k + x) (sym (h.stands.frame.totals Booked ∙ h.booked))))
          (le-leb _ _ (omega (arith, (take_keeps f.lots i p).0, leb-true _ _ fit.worth)))
          (ap (λ (k : ℕ). leb (suc k) 1099511627776) (sym documents_are))
          ∙ both (leb (count_of Entries s.narrow + cond (eqb x 0) 0 1) l.entries) (leb (total_of Booked s.wide + x) 1000000000000000) (document_fits s)
        where
          both : (u v y : Bool) → ((true && true) && ((true && u) && (v && (true && y)))) ≡ ((u && v) && y)
          both true true y = refl
          both true false y = refl
          both false v y = refl

      module _ (fit : goes_fits (limits_of l) x s ≡ true) where
        abbrev tests : Type 0
        tests = (count_of Entries s.narrow + cond (eqb x 0) 0 1 ≤ l.entries) × (total_of Booked s.wide + x ≤ 1000000000000000) × (d < 1099511627776)

        tested : tests
        tested =
            let u = and_parts (entering (limits_of l) x s) (document_fits s) fit in
            let v = and_parts (leb (count_of Entries s.narrow + cond (eqb x 0) 0 1) l.entries) (leb (total_of Booked s.wide + x) 1000000000000000) u.0 in
            (leb-true _ _ v.0, leb-true _ _ v.1, ltb-true _ _ u.1)

        -- the lots
        took : Took (limits_of l) m (take_all (limits_of l) (w ∷ []) s) t
        took =
            subst (Took (limits_of l) m (take_all (limits_of l) (w ∷ []) s)) (one_wanted f.lots w)
            (takes (limits_of l) s m f.lots (w ∷ []) good h.stands lots_mean priced (known, tt) (omega arith))

        abbrev s₁ : State
        s₁ = (take_all (limits_of l) (w ∷ []) s).slices

        abbrev k₁ : Kept
        k₁ = with_all_lots took.lots.of took.lots.many m

        sized₁ : Sized (limits_of l) s₁
        sized₁ = sized_taken (limits_of l) (w ∷ []) s good h.sized

        -- the item's sums
        abbrev s₂ : State
        s₂ = state (counted_out (limits_of l) i p x s₁.wide) s₁.narrow

        abbrev k₂ : Kept
        k₂ = with_stocks (λ j. stock_without i p x j (m.stocks j)) k₁

        stands₂ : Stands (limits_of l) s₂ k₂
        stands₂ = counts_out (limits_of l) s₁ k₁ i p x good took.lots.stands known

        sized₂ : Sized (limits_of l) s₂
        sized₂ = sized_counted_out (limits_of l) i p x s₁ sized₁

        -- the entry
        abbrev y : Entry
        y = record { left = 8; right = 0; amount = x; «document» = d }

        enters_it : Entered (limits_of l) (entered (limits_of l) y s₂) k₂ (f.entries ++ entry 8 0 x d)
        enters_it =
            enters (limits_of l) s₂ k₂ f.entries y good
            (record { all = m.all_entries; sides = m.balances; stands = stands₂; sized = sized₂; entries = h.entries; balances = h.balances })
            (record { left = omega arith; right = omega arith; amount = omega (arith, tested.1); «document» = omega (arith, tested.2) }) (omega arith) (omega arith)
            (omega (arith, tested.0, stands₂.entries.count, h.stands.entries.count)) (omega (arith, tested.1, h.stands.frame.totals Booked, h.booked))

        -- the totals, and what all of it stands for
        lost_means : Means (limits_of l) (issued (limits_of l) Losses w x d s₁) (changed f c)
        unfolding issued
        lost_means =
            subst (Means (limits_of l) (summed_out x s₃)) (sym lost_is) (record {
              kept = k₆;
              stands = raised_stands (limits_of l) s₅ k₅ Documents 1 good (raised_stands (limits_of l) s₄ k₄ Booked x good (lowered_stands (limits_of l) s₃ k₃ Worth x good enters_it.stands));
              documents = omega (arith, tested.2, h.documents, documents_are);
              booked = omega (arith, tested.1, h.booked, h.stands.frame.totals Booked, sum_entry f.entries 8 0 x d);
              worth = omega (arith, h.worth, (take_keeps f.lots i p).0);
              lots = took.lots.means.each;
              used = took.lots.means.used;
              orders = h.orders;
              entries = enters_it.entries;
              stocks = λ j lt. stock_less f.lots i p j (m.stocks j) (h.stocks j lt) (omega arith);
              balances = enters_it.balances;
              recipes = h.recipes;
              sized = sized_raised (limits_of l) Documents 1 s₅ (sized_raised (limits_of l) Booked x s₄ (sized_lowered (limits_of l) Worth x s₃ enters_it.sized));
            })
          where
            s₃ : State
            s₃ = entered (limits_of l) y s₂

            k₃ : Kept
            k₃ = with_balances enters_it.sides (with_entries enters_it.all k₂)

            s₄ : State
            s₄ = state (lowered Worth x s₃.wide) s₃.narrow

            k₄ : Kept
            k₄ = with_total Worth (k₃.totals Worth - x) k₃

            s₅ : State
            s₅ = state (raised Booked x s₄.wide) s₄.narrow

            k₅ : Kept
            k₅ = with_total Booked (min (2 ^ 64 - 1) (k₄.totals Booked + x)) k₄

            k₆ : Kept
            k₆ = with_total Documents (min (2 ^ 64 - 1) (k₅.totals Documents + 1)) k₅

        -- what was taken cost what the books say
        cost_taken_is : cost_taken (take_all (limits_of l) (w ∷ []) s) ≡ x
        cost_taken_is = omega (arith, ap all_worth took.parts, (take_keeps f.lots i p).1, tested.1)

      lost_done : Done l s f c (lost (limits_of l) w b s)
      lost_done =
          cond_both (goods_fit (limits_of l) w s) (written_off (limits_of l) w b d (take_all (limits_of l) (w ∷ []) s)) (refuse 9 0 s) (Done l s f c)
          (λ within.
          let fit : goes_fits (limits_of l) x s ≡ true = sym goods_are_in ∙ within in
          goes l s f c _ _ (turned_not l f c g by_0 (lost_fits ∙ fit)) says
          (subst (λ (k : ℕ). Means (limits_of l) (issued (limits_of l) Losses w k d (take_all (limits_of l) (w ∷ []) s).slices) (changed f c)) (sym (cost_taken_is fit)) (lost_means fit)))
          (λ over. refuses l s f c 9 0 (turned_full l f c g by_0 (lost_fits ∙ sym goods_are_in ∙ over)) (omega arith) at_9 h)

    settled_done : Done l s f c (settled (limits_of l) i q a s)
    settled_done =
        subst (λ (z : Stock). Done l s f c (settled (limits_of l) i q z s)) (sym stock_is)
        (cond_both (ltb q n) (lost (limits_of l) (want i (n - q)) b s) (cond (eqb q n) (agreed b s) (found (limits_of l) i (q - n) b s)) (Done l s f c)
        (λ e. lost_done (ltb-true q n e))
        (λ e. cond_both (eqb q n) (agreed b s) (found (limits_of l) i (q - n) b s) (Done l s f c)
        (λ y. agreed_done (eqb-true q n y))
        (λ y. found_done (above (ltb-false q n e) (eqb-false q n y)))))
      where
        above : {u v : ℕ} → u ≤ v → (v ≡ u → ⊥) → u < v
        above k ne = omega arith

  pub counted_done : Done l s f c (counting.counted (limits_of l) i q s)
  counted_done =
      cond_both (ltb i l.items) _ (refuse 2 0 s) (Done l s f c)
      (λ there. cond_both (leb q 1000000000) _ (refuse 2 0 s) (Done l s f c)
      (λ few. settled_done (good_is ∙ ap₂ ◌&&◌ there few) (ltb-true i l.items there) (leb-true q 1000000000 few))
      (λ many. refuses l s f c 2 0 (turned_bad l f c (good_is ∙ ap₂ ◌&&◌ there many)) (omega arith) at_2 h))
      (λ none. refuses l s f c 2 0 (turned_bad l f c (good_is ∙ ap (λ (y : Bool). y && leb q 1000000000) none)) (omega arith) at_2 h)
