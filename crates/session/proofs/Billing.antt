-- Bills, a supplier's and our own, at any stage that does these calls. Assumes nothing.
use Rattle.std.proofs.Common.{◌≡◌, ℕ, ◌+◌, ◌-◌, ◌*◌, ◌≤◌, Bool, true, false, cond, ◌&&◌, ◌||◌, eqb, ltb, leb, List, ◌++◌, length, refl, sym, ap, ◌∙◌, subst, ap₂, append_assoc, arith}
use Rattle.std.proofs.lemmas.Bool.{cond_both, and_from, leb-true}
use Rattle.firm.specs.Stock.{pick}
use Rattle.firm.specs.Ledger.{entry, sum_of}
use Rattle.firm.specs.Ledger as ledger
use Rattle.firm.specs.Firm.{Firm, the_order}
use Rattle.firm.specs.Firm as firm
use Rattle.firm.specs.Calls.{Call, number, Limits, call_number}
use Rattle.firm.specs.Calls as calls
use Rattle.firm.specs.Changes.{changed}
use Rattle.firm.specs.Refusals.{some_pieces, good_fields, good_call, turned_by, fits, place, kind_is}
use Rattle.firm.specs.Answers.{told}
use Rattle.firm.specs.Statements.{Reached}
use Rattle.firm.proofs.Fitting.{length_entry, sum_entry}
use Rattle.firm.proofs.Picks.{pick_true, pick_false}
use Rattle.firm.proofs.Turned.{turned_bad, turned_known, turned_full, turned_not}
use Rattle.layout.specs.Layout.{Good}
use Rattle.layout.specs.declared.head.Counter.TheVariants.{Orders}
use Rattle.layout.specs.declared.head.Total.TheVariants.{Documents, Booked}
use Rattle.memory.specs.Books.{count_of, total_of, order_record}
use Rattle.records.specs.State.{State}
use Rattle.records.specs.declared.entry.Entry.{Entry}
use Rattle.records.specs.declared.order.Order.{Order}
use Rattle.rules.specs.Billing.{bill_fits, bill_of, entries_of, amount_of, order_billed, bill_entered, billed, charged}
use Rattle.rules.specs.Billing as billing
use Rattle.rules.specs.Checks.{one}
use Rattle.rules.specs.Entering.{entered}
use Rattle.rules.specs.Outcome.{outcome, refuse}
use Rattle.rules.specs.declared.billing.Bill.{Bill}
use Rattle.store.specs.View.{Kept}
use Rattle.session.specs.Means.{Means, order_of, limits_of}
use Rattle.session.proofs.Billed.{entered_count, billed_firm, billed_fits, Room, tested, by_pieces, price_small, order_kept, order_entered, booked_means}
use Rattle.session.proofs.Entering.{Entered, enters}
use Rattle.session.proofs.Ordered.{documents_are, entries_are, not_there, same, sells_not, buys_not, buys_so, sells_so}
use Rattle.session.proofs.Turning.{Done, refuses, goes}

-- OUR OWN BILL
module _ (l : Limits) (s : State) (f : Firm) (k q : ℕ) (can : ℕ → Bool) (can_bill : can 5 ≡ true) (good : Good (limits_of l)) (cans : l.calls_can ≡ can) (r : Reached l f) (h : Means (limits_of l) s f) where
  abbrev c₅ : Call
  c₅ = calls.bills k q

  -- the order, what the pieces come to, and the document
  abbrev o₅ : Order
  o₅ = order_record (limits_of l) k s.narrow

  abbrev x₅ : ℕ
  x₅ = q * o₅.price

  abbrev d₅ : ℕ
  d₅ = total_of Documents s.wide

  good_is₅ : good_call l c₅ ≡ some_pieces q
  unfolding call_number good_fields
  good_is₅ = ap (λ (b : Bool). (eqb 5 255 || b) && some_pieces q) (ap (λ (g : ℕ → Bool). g 5) cans ∙ can_bill)

  at₅_2 : place c₅ 2 ≡ 0
  unfolding place call_number
  at₅_2 = refl

  at₅_4 : place c₅ 4 ≡ 0
  unfolding place call_number
  at₅_4 = refl

  at₅_5 : place c₅ 5 ≡ 0
  unfolding place call_number
  at₅_5 = refl

  at₅_6 : place c₅ 6 ≡ 1
  unfolding place call_number
  at₅_6 = refl

  at₅_9 : place c₅ 9 ≡ 0
  unfolding place call_number
  at₅_9 = refl

  -- WHY IT IS TURNED AWAY
  abbrev by₅ : ℕ
  by₅ = pick (leb ((the_order f k).billed + q) (the_order f k).moved) 0 6

  turned₅ : turned_by f c₅ ≡ kind_is f k true by₅
  unfolding turned_by
  turned₅ = refl

  module _ (e : ltb k (count_of Orders s.narrow) ≡ true) where
    by_pieces₅ : o₅.sells ≡ true → turned_by f c₅ ≡ pick (leb (o₅.billed + q) o₅.moved) 0 6
    by_pieces₅ sell = turned₅ ∙ sells_so l s f k r h e by₅ sell ∙ by_pieces l s f k q good r h e

    -- what is entered
    abbrev entries₅ : List ledger.Entry
    entries₅ = f.entries ++ entry 3 5 x₅ d₅

    abbrev target₅ : firm.Order → ℕ → Firm
    target₅ y n = billed_firm l s f k q good r h y (f.entries ++ entry 3 5 (q * y.price) n)

    changed₅ : changed f c₅ ≡ billed_firm l s f k q good r h (order_of o₅) entries₅
    unfolding changed
    changed₅ = ap₂ target₅ (sym (same l s f k r h e)) (sym (documents_are l s f k r h))

    fits₅ : fits l (changed f c₅) ≡ bill_fits (limits_of l) (one x₅) x₅ s
    fits₅ =
        ap (fits l) changed₅
        ∙ billed_fits l s f k q good r h (order_of o₅) entries₅ (one x₅) x₅ (length_entry f.entries 3 5 x₅ d₅) (sum_entry f.entries 3 5 x₅ d₅)

    -- IT IS DONE
    module _ (g : some_pieces q ≡ true) (enough : o₅.billed + q ≤ o₅.moved) (fit : bill_fits (limits_of l) (one x₅) x₅ s ≡ true) where
      abbrev k₅ : Kept
      k₅ = order_kept l s f k q good r h e enough

      abbrev y₅ : Entry
      y₅ = record { left = 3; right = 5; amount = x₅; «document» = d₅ }

      abbrev s₅ : State
      s₅ = order_billed (limits_of l) k o₅ q s

      room₅ : Room l s f k q good r h (one x₅) x₅
      room₅ = tested l s f k q good r h (one x₅) x₅ fit

      first₅ : Entered (limits_of l) s₅ k₅ f.entries
      first₅ = order_entered l s f k q good r h e enough

      enters₅ : Entered (limits_of l) (entered (limits_of l) y₅ s₅) k₅ entries₅
      enters₅ =
          enters (limits_of l) s₅ k₅ f.entries y₅ good first₅
          (record { left = omega arith; right = omega arith; amount = omega (arith, room₅.1); «document» = omega (arith, room₅.2) }) (omega arith) (omega arith)
          (omega (arith, room₅.0, entered_count (limits_of l) s₅ k₅ f.entries first₅, entries_are l s f k r h)) (omega (arith, room₅.1, h.stands.frame.totals Booked, h.booked))

      means₅ : Means (limits_of l) (charged (limits_of l) k o₅ q x₅ d₅ s) (changed f c₅)
      means₅ =
          subst (Means (limits_of l) (charged (limits_of l) k o₅ q x₅ d₅ s)) (sym changed₅)
          (booked_means l s f k q good r h e enough (entered (limits_of l) y₅ s₅) entries₅ x₅ enters₅ (sum_entry f.entries 3 5 x₅ d₅) room₅.1 room₅.2)

    says₅ : number x₅ ≡ told f c₅
    unfolding told
    says₅ = ap (λ (z : firm.Order). number (q * z.price)) (same l s f k r h e)

    last₅ : some_pieces q ≡ true → o₅.sells ≡ true → leb (o₅.billed + q) o₅.moved ≡ true →
        Done l s f c₅ (cond (bill_fits (limits_of l) (one x₅) x₅ s) (outcome (number x₅) (charged (limits_of l) k o₅ q x₅ d₅ s)) (refuse 9 0 s))
    last₅ g sell enough =
        let by_0 : turned_by f c₅ ≡ 0 = by_pieces₅ sell ∙ pick_true (leb (o₅.billed + q) o₅.moved) 0 6 enough in
        cond_both (bill_fits (limits_of l) (one x₅) x₅ s) (outcome (number x₅) (charged (limits_of l) k o₅ q x₅ d₅ s)) (refuse 9 0 s) (Done l s f c₅)
        (λ fit. goes l s f c₅ _ _ (turned_not l f c₅ (good_is₅ ∙ g) by_0 (fits₅ ∙ fit)) says₅ (means₅ g (leb-true _ _ enough) fit))
        (λ over. refuses l s f c₅ 9 0 (turned_full l f c₅ (good_is₅ ∙ g) by_0 (fits₅ ∙ over)) (omega arith) at₅_9 h)

  pub bills_done : Done l s f c₅ (billing.bills (limits_of l) k q s)
  bills_done =
      cond_both (some_pieces q) _ (refuse 2 0 s) (Done l s f c₅)
      (λ g. cond_both (ltb k (count_of Orders s.narrow)) _ (refuse 4 0 s) (Done l s f c₅)
      (λ e. cond_both o₅.sells _ (refuse 5 0 s) (Done l s f c₅)
      (λ sell. cond_both (leb (o₅.billed + q) o₅.moved) _ (refuse 6 1 s) (Done l s f c₅)
      (λ enough. last₅ e g sell enough)
      (λ short. refuses l s f c₅ 6 1 (turned_known l f c₅ 6 (good_is₅ ∙ g) (by_pieces₅ e sell ∙ pick_false (leb (o₅.billed + q) o₅.moved) 0 6 short) (omega arith)) (omega arith) at₅_6 h))
      (λ buy. refuses l s f c₅ 5 0 (turned_known l f c₅ 5 (good_is₅ ∙ g) (turned₅ ∙ buys_not l s f k r h e by₅ buy) (omega arith)) (omega arith) at₅_5 h))
      (λ none. refuses l s f c₅ 4 0 (turned_known l f c₅ 4 (good_is₅ ∙ g) (turned₅ ∙ not_there l s f k r h true by₅ none) (omega arith)) (omega arith) at₅_4 h))
      (λ bad. refuses l s f c₅ 2 0 (turned_bad l f c₅ (good_is₅ ∙ bad)) (omega arith) at₅_2 h)

-- A SUPPLIER'S BILL, which asks x for all of them
module _ (l : Limits) (s : State) (f : Firm) (k q x : ℕ) (can : ℕ → Bool) (can_bill : can 4 ≡ true) (good : Good (limits_of l)) (cans : l.calls_can ≡ can) (r : Reached l f) (h : Means (limits_of l) s f) where
  abbrev c₄ : Call
  c₄ = calls.billed_by k q x

  -- the order, what the goods are at its price, what is asked more or less, and the document
  abbrev o₄ : Order
  o₄ = order_record (limits_of l) k s.narrow

  abbrev p₄ : ℕ
  p₄ = q * o₄.price

  abbrev b₄ : Bill
  b₄ = bill_of p₄ x

  abbrev d₄ : ℕ
  d₄ = total_of Documents s.wide

  good_is₄ : good_call l c₄ ≡ (some_pieces q && leb x 1000000000000)
  unfolding call_number good_fields
  good_is₄ = ap (λ (b : Bool). (eqb 4 255 || b) && (some_pieces q && leb x 1000000000000)) (ap (λ (g : ℕ → Bool). g 4) cans ∙ can_bill)

  at₄_2 : place c₄ 2 ≡ 0
  unfolding place call_number
  at₄_2 = refl

  at₄_4 : place c₄ 4 ≡ 0
  unfolding place call_number
  at₄_4 = refl

  at₄_5 : place c₄ 5 ≡ 0
  unfolding place call_number
  at₄_5 = refl

  at₄_6 : place c₄ 6 ≡ 1
  unfolding place call_number
  at₄_6 = refl

  at₄_9 : place c₄ 9 ≡ 0
  unfolding place call_number
  at₄_9 = refl

  -- WHY IT IS TURNED AWAY
  abbrev by₄ : ℕ
  by₄ = pick (leb ((the_order f k).billed + q) (the_order f k).moved) 0 6

  turned₄ : turned_by f c₄ ≡ kind_is f k false by₄
  unfolding turned_by
  turned₄ = refl

  module _ (e : ltb k (count_of Orders s.narrow) ≡ true) where
    by_pieces₄ : o₄.sells ≡ false → turned_by f c₄ ≡ pick (leb (o₄.billed + q) o₄.moved) 0 6
    by_pieces₄ buy = turned₄ ∙ buys_so l s f k r h e by₄ buy ∙ by_pieces l s f k q good r h e

    -- what is entered, one amount after the other
    abbrev goods₄ : List ledger.Entry
    goods₄ = f.entries ++ entry 1 2 p₄ d₄

    abbrev more₄ : List ledger.Entry
    more₄ = goods₄ ++ entry 7 2 b₄.more d₄

    abbrev entries₄ : List ledger.Entry
    entries₄ = more₄ ++ entry 2 7 b₄.less d₄

    abbrev target₄ : firm.Order → ℕ → Firm
    target₄ y n =
        billed_firm l s f k q good r h y (f.entries ++ (entry 1 2 (q * y.price) n ++ (entry 7 2 (x - q * y.price) n ++ entry 2 7 (q * y.price - x) n)))

    changed₄ : changed f c₄ ≡ billed_firm l s f k q good r h (order_of o₄) entries₄
    unfolding changed
    changed₄ =
        ap₂ target₄ (sym (same l s f k r h e)) (sym (documents_are l s f k r h))
        ∙ ap (billed_firm l s f k q good r h (order_of o₄))
        (sym (append_assoc goods₄ (entry 7 2 b₄.more d₄) (entry 2 7 b₄.less d₄) ∙ append_assoc f.entries (entry 1 2 p₄ d₄) (entry 7 2 b₄.more d₄ ++ entry 2 7 b₄.less d₄)))

    module _ (g : some_pieces q ≡ true) (asked : x ≤ 1000000000000) where
      amount₄ : amount_of b₄ ≡ p₄ + b₄.more + b₄.less
      amount₄ = omega (arith, price_small l s f k q good r h e g, asked)

      long₄ : length entries₄ ≡ length f.entries + entries_of b₄
      long₄ = omega (arith, length_entry f.entries 1 2 p₄ d₄, length_entry goods₄ 7 2 b₄.more d₄, length_entry more₄ 2 7 b₄.less d₄)

      sum₄ : sum_of entries₄ ≡ sum_of f.entries + amount_of b₄
      sum₄ = omega (arith, amount₄, sum_entry f.entries 1 2 p₄ d₄, sum_entry goods₄ 7 2 b₄.more d₄, sum_entry more₄ 2 7 b₄.less d₄)

      fits₄ : fits l (changed f c₄) ≡ bill_fits (limits_of l) (entries_of b₄) (amount_of b₄) s
      fits₄ = ap (fits l) changed₄ ∙ billed_fits l s f k q good r h (order_of o₄) entries₄ (entries_of b₄) (amount_of b₄) long₄ sum₄

      -- IT IS DONE
      module _ (enough : o₄.billed + q ≤ o₄.moved) (fit : bill_fits (limits_of l) (entries_of b₄) (amount_of b₄) s ≡ true) where
        abbrev k₄ : Kept
        k₄ = order_kept l s f k q good r h e enough

        abbrev s₄ : State
        s₄ = order_billed (limits_of l) k o₄ q s

        room₄ : Room l s f k q good r h (entries_of b₄) (amount_of b₄)
        room₄ = tested l s f k q good r h (entries_of b₄) (amount_of b₄) fit

        -- so there is room for each, and all sums stay small
        booked₄ : sum_of f.entries + (p₄ + b₄.more + b₄.less) ≤ 1000000000000000
        booked₄ = omega (arith, amount₄, room₄.1, h.stands.frame.totals Booked, h.booked)

        counted₄ : length f.entries + entries_of b₄ ≤ l.entries
        counted₄ = omega (arith, room₄.0, entries_are l s f k r h)

        -- the goods
        first₄ : Entered (limits_of l) s₄ k₄ f.entries
        first₄ = order_entered l s f k q good r h e enough

        abbrev y₄ : Entry
        y₄ = record { left = 1; right = 2; amount = p₄; «document» = d₄ }

        abbrev t₄ : State
        t₄ = entered (limits_of l) y₄ s₄

        enters_goods : Entered (limits_of l) t₄ k₄ goods₄
        enters_goods =
            enters (limits_of l) s₄ k₄ f.entries y₄ good first₄
            (record { left = omega arith; right = omega arith; amount = omega (arith, booked₄); «document» = omega (arith, room₄.2) }) (omega arith) (omega arith)
            (omega (arith, counted₄, entered_count (limits_of l) s₄ k₄ f.entries first₄)) (omega (arith, booked₄))

        -- what is asked more
        abbrev z₄ : Entry
        z₄ = record { left = 7; right = 2; amount = b₄.more; «document» = d₄ }

        abbrev u₄ : State
        u₄ = entered (limits_of l) z₄ t₄

        enters_more : Entered (limits_of l) u₄ k₄ more₄
        enters_more =
            enters (limits_of l) t₄ k₄ goods₄ z₄ good enters_goods
            (record { left = omega arith; right = omega arith; amount = omega (arith, booked₄); «document» = omega (arith, room₄.2) }) (omega arith) (omega arith)
            (omega (arith, counted₄, entered_count (limits_of l) t₄ k₄ goods₄ enters_goods, length_entry f.entries 1 2 p₄ d₄)) (omega (arith, booked₄, sum_entry f.entries 1 2 p₄ d₄))

        -- what is asked less
        abbrev w₄ : Entry
        w₄ = record { left = 2; right = 7; amount = b₄.less; «document» = d₄ }

        abbrev v₄ : State
        v₄ = entered (limits_of l) w₄ u₄

        enters_less : Entered (limits_of l) v₄ k₄ entries₄
        enters_less =
            enters (limits_of l) u₄ k₄ more₄ w₄ good enters_more
            (record { left = omega arith; right = omega arith; amount = omega (arith, booked₄); «document» = omega (arith, room₄.2) }) (omega arith) (omega arith)
            (omega (arith, counted₄, entered_count (limits_of l) u₄ k₄ more₄ enters_more, length_entry f.entries 1 2 p₄ d₄, length_entry goods₄ 7 2 b₄.more d₄))
            (omega (arith, booked₄, sum_entry f.entries 1 2 p₄ d₄, sum_entry goods₄ 7 2 b₄.more d₄))

        means₄ : Means (limits_of l) (billed (limits_of l) k o₄ q b₄ d₄ s) (changed f c₄)
        unfolding bill_entered
        means₄ =
            subst (Means (limits_of l) (billed (limits_of l) k o₄ q b₄ d₄ s)) (sym changed₄)
            (booked_means l s f k q good r h e enough v₄ entries₄ (amount_of b₄) enters_less sum₄ room₄.1 room₄.2)

    says₄ : number d₄ ≡ told f c₄
    unfolding told
    says₄ = ap number (documents_are l s f k r h)

    last₄ : some_pieces q ≡ true → leb x 1000000000000 ≡ true → o₄.sells ≡ false → leb (o₄.billed + q) o₄.moved ≡ true →
        Done l s f c₄ (cond (bill_fits (limits_of l) (entries_of b₄) (amount_of b₄) s) (outcome (number d₄) (billed (limits_of l) k o₄ q b₄ d₄ s)) (refuse 9 0 s))
    last₄ g asked buy enough =
        let by_0 : turned_by f c₄ ≡ 0 = by_pieces₄ buy ∙ pick_true (leb (o₄.billed + q) o₄.moved) 0 6 enough in
        let fine : good_call l c₄ ≡ true = good_is₄ ∙ and_from (some_pieces q) (leb x 1000000000000) g asked in
        let most : x ≤ 1000000000000 = leb-true _ _ asked in
        cond_both (bill_fits (limits_of l) (entries_of b₄) (amount_of b₄) s) (outcome (number d₄) (billed (limits_of l) k o₄ q b₄ d₄ s)) (refuse 9 0 s) (Done l s f c₄)
        (λ fit. goes l s f c₄ _ _ (turned_not l f c₄ fine by_0 (fits₄ g most ∙ fit)) says₄ (means₄ g most (leb-true _ _ enough) fit))
        (λ over. refuses l s f c₄ 9 0 (turned_full l f c₄ fine by_0 (fits₄ g most ∙ over)) (omega arith) at₄_9 h)

  pub billed_by_done : Done l s f c₄ (billing.billed_by (limits_of l) k q x s)
  billed_by_done =
      cond_both (some_pieces q) _ (refuse 2 0 s) (Done l s f c₄)
      (λ g. cond_both (leb x 1000000000000) _ (refuse 2 0 s) (Done l s f c₄)
      (λ asked. let fine : good_call l c₄ ≡ true = good_is₄ ∙ and_from (some_pieces q) (leb x 1000000000000) g asked in
      cond_both (ltb k (count_of Orders s.narrow)) _ (refuse 4 0 s) (Done l s f c₄)
      (λ e. cond_both o₄.sells (refuse 5 0 s) _ (Done l s f c₄)
      (λ sell. refuses l s f c₄ 5 0 (turned_known l f c₄ 5 fine (turned₄ ∙ sells_not l s f k r h e by₄ sell) (omega arith)) (omega arith) at₄_5 h)
      (λ buy. cond_both (leb (o₄.billed + q) o₄.moved) _ (refuse 6 1 s) (Done l s f c₄)
      (λ enough. last₄ e g asked buy enough)
      (λ short. refuses l s f c₄ 6 1 (turned_known l f c₄ 6 fine (by_pieces₄ e buy ∙ pick_false (leb (o₄.billed + q) o₄.moved) 0 6 short) (omega arith)) (omega arith) at₄_6 h)))
      (λ none. refuses l s f c₄ 4 0 (turned_known l f c₄ 4 fine (turned₄ ∙ not_there l s f k r h false by₄ none) (omega arith)) (omega arith) at₄_4 h))
      (λ over. refuses l s f c₄ 2 0 (turned_bad l f c₄ (good_is₄ ∙ ap₂ ◌&&◌ g over)) (omega arith) at₄_2 h))
      (λ bad. refuses l s f c₄ 2 0 (turned_bad l f c₄ (good_is₄ ∙ ap (λ (b : Bool). b && leb x 1000000000000) bad)) (omega arith) at₄_2 h)
