-- Questions, what is no call, and what the stage does not do. Assumes nothing.
use Rattle.std.proofs.Common.{◌≡◌, ℕ, ◌<◌, Bool, true, ◌&&◌, ◌||◌, eqb, ltb, List, [], length, get_or, sym, refl, ap, ◌∙◌, subst, arith}
use Rattle.std.proofs.lemmas.List.{length-map, get_or-map}
use Rattle.std.proofs.lemmas.Bool.{cond_both, ltb-true}
use Rattle.firm.specs.Stock.{pick, of_item}
use Rattle.firm.specs.Firm.{Firm, no_order}
use Rattle.firm.specs.Firm as firm
use Rattle.firm.specs.Calls.{Call, Answer, refused, two, Limits, call_number}
use Rattle.firm.specs.Calls as calls
use Rattle.firm.specs.Changes.{changed}
use Rattle.firm.specs.Refusals.{good_fields, good_call, turned_by, fits, garbled_at, place}
use Rattle.firm.specs.Answers.{told}
use Rattle.firm.specs.Statements.{Reached}
use Rattle.firm.proofs.Bounds.{reached_fits}
use Rattle.firm.proofs.Picks.{pick_true, pick_false}
use Rattle.firm.proofs.Turned.{turned_bad, turned_known, turned_not}
use Rattle.layout.specs.Layout.{Good, lot_rows}
use Rattle.layout.specs.declared.head.Counter.TheVariants.{Orders}
use Rattle.layout.proofs.Placed.{lot_rows_placed}
use Rattle.links.specs.Model.{row}
use Rattle.memory.specs.Books.{count_of, order_record, balance_of, stock_of}
use Rattle.questions.specs.Listing.{lots_met, lots_step}
use Rattle.questions.proofs.Along.{walked_row}
use Rattle.records.specs.Kinds.{order_kind}
use Rattle.records.specs.State.{State}
use Rattle.records.specs.declared.balance.Balance.{Balance}
use Rattle.records.specs.declared.stock.Stock.{Stock}
use Rattle.rules.specs.Asking.{stock_told, account_told, order_told}
use Rattle.rules.specs.Outcome.{outcome, refuse}
use Rattle.store.specs.View.{Kept}
use Rattle.session.specs.Calling.{lots_told}
use Rattle.session.specs.Means.{Means, order_of, stock_sums, account_sums, limits_of}
use Rattle.firm.specs.Promise.{whole}
use Rattle.session.proofs.Counting.{lots_along, lots_there}
use Rattle.session.proofs.Turning.{Done, refuses, goes}

module _ (l : Limits) (s : State) (f : Firm) (good : Good (limits_of l)) (cans : l.calls_can ≡ whole) (r : Reached l f) (h : Means (limits_of l) s f) where
  abbrev m : Kept
  m = h.kept

  -- A QUESTION whose field is good is answered, and changes nothing
  asked : (c : Call) (a : Answer) → good_call l c ≡ true → turned_by f c ≡ 0 → changed f c ≡ f → a ≡ told f c → Done l s f c (outcome a s)
  asked c a g by same says =
      goes l s f c a s (turned_not l f c g by (ap (fits l) same ∙ reached_fits l f r)) says (subst (Means (limits_of l) s) (sym same) h)

  -- HOW FAR AN ORDER IS
  module _ (k : ℕ) where
    orders_are : length m.all_orders ≡ length f.orders
    orders_are = sym (length-map m.all_orders order_of) ∙ ap length h.orders

    there : ltb k (length f.orders) ≡ ltb k (count_of Orders s.narrow)
    there = ap (ltb k) (sym (h.stands.orders.count ∙ orders_are))

    order_good : good_call l (calls.order k) ≡ true
    unfolding call_number good_fields
    order_good = ap (λ (g : ℕ → Bool). (eqb 13 255 || g 13) && true) cans

    order_by : turned_by f (calls.order k) ≡ pick (ltb k (count_of Orders s.narrow)) 0 4
    unfolding turned_by
    order_by = ap (λ (b : Bool). pick b 0 4) there

    order_changed : changed f (calls.order k) ≡ f
    unfolding changed
    order_changed = refl

    order_at_4 : place (calls.order k) 4 ≡ 0
    unfolding place call_number
    order_at_4 = refl

    order_says : ltb k (count_of Orders s.narrow) ≡ true → two (order_record (limits_of l) k s.narrow).moved (order_record (limits_of l) k s.narrow).billed ≡ told f (calls.order k)
    unfolding told
    order_says e =
        let few : k < length m.all_orders = omega (arith, ltb-true k (length f.orders) (there ∙ e), orders_are) in
        ap (λ (y : firm.Order). two y.moved y.billed)
        (ap order_of (h.stands.orders.each k few) ∙ sym (get_or-map order_of m.all_orders k order_kind.nothing no_order few) ∙ ap (λ (os : List firm.Order). get_or os k no_order) h.orders)

    pub order_done : Done l s f (calls.order k) (outcome (order_told (limits_of l) k s.narrow) s)
    order_done =
        cond_both (ltb k (count_of Orders s.narrow)) (two (order_record (limits_of l) k s.narrow).moved (order_record (limits_of l) k s.narrow).billed) (refused 4 0) (λ (a : Answer). Done l s f (calls.order k) (outcome a s))
        (λ e. asked (calls.order k) _ order_good (order_by ∙ pick_true (ltb k (count_of Orders s.narrow)) 0 4 e) order_changed (order_says e))
        (λ e. refuses l s f (calls.order k) 4 0 (turned_known l f (calls.order k) 4 order_good (order_by ∙ pick_false (ltb k (count_of Orders s.narrow)) 0 4 e) (omega arith)) (omega arith) order_at_4 h)

  -- AN ITEM'S LOTS
  module _ (i : ℕ) where
    -- its lots, along its row
    met_are : i < l.items → lots_met (limits_of l) i s ≡ of_item f.lots i
    unfolding lots_met
    met_are lt =
        walked_row (lots_step (limits_of l) s) (lot_rows (limits_of l)) s.narrow h.stands.lots.places i [] (lot_rows_placed (limits_of l) good).sound h.stands.lots.held (omega (arith, good.items))
        ∙ lots_along (limits_of l) s (row h.stands.lots.places i) [] ∙ lots_there (limits_of l) s f good h i lt

    -- what they come to, by the sums that are kept
    stock_is : i < l.items → stock_of i s.wide ≡ stock_sums f.lots i
    stock_is lt = h.stands.sums.stocks i lt ∙ h.stocks i lt

    stock_good : good_call l (calls.stock_of i) ≡ ltb i l.items
    unfolding call_number good_fields
    stock_good = ap (λ (g : ℕ → Bool). (eqb 11 255 || g 11) && ltb i l.items) cans

    stock_by : turned_by f (calls.stock_of i) ≡ 0
    unfolding turned_by
    stock_by = refl

    stock_changed : changed f (calls.stock_of i) ≡ f
    unfolding changed
    stock_changed = refl

    stock_at_2 : place (calls.stock_of i) 2 ≡ 0
    unfolding place call_number
    stock_at_2 = refl

    stock_says : i < l.items → two (stock_of i s.wide).pieces (stock_of i s.wide).worth ≡ told f (calls.stock_of i)
    unfolding told
    stock_says lt = ap (λ (a : Stock). two a.pieces a.worth) (stock_is lt)

    pub stock_done : Done l s f (calls.stock_of i) (outcome (stock_told (limits_of l) i s.wide) s)
    stock_done =
        cond_both (ltb i l.items) (two (stock_of i s.wide).pieces (stock_of i s.wide).worth) (refused 2 0) (λ (a : Answer). Done l s f (calls.stock_of i) (outcome a s))
        (λ e. asked (calls.stock_of i) _ (stock_good ∙ e) stock_by stock_changed (stock_says (ltb-true i l.items e)))
        (λ e. refuses l s f (calls.stock_of i) 2 0 (turned_bad l f (calls.stock_of i) (stock_good ∙ e)) (omega arith) stock_at_2 h)

    lots_good : good_call l (calls.lots_of i) ≡ ltb i l.items
    unfolding call_number good_fields
    lots_good = ap (λ (g : ℕ → Bool). (eqb 14 255 || g 14) && ltb i l.items) cans

    lots_by : turned_by f (calls.lots_of i) ≡ 0
    unfolding turned_by
    lots_by = refl

    lots_changed : changed f (calls.lots_of i) ≡ f
    unfolding changed
    lots_changed = refl

    lots_at_2 : place (calls.lots_of i) 2 ≡ 0
    unfolding place call_number
    lots_at_2 = refl

    lots_says : i < l.items → calls.lots (lots_met (limits_of l) i s) ≡ told f (calls.lots_of i)
    unfolding told
    lots_says lt = ap calls.lots (met_are lt)

    pub lots_done : Done l s f (calls.lots_of i) (outcome (lots_told (limits_of l) i s) s)
    lots_done =
        cond_both (ltb i l.items) (calls.lots (lots_met (limits_of l) i s)) (refused 2 0) (λ (a : Answer). Done l s f (calls.lots_of i) (outcome a s))
        (λ e. asked (calls.lots_of i) _ (lots_good ∙ e) lots_by lots_changed (lots_says (ltb-true i l.items e)))
        (λ e. refuses l s f (calls.lots_of i) 2 0 (turned_bad l f (calls.lots_of i) (lots_good ∙ e)) (omega arith) lots_at_2 h)

  -- AN ACCOUNT'S SIDES, by the sums that are kept
  module _ (a : ℕ) where
    sides_are : a < 9 → balance_of a s.wide ≡ account_sums f.entries a
    sides_are lt = h.stands.sums.balances a (omega arith) ∙ h.balances a lt

    account_good : good_call l (calls.account a) ≡ ltb a 9
    unfolding call_number good_fields
    account_good = ap (λ (g : ℕ → Bool). (eqb 12 255 || g 12) && ltb a 9) cans

    account_by : turned_by f (calls.account a) ≡ 0
    unfolding turned_by
    account_by = refl

    account_changed : changed f (calls.account a) ≡ f
    unfolding changed
    account_changed = refl

    account_at_2 : place (calls.account a) 2 ≡ 0
    unfolding place call_number
    account_at_2 = refl

    account_says : a < 9 → two (balance_of a s.wide).left (balance_of a s.wide).right ≡ told f (calls.account a)
    unfolding told
    account_says lt = ap (λ (b : Balance). two b.left b.right) (sides_are lt)

    pub account_done : Done l s f (calls.account a) (outcome (account_told a s.wide) s)
    account_done =
        cond_both (ltb a 9) (two (balance_of a s.wide).left (balance_of a s.wide).right) (refused 2 0) (λ (b : Answer). Done l s f (calls.account a) (outcome b s))
        (λ e. asked (calls.account a) _ (account_good ∙ e) account_by account_changed (account_says (ltb-true a 9 e)))
        (λ e. refuses l s f (calls.account a) 2 0 (turned_bad l f (calls.account a) (account_good ∙ e)) (omega arith) account_at_2 h)

  -- WHAT IS NO CALL
  pub garbled_done : (n : ℕ) → Done l s f (calls.garbled n) (refuse 1 n s)
  unfolding call_number good_fields turned_by place garbled_at
  garbled_done n = refuses l s f (calls.garbled n) 1 n (turned_known l f (calls.garbled n) 1 refl refl (omega arith)) (omega arith) refl h
