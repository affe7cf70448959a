-- Sums that change: an item's by a lot that is counted or pieces that are counted out, two accounts' by an entry that is posted. All else stays.
use Rattle.std.proofs.Common.{◌≡◌, ℕ, ◌<◌, cond, eqb, ◌≢◌, ◌⊎◌, List, sym, refl, ap, ◌∙◌, subst, inl, inr, arith}
use Rattle.std.proofs.lemmas.Bool.{cases_eq, cond-true, cond-false, eq-eqb, ne_eqb}
use Rattle.layout.proofs.Owners.{number, differ}
use Rattle.layout.specs.Layout.{Good}
use Rattle.layout.specs.Words.{Owner, limits, totals, balances, stocks, orders, order_links, lots, lot_links, recipes, parts, entries, entry_links}
use Rattle.layout.specs.declared.limits.Limits.{Limits}
use Rattle.memory.proofs.Slots.{stock_slots, balance_slots}
use Rattle.memory.specs.Books.{balance_of, put_balance, stock_of, put_stock}
use Rattle.memory.specs.Slots.{Within}
use Rattle.records.specs.State.{State, state}
use Rattle.records.specs.declared.balance.Balance.{Balance}
use Rattle.records.specs.declared.stock.Stock.{Stock}
use Rattle.store.specs.Laws.{with_stocks, with_balances, stock_with, stock_without, CountsIn, CountsOut, Posts}
use Rattle.store.specs.Steps.{sum, more_stock, lot_counted, less_stock, counted_out, more_left, more_right, left_posted, right_posted}
use Rattle.store.specs.View.{Kept, SumsStand, Stands}
use Rattle.store.proofs.Kept.{frame_kept, lots_kept, orders_kept, entries_kept, recipes_kept}
use Rattle.store.proofs.Tables.{when_lt}

-- a step that keeps to the words of one kind of sum
abbrev OfSums : Owner → Type 0
OfSums y = (z : Owner) → number z ≢ 3 → number z ≢ 12 → z ≢ y

with_sums : (l : Limits) (s s' : State) (b : Kept) (of : ℕ → Stock) (on : ℕ → Balance) (y : Owner) → Good l → OfSums y → s'.narrow ≡ s.narrow → Within y l s s' → Stands l s b →
    SumsStand l s' of on → Stands l s' (with_stocks of (with_balances on b))
with_sums l s s' b of on y good far same with_in st h = record {
  frame = frame_kept l s s' good y with_in b.totals (far limits (λ e. omega arith) (λ e. omega arith)) (far totals (λ e. omega arith) (λ e. omega arith)) st.frame;
  lots = lots_kept l s s' good y with_in b.lots_of b.lots_used (far lots (λ e. omega arith) (λ e. omega arith)) (far lot_links (λ e. omega arith) (λ e. omega arith)) (cc) st.lots;
  orders = orders_kept l s s' good y with_in b.all_orders (far orders (λ e. omega arith) (λ e. omega arith)) (far order_links (λ e. omega arith) (λ e. omega arith)) (cc) st.orders;
  entries = entries_kept l s s' good y with_in b.all_entries (far entries (λ e. omega arith) (λ e. omega arith)) (far entry_links (λ e. omega arith) (λ e. omega arith)) (cc) st.entries;
  recipes = recipes_kept l s s' good y with_in b.all_parts b.recipes (far parts (λ e. omega arith) (λ e. omega arith)) (far recipes (λ e. omega arith) (λ e. omega arith)) (cc) st.recipes;
  sums = h;
}

-- the sums of one item are put
stock_put : (l : Limits) (s : State) (b : Kept) (i : ℕ) (v : Stock) (of : ℕ → Stock) → Good l → Stands l s b → i < l.items → v ≡ of i → ((j : ℕ) → i ≢ j → b.stocks j ≡ of j) →
    Stands l (state (put_stock i v s.wide) s.narrow) (with_stocks of b)
stock_put l s b i v of good st it here others =
    with_sums l s t b of b.balances stocks good (λ z p q. differ z stocks p) refl w st (record {
      stocks = λ j lt. at j lt (cases_eq i j);
      balances = λ a lt. (balance_slots l).kept a stocks s t lt (differ _ _ (λ e. omega arith)) w ∙ st.sums.balances a lt;
    })
  where
    t : State
    t = state (put_stock i v s.wide) s.narrow

    w : Within stocks l s t
    w = (stock_slots l).within i v s it

    at : (j : ℕ) → j < l.items → (i ≡ j) ⊎ (i ≡ j → ⊥) → stock_of j t.wide ≡ of j
    at j lt (inl e) = ap (λ (k : ℕ). stock_of k t.wide) (sym e) ∙ (stock_slots l).same i v s st.frame.roomy it ∙ here ∙ ap of e
    at j lt (inr ne) = (stock_slots l).other j i v s (λ e. ne (sym e)) ∙ st.sums.stocks j lt ∙ others j ne

-- A LOT IS COUNTED
pub counts_in : CountsIn
unfolding lot_counted
counts_in l s b x good st it =
    subst (λ (w : List ℕ). Stands l (state w s.narrow) (with_stocks (λ i. stock_with x i (b.stocks i)) b)) (sym (when_lt x.item l.items _ s.wide it))
    (stock_put l s b x.item (more_stock (stock_of x.item s.wide) x.pieces x.cost) (λ i. stock_with x i (b.stocks i)) good st it
    (ap (λ (a : Stock). more_stock a x.pieces x.cost) (st.sums.stocks x.item it) ∙ sym (cond-true (eqb x.item x.item) _ (b.stocks x.item) (eq-eqb x.item x.item refl)))
    (λ j ne. sym (cond-false (eqb x.item j) _ (b.stocks j) (ne_eqb x.item j ne))))

-- PIECES ARE COUNTED OUT
pub counts_out : CountsOut
unfolding counted_out
counts_out l s b i q x good st it =
    subst (λ (w : List ℕ). Stands l (state w s.narrow) (with_stocks (λ j. stock_without i q x j (b.stocks j)) b)) (sym (when_lt i l.items _ s.wide it))
    (stock_put l s b i (less_stock (stock_of i s.wide) q x) (λ j. stock_without i q x j (b.stocks j)) good st it
    (ap (λ (a : Stock). less_stock a q x) (st.sums.stocks i it) ∙ sym (cond-true (eqb i i) _ (b.stocks i) (eq-eqb i i refl)))
    (λ j ne. sym (cond-false (eqb i j) _ (b.stocks j) (ne_eqb i j ne))))

-- AN ENTRY IS POSTED: one side of one account, and then the other side of another
balance_put : (l : Limits) (s : State) (b : Kept) (a : ℕ) (v : Balance) (on : ℕ → Balance) → Good l → Stands l s b → a < 16 → v ≡ on a → ((j : ℕ) → a ≢ j → b.balances j ≡ on j) →
    Stands l (state (put_balance a v s.wide) s.narrow) (with_balances on b)
balance_put l s b a v on good st it here others =
    with_sums l s t b b.stocks on balances good (λ z p q. differ z balances q) refl w st (record {
      stocks = λ i lt. (stock_slots l).kept i balances s t lt (differ _ _ (λ e. omega arith)) w ∙ st.sums.stocks i lt;
      balances = λ j lt. at j lt (cases_eq a j);
    })
  where
    t : State
    t = state (put_balance a v s.wide) s.narrow

    w : Within balances l s t
    w = (balance_slots l).within a v s it

    at : (j : ℕ) → j < 16 → (a ≡ j) ⊎ (a ≡ j → ⊥) → balance_of j t.wide ≡ on j
    at j lt (inl e) = ap (λ (i : ℕ). balance_of i t.wide) (sym e) ∙ (balance_slots l).same a v s st.frame.roomy it ∙ here ∙ ap on e
    at j lt (inr ne) = (balance_slots l).other j a v s (λ e. ne (sym e)) ∙ st.sums.balances j lt ∙ others j ne

abbrev left_with : ℕ → ℕ → ℕ → Balance → Balance
left_with a x j b = record { left = cond (eqb a j) (sum b.left x) b.left; right = b.right }

abbrev right_with : ℕ → ℕ → ℕ → Balance → Balance
right_with a x j b = record { left = b.left; right = cond (eqb a j) (sum b.right x) b.right }

posts_left : (l : Limits) (s : State) (b : Kept) (a x : ℕ) → Good l → Stands l s b → a < 16 → Stands l (state (left_posted a x s.wide) s.narrow) (with_balances (λ j. left_with a x j (b.balances j)) b)
unfolding left_posted
posts_left l s b a x good st it =
    balance_put l s b a _ _ good st it
    (ap (λ (y : Balance). more_left y x) (st.sums.balances a it)
    ∙ ap (λ (n : ℕ). record { left = n; right = (b.balances a).right }) (sym (cond-true (eqb a a) (sum (b.balances a).left x) (b.balances a).left (eq-eqb a a refl))))
    (λ j ne. ap (λ (n : ℕ). record { left = n; right = (b.balances j).right }) (sym (cond-false (eqb a j) (sum (b.balances j).left x) (b.balances j).left (ne_eqb a j ne))))

posts_right : (l : Limits) (s : State) (b : Kept) (a x : ℕ) → Good l → Stands l s b → a < 16 → Stands l (state (right_posted a x s.wide) s.narrow) (with_balances (λ j. right_with a x j (b.balances j)) b)
unfolding right_posted
posts_right l s b a x good st it =
    balance_put l s b a _ _ good st it
    (ap (λ (y : Balance). more_right y x) (st.sums.balances a it)
    ∙ ap (λ (n : ℕ). record { left = (b.balances a).left; right = n }) (sym (cond-true (eqb a a) (sum (b.balances a).right x) (b.balances a).right (eq-eqb a a refl))))
    (λ j ne. ap (λ (n : ℕ). record { left = (b.balances j).left; right = n }) (sym (cond-false (eqb a j) (sum (b.balances j).right x) (b.balances j).right (ne_eqb a j ne))))

pub posts : Posts
posts l s b x good st il ir =
    posts_right l (state (left_posted x.left x.amount s.wide) s.narrow) (with_balances (λ a. left_with x.left x.amount a (b.balances a)) b) x.right x.amount good
    (posts_left l s b x.left x.amount good st il) ir
