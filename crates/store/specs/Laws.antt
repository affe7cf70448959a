-- What each function does to what is kept: it changes the list or the sums that it is about, and no other.
use Rattle.std.specs.Prelude.{◌≡◌, ℕ, ◌+◌, ◌-◌, ◌/◌, ◌<◌, cond, List, [], ◌∷◌, ◌++◌, map, length, Ok, Err, Option, ◌==◌, slice_index_or, slice_set}
use Rattle.layout.specs.Layout.{total_at, Good}
use Rattle.layout.specs.declared.head.Total.{Total}
use Rattle.layout.specs.declared.limits.Limits.{Limits}
use Rattle.links.specs.Model.{first}
use Rattle.links.specs.Rows.{nth}
use Rattle.memory.specs.Books.{put_order, lot_record, entry_record, put_total}
use Rattle.memory.specs.Slots.{Roomy}
use Rattle.memory.specs.Opened.{opened}
use Rattle.records.specs.Kinds.{order_kind}
use Rattle.records.specs.State.{State, state}
use Rattle.records.specs.declared.balance.Balance.{Balance}
use Rattle.records.specs.declared.entry.Entry.{Entry}
use Rattle.records.specs.declared.lot.Lot.{Lot}
use Rattle.records.specs.declared.order.Order.{Order}
use Rattle.records.specs.declared.part.Part.{Part}
use Rattle.records.specs.declared.recipe.Recipe.{Recipe}
use Rattle.records.specs.declared.stock.Stock.{Stock}
use Rattle.store.specs.Steps.{after, lot_placed, lot_freed, add_lot, remove_lot, nth_lot, first_lot, lot_after, first_order, order_after, first_entry, entry_after, order_placed, add_order, set_order, nth_order, entry_placed, add_entry, nth_entry, part_placed, add_part, front, recipe_placed, add_recipe, sum, more_stock, lot_counted, less_stock, counted_out, post}
use Rattle.store.specs.View.{Kept, numbers, entries_of, Stands}
use Rattle.store.specs.declared.refusal.Refusal.TheVariants.{NoLot, Full}

-- WHAT IS KEPT of new books: nothing, and every sum is 0
abbrev pub nothing_kept : Kept
nothing_kept = record { lots_of = λ i. []; lots_used = 0; all_orders = []; all_entries = []; all_parts = []; recipes = λ i. record { first = 0; parts = 0 }; totals = λ t. 0; stocks = λ i. record { pieces = 0; worth = 0 }; balances = λ a. record { left = 0; right = 0 } }

-- WHAT IS KEPT with a change: with another list of lots of item i, and so many lots in all
abbrev pub with_lots : ℕ → List Lot → ℕ → Kept → Kept
with_lots i xs many b = record { lots_of = λ j. cond (j == i) xs (b.lots_of j); lots_used = many; all_orders = b.all_orders; all_entries = b.all_entries; all_parts = b.all_parts; recipes = b.recipes; totals = b.totals; stocks = b.stocks; balances = b.balances }

abbrev pub with_orders : List Order → Kept → Kept
with_orders os b = record { lots_of = b.lots_of; lots_used = b.lots_used; all_orders = os; all_entries = b.all_entries; all_parts = b.all_parts; recipes = b.recipes; totals = b.totals; stocks = b.stocks; balances = b.balances }

abbrev pub with_entries : List Entry → Kept → Kept
with_entries es b = record { lots_of = b.lots_of; lots_used = b.lots_used; all_orders = b.all_orders; all_entries = es; all_parts = b.all_parts; recipes = b.recipes; totals = b.totals; stocks = b.stocks; balances = b.balances }

abbrev pub with_parts : List Part → Kept → Kept
with_parts ps b = record { lots_of = b.lots_of; lots_used = b.lots_used; all_orders = b.all_orders; all_entries = b.all_entries; all_parts = ps; recipes = b.recipes; totals = b.totals; stocks = b.stocks; balances = b.balances }

abbrev pub with_recipe : ℕ → Recipe → Kept → Kept
with_recipe i r b = record { lots_of = b.lots_of; lots_used = b.lots_used; all_orders = b.all_orders; all_entries = b.all_entries; all_parts = b.all_parts; recipes = λ j. cond (j == i) r (b.recipes j); totals = b.totals; stocks = b.stocks; balances = b.balances }

abbrev pub with_total : Total → ℕ → Kept → Kept
with_total t v b = record { lots_of = b.lots_of; lots_used = b.lots_used; all_orders = b.all_orders; all_entries = b.all_entries; all_parts = b.all_parts; recipes = b.recipes; totals = λ u. cond (total_at u == total_at t) v (b.totals u); stocks = b.stocks; balances = b.balances }

abbrev pub with_stocks : (ℕ → Stock) → Kept → Kept
with_stocks of b = record { lots_of = b.lots_of; lots_used = b.lots_used; all_orders = b.all_orders; all_entries = b.all_entries; all_parts = b.all_parts; recipes = b.recipes; totals = b.totals; stocks = of; balances = b.balances }

abbrev pub with_balances : (ℕ → Balance) → Kept → Kept
with_balances of b = record { lots_of = b.lots_of; lots_used = b.lots_used; all_orders = b.all_orders; all_entries = b.all_entries; all_parts = b.all_parts; recipes = b.recipes; totals = b.totals; stocks = b.stocks; balances = of }

-- opened memory keeps nothing
abbrev pub OpensEmpty : Type 0
OpensEmpty = (l : Limits) (s : State) → Good l → Roomy l s → Stands l (opened l s) nothing_kept

-- LOTS. While fewer lots are in use than the limit, a lot comes at the end of its item's list, in a cell; else it is refused.
abbrev pub AddsLot : Type 0
AddsLot =
    (l : Limits) (s : State) (b : Kept) (x : Lot) → Good l → Stands l s b → x.item < l.items → b.lots_used < l.lots →
    (c : ℕ) × (c < l.lots) × (add_lot l x s ≡ after (Ok c) (lot_placed l c x s)) × (lot_record l c (lot_placed l c x s) ≡ x) × Stands l (lot_placed l c x s) (with_lots x.item (b.lots_of x.item ++ x ∷ []) (b.lots_used + 1) b)

abbrev pub RefusesLot : Type 0
RefusesLot = (l : Limits) (s : State) (b : Kept) (x : Lot) → Good l → Stands l s b → x.item < l.items → b.lots_used ≡ l.lots → add_lot l x s ≡ after (Err Full) s

-- the oldest lot of an item is answered, and goes; where there is none, nothing goes
abbrev pub RemovesLot : Type 0
RemovesLot =
    (l : Limits) (s : State) (b : Kept) (i : ℕ) (x : Lot) (xs : List Lot) → Good l → Stands l s b → i < l.items → b.lots_of i ≡ x ∷ xs →
    (c : ℕ) × (remove_lot l i s ≡ after (Ok x) (lot_freed l i c s.narrow)) × Stands l (state s.wide (lot_freed l i c s.narrow)) (with_lots i xs (b.lots_used - 1) b)

abbrev pub LacksLot : Type 0
LacksLot = (l : Limits) (s : State) (b : Kept) (i : ℕ) → Good l → Stands l s b → i < l.items → b.lots_of i ≡ [] → remove_lot l i s ≡ after (Err NoLot) s.narrow

-- the k-th lot that is read of an item is the k-th of its list
abbrev pub ReadsLot : Type 0
ReadsLot = (l : Limits) (s : State) (b : Kept) (i k : ℕ) → Good l → Stands l s b → i < l.items → nth_lot l i k s ≡ nth (b.lots_of i) k

-- a walk: after the cells bs of an item's lots, c and then cs, c is followed by the first of cs; and c has the lot that stands there
pub record Walk {X : Type 0} (first_of : Option ℕ) (after_of : ℕ → Option ℕ) (at : ℕ → X) (xs : List X) : Type 0 where
  pub places : List ℕ
  pub each : map at places ≡ xs
  pub starts : first_of ≡ first places
  pub goes_on : (bs cs : List ℕ) (c : ℕ) → places ≡ bs ++ c ∷ cs → after_of c ≡ first cs

-- a walk along an item's row meets its lots, the oldest first
abbrev pub WalksLots : Type 0
WalksLots =
    (l : Limits) (s : State) (b : Kept) (i : ℕ) → Good l → Stands l s b → i < l.items → Walk (first_lot l i s.narrow) (λ c. lot_after l c s.narrow) (λ c. lot_record l c s) (b.lots_of i)

-- ORDERS. While there are fewer than the limit, an order comes at the end; its number is how many there were
abbrev pub AddsOrder : Type 0
AddsOrder =
    (l : Limits) (s : State) (b : Kept) (x : Order) → Good l → Stands l s b → x.item < l.items → length b.all_orders < l.orders →
    (add_order l x s.narrow ≡ after (Ok (length b.all_orders)) (order_placed l x s.narrow)) × Stands l (state s.wide (order_placed l x s.narrow)) (with_orders (b.all_orders ++ x ∷ []) b)

-- an order is changed, and stays with its item
abbrev pub SetsOrder : Type 0
SetsOrder =
    (l : Limits) (s : State) (b : Kept) (k : ℕ) (x : Order) → Good l → Stands l s b → k < length b.all_orders → x.item ≡ (slice_index_or b.all_orders k order_kind.nothing).item →
    (set_order l k x s.narrow ≡ after (Ok k) (put_order l k x s.narrow)) × Stands l (state s.wide (put_order l k x s.narrow)) (with_orders (slice_set b.all_orders k x) b)

-- where as many are kept as the limits allow, one more is refused
abbrev pub RefusesOrder : Type 0
RefusesOrder =
    (l : Limits) (s : State) (b : Kept) (x : Order) → Stands l s b → x.item < l.items → length b.all_orders ≡ l.orders → add_order l x s.narrow ≡ after (Err Full) s.narrow

-- the k-th order of an item is the k-th number of its list
abbrev pub ReadsOrder : Type 0
ReadsOrder = (l : Limits) (s : State) (b : Kept) (i k : ℕ) → Good l → Stands l s b → i < l.items → nth_order l i k s.narrow ≡ nth (numbers i 0 b.all_orders) k

-- a walk along an item's row meets the numbers of its orders
abbrev pub WalksOrders : Type 0
WalksOrders =
    (l : Limits) (s : State) (b : Kept) (i : ℕ) → Good l → Stands l s b → i < l.items →
    Walk (first_order l i s.narrow) (λ k. order_after l k s.narrow) (λ k. k) (numbers i 0 b.all_orders)

-- ENTRIES. While there are fewer than the limit, an entry comes at the end; its number is how many there were
abbrev pub AddsEntry : Type 0
AddsEntry =
    (l : Limits) (s : State) (b : Kept) (x : Entry) → Good l → Stands l s b → x.left < 16 → x.right < 16 → length b.all_entries < l.entries →
    (add_entry l x s ≡ after (Ok (length b.all_entries)) (entry_placed l x s)) × Stands l (entry_placed l x s) (with_entries (b.all_entries ++ x ∷ []) b)

-- where as many are kept as the limits allow, one more is refused
abbrev pub RefusesEntry : Type 0
RefusesEntry =
    (l : Limits) (s : State) (b : Kept) (x : Entry) → Stands l s b → x.left < 16 → x.right < 16 → length b.all_entries ≡ l.entries → add_entry l x s ≡ after (Err Full) s

-- the k-th entry of an account is the k-th of its list
abbrev pub ReadsEntry : Type 0
ReadsEntry = (l : Limits) (s : State) (b : Kept) (a k : ℕ) → Good l → Stands l s b → a < 16 → nth_entry l a k s ≡ nth (entries_of a b.all_entries) k

-- a walk along an account's row meets its entries
abbrev pub WalksEntries : Type 0
WalksEntries =
    (l : Limits) (s : State) (b : Kept) (a : ℕ) → Good l → Stands l s b → a < 16 →
    Walk (first_entry l a s.narrow) (λ c. entry_after l c s.narrow) (λ c. entry_record l (c / 2) s) (entries_of a b.all_entries)

-- RECIPES. While there are fewer parts than the limit, one comes at the end; its row is how many there were
abbrev pub AddsPart : Type 0
AddsPart =
    (l : Limits) (s : State) (b : Kept) (x : Part) → Good l → Stands l s b → length b.all_parts < l.parts →
    (add_part l x s.narrow ≡ after (Ok (length b.all_parts)) (part_placed l x s.narrow)) × Stands l (state s.wide (part_placed l x s.narrow)) (with_parts (b.all_parts ++ x ∷ []) b)

-- a recipe begins with the row in front of its parts, and its item's recipe lies behind that from now on
abbrev pub AddsRecipe : Type 0
AddsRecipe =
    (l : Limits) (s : State) (b : Kept) (i k : ℕ) → Good l → Stands l s b → i < l.items → length b.all_parts < l.parts →
    (add_recipe l i k s.narrow ≡ after (Ok (length b.all_parts)) (recipe_placed l i k s.narrow))
    × Stands l (state s.wide (recipe_placed l i k s.narrow)) (with_recipe i (record { first = length b.all_parts + 1; parts = k }) (with_parts (b.all_parts ++ front i k ∷ []) b))

-- where as many parts are kept as the limits allow, one more is refused, and so is a recipe
abbrev pub RefusesPart : Type 0
RefusesPart = (l : Limits) (s : State) (b : Kept) (x : Part) → Stands l s b → length b.all_parts ≡ l.parts → add_part l x s.narrow ≡ after (Err Full) s.narrow

abbrev pub RefusesRecipe : Type 0
RefusesRecipe = (l : Limits) (s : State) (b : Kept) (i k : ℕ) → Stands l s b → i < l.items → length b.all_parts ≡ l.parts → add_recipe l i k s.narrow ≡ after (Err Full) s.narrow

-- TOTALS. One that is put changes, and no other
abbrev pub PutsTotal : Type 0
PutsTotal = (l : Limits) (s : State) (b : Kept) (t : Total) (v : ℕ) → Good l → Stands l s b → Stands l (state (put_total t v s.wide) s.narrow) (with_total t v b)

-- SUMS. What an item's sums are once a lot is counted or pieces are counted out, and an account's once an entry is posted
abbrev pub stock_with : Lot → ℕ → Stock → Stock
stock_with x i a = cond (x.item == i) (more_stock a x.pieces x.cost) a

abbrev pub stock_without : ℕ → ℕ → ℕ → ℕ → Stock → Stock
stock_without i q x j a = cond (i == j) (less_stock a q x) a

abbrev pub balance_with : Entry → ℕ → Balance → Balance
balance_with x a b = record { left = cond (x.left == a) (sum b.left x.amount) b.left; right = cond (x.right == a) (sum b.right x.amount) b.right }

-- counting a lot changes its item's sums so, and no other sum
abbrev pub CountsIn : Type 0
CountsIn =
    (l : Limits) (s : State) (b : Kept) (x : Lot) → Good l → Stands l s b → x.item < l.items → Stands l (state (lot_counted l x s.wide) s.narrow) (with_stocks (λ i. stock_with x i (b.stocks i)) b)

-- counting pieces out changes the item's sums so, and no other sum
abbrev pub CountsOut : Type 0
CountsOut =
    (l : Limits) (s : State) (b : Kept) (i q x : ℕ) → Good l → Stands l s b → i < l.items →
    Stands l (state (counted_out l i q x s.wide) s.narrow) (with_stocks (λ j. stock_without i q x j (b.stocks j)) b)

-- posting an entry changes its two accounts' sums so, and no other sum
abbrev pub Posts : Type 0
Posts =
    (l : Limits) (s : State) (b : Kept) (x : Entry) → Good l → Stands l s b → x.left < 16 → x.right < 16 →
    Stands l (state (post x s.wide) s.narrow) (with_balances (λ a. balance_with x a (b.balances a)) b)

pub record StoreLaws : Type 0 where
  pub opens_empty : OpensEmpty
  pub adds_lot : AddsLot
  pub refuses_lot : RefusesLot
  pub removes_lot : RemovesLot
  pub lacks_lot : LacksLot
  pub reads_lot : ReadsLot
  pub walks_lots : WalksLots
  pub adds_order : AddsOrder
  pub refuses_order : RefusesOrder
  pub sets_order : SetsOrder
  pub reads_order : ReadsOrder
  pub walks_orders : WalksOrders
  pub adds_entry : AddsEntry
  pub refuses_entry : RefusesEntry
  pub reads_entry : ReadsEntry
  pub walks_entries : WalksEntries
  pub adds_part : AddsPart
  pub refuses_part : RefusesPart
  pub adds_recipe : AddsRecipe
  pub refuses_recipe : RefusesRecipe
  pub puts_total : PutsTotal
  pub counts_in : CountsIn
  pub counts_out : CountsOut
  pub posts : Posts
