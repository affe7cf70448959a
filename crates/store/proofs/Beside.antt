-- All but one subject: what stands beside it, and stays while that subject's words or its counter change.
use Rattle.std.proofs.Common.{◌≡◌, ℕ, ◌≢◌, ap, arith}
use Rattle.layout.proofs.Owners.{number, differ}
use Rattle.layout.proofs.Placed.{only_wide_none}
use Rattle.layout.specs.Layout.{Good}
use Rattle.layout.specs.Words.{Owner, limits, totals, balances, stocks, counters, orders, order_links, lots, lot_links, recipes, parts, entries, entry_links}
use Rattle.layout.specs.declared.head.Counter.{Counter}
use Rattle.layout.specs.declared.head.Counter.TheVariants.{Orders, Entries, Parts, Lots}
use Rattle.layout.specs.declared.limits.Limits.{Limits}
use Rattle.memory.proofs.Head.{count_kept, count_other, count_within}
use Rattle.memory.specs.Books.{count_of, put_count}
use Rattle.memory.specs.Slots.{Within}
use Rattle.records.specs.State.{State, state}
use Rattle.store.specs.View.{Kept, Frame, LotsStand, OrdersStand, EntriesStand, RecipesStand, SumsStand}
use Rattle.store.proofs.Kept.{frame_kept, lots_kept, orders_kept, entries_kept, recipes_kept, sums_kept}

-- no counter but c has changed
abbrev CountsKept : Counter → State → State → Type 0
CountsKept c s s' = (d : Counter) → d ≢ c → count_of d s'.narrow ≡ count_of d s.narrow

-- y is one of the owners p and q, or the counters
abbrev Among : ℕ → ℕ → Owner → Type 0
Among p q y = (z : Owner) → number z ≢ p → number z ≢ q → number z ≢ 1 → z ≢ y

-- a write of the counter c
pub counted : (c : Counter) (v : ℕ) (l : Limits) (s : State) → Within counters l s (state s.wide (put_count c v s.narrow))
counted c v l s = record { wide = only_wide_none counters l s.wide; narrow = count_within c v l s.narrow }

-- counters have numbers, by which they differ
abbrev counter : Counter → ℕ
counter Orders = 0
counter Entries = 1
counter Parts = 2
counter Lots = 3

pub unlike : (c d : Counter) → counter c ≢ counter d → c ≢ d
unlike c d ne e = ne (ap counter e)

-- ALL BUT THE LOTS
pub record BesideLots (l : Limits) (s : State) (b : Kept) : Type 0 where
  pub frame : Frame l s b.totals
  pub orders : OrdersStand l s b.all_orders
  pub entries : EntriesStand l s b.all_entries
  pub recipes : RecipesStand l s b.all_parts b.recipes
  pub sums : SumsStand l s b.stocks b.balances

beside_lots : (l : Limits) (s s' : State) (b : Kept) (y : Owner) → Good l → Among 6 7 y → CountsKept Lots s s' → Within y l s s' → BesideLots l s b → BesideLots l s' b
beside_lots l s s' b y good far counts with_in h = record {
  frame = frame_kept l s s' good y with_in b.totals (far limits (λ e. omega arith) (λ e. omega arith) (λ e. omega arith)) (far totals (λ e. omega arith) (λ e. omega arith) (λ e. omega arith)) h.frame;
  orders = orders_kept l s s' good y with_in b.all_orders (far orders (λ e. omega arith) (λ e. omega arith) (λ e. omega arith)) (far order_links (λ e. omega arith) (λ e. omega arith) (λ e. omega arith)) (counts Orders (unlike Orders Lots (λ e. omega arith))) h.orders;
  entries = entries_kept l s s' good y with_in b.all_entries (far entries (λ e. omega arith) (λ e. omega arith) (λ e. omega arith)) (far entry_links (λ e. omega arith) (λ e. omega arith) (λ e. omega arith)) (counts Entries (unlike Entries Lots (λ e. omega arith))) h.entries;
  recipes = recipes_kept l s s' good y with_in b.all_parts b.recipes (far parts (λ e. omega arith) (λ e. omega arith) (λ e. omega arith)) (far recipes (λ e. omega arith) (λ e. omega arith) (λ e. omega arith)) (counts Parts (unlike Parts Lots (λ e. omega arith))) h.recipes;
  sums = sums_kept l s s' good y with_in b.stocks b.balances (far stocks (λ e. omega arith) (λ e. omega arith) (λ e. omega arith)) (far balances (λ e. omega arith) (λ e. omega arith) (λ e. omega arith)) h.sums;
}

pub beside_lots_at_lots : (l : Limits) (s s' : State) (b : Kept) → Good l → Within lots l s s' → BesideLots l s b → BesideLots l s' b
beside_lots_at_lots l s s' b good with_in = beside_lots l s s' b lots good (λ z p q r. differ z lots p) (λ d ne. count_kept d lots l s.narrow s'.narrow (differ _ _ (λ e. omega arith)) with_in.narrow) with_in

pub beside_lots_at_lot_links : (l : Limits) (s s' : State) (b : Kept) → Good l → Within lot_links l s s' → BesideLots l s b → BesideLots l s' b
beside_lots_at_lot_links l s s' b good with_in = beside_lots l s s' b lot_links good (λ z p q r. differ z lot_links q) (λ d ne. count_kept d lot_links l s.narrow s'.narrow (differ _ _ (λ e. omega arith)) with_in.narrow) with_in

pub beside_lots_count : (l : Limits) (s : State) (b : Kept) (v : ℕ) → Good l → BesideLots l s b → BesideLots l (state s.wide (put_count Lots v s.narrow)) b
beside_lots_count l s b v good = beside_lots l s _ b counters good (λ z p q r. differ z counters r) (λ d ne. count_other d Lots v s.narrow ne) (counted Lots v l s)

-- ALL BUT THE ORDERS
pub record BesideOrders (l : Limits) (s : State) (b : Kept) : Type 0 where
  pub frame : Frame l s b.totals
  pub lots : LotsStand l s b.lots_of b.lots_used
  pub entries : EntriesStand l s b.all_entries
  pub recipes : RecipesStand l s b.all_parts b.recipes
  pub sums : SumsStand l s b.stocks b.balances

beside_orders : (l : Limits) (s s' : State) (b : Kept) (y : Owner) → Good l → Among 4 5 y → CountsKept Orders s s' → Within y l s s' → BesideOrders l s b → BesideOrders l s' b
beside_orders l s s' b y good far counts with_in h = record {
  frame = frame_kept l s s' good y with_in b.totals (far limits (λ e. omega arith) (λ e. omega arith) (λ e. omega arith)) (far totals (λ e. omega arith) (λ e. omega arith) (λ e. omega arith)) h.frame;
  lots = lots_kept l s s' good y with_in b.lots_of b.lots_used (far lots (λ e. omega arith) (λ e. omega arith) (λ e. omega arith)) (far lot_links (λ e. omega arith) (λ e. omega arith) (λ e. omega arith)) (counts Lots (unlike Lots Orders (λ e. omega arith))) h.lots;
  entries = entries_kept l s s' good y with_in b.all_entries (far entries (λ e. omega arith) (λ e. omega arith) (λ e. omega arith)) (far entry_links (λ e. omega arith) (λ e. omega arith) (λ e. omega arith)) (counts Entries (unlike Entries Orders (λ e. omega arith))) h.entries;
  recipes = recipes_kept l s s' good y with_in b.all_parts b.recipes (far parts (λ e. omega arith) (λ e. omega arith) (λ e. omega arith)) (far recipes (λ e. omega arith) (λ e. omega arith) (λ e. omega arith)) (counts Parts (unlike Parts Orders (λ e. omega arith))) h.recipes;
  sums = sums_kept l s s' good y with_in b.stocks b.balances (far stocks (λ e. omega arith) (λ e. omega arith) (λ e. omega arith)) (far balances (λ e. omega arith) (λ e. omega arith) (λ e. omega arith)) h.sums;
}

pub beside_orders_at_orders : (l : Limits) (s s' : State) (b : Kept) → Good l → Within orders l s s' → BesideOrders l s b → BesideOrders l s' b
beside_orders_at_orders l s s' b good with_in = beside_orders l s s' b orders good (λ z p q r. differ z orders p) (λ d ne. count_kept d orders l s.narrow s'.narrow (differ _ _ (λ e. omega arith)) with_in.narrow) with_in

pub beside_orders_at_order_links : (l : Limits) (s s' : State) (b : Kept) → Good l → Within order_links l s s' → BesideOrders l s b → BesideOrders l s' b
beside_orders_at_order_links l s s' b good with_in = beside_orders l s s' b order_links good (λ z p q r. differ z order_links q) (λ d ne. count_kept d order_links l s.narrow s'.narrow (differ _ _ (λ e. omega arith)) with_in.narrow) with_in

pub beside_orders_count : (l : Limits) (s : State) (b : Kept) (v : ℕ) → Good l → BesideOrders l s b → BesideOrders l (state s.wide (put_count Orders v s.narrow)) b
beside_orders_count l s b v good = beside_orders l s _ b counters good (λ z p q r. differ z counters r) (λ d ne. count_other d Orders v s.narrow ne) (counted Orders v l s)

-- ALL BUT THE ENTRIES
pub record BesideEntries (l : Limits) (s : State) (b : Kept) : Type 0 where
  pub frame : Frame l s b.totals
  pub lots : LotsStand l s b.lots_of b.lots_used
  pub orders : OrdersStand l s b.all_orders
  pub recipes : RecipesStand l s b.all_parts b.recipes
  pub sums : SumsStand l s b.stocks b.balances

beside_entries : (l : Limits) (s s' : State) (b : Kept) (y : Owner) → Good l → Among 10 11 y → CountsKept Entries s s' → Within y l s s' → BesideEntries l s b → BesideEntries l s' b
beside_entries l s s' b y good far counts with_in h = record {
  frame = frame_kept l s s' good y with_in b.totals (far limits (λ e. omega arith) (λ e. omega arith) (λ e. omega arith)) (far totals (λ e. omega arith) (λ e. omega arith) (λ e. omega arith)) h.frame;
  lots = lots_kept l s s' good y with_in b.lots_of b.lots_used (far lots (λ e. omega arith) (λ e. omega arith) (λ e. omega arith)) (far lot_links (λ e. omega arith) (λ e. omega arith) (λ e. omega arith)) (counts Lots (unlike Lots Entries (λ e. omega arith))) h.lots;
  orders = orders_kept l s s' good y with_in b.all_orders (far orders (λ e. omega arith) (λ e. omega arith) (λ e. omega arith)) (far order_links (λ e. omega arith) (λ e. omega arith) (λ e. omega arith)) (counts Orders (unlike Orders Entries (λ e. omega arith))) h.orders;
  recipes = recipes_kept l s s' good y with_in b.all_parts b.recipes (far parts (λ e. omega arith) (λ e. omega arith) (λ e. omega arith)) (far recipes (λ e. omega arith) (λ e. omega arith) (λ e. omega arith)) (counts Parts (unlike Parts Entries (λ e. omega arith))) h.recipes;
  sums = sums_kept l s s' good y with_in b.stocks b.balances (far stocks (λ e. omega arith) (λ e. omega arith) (λ e. omega arith)) (far balances (λ e. omega arith) (λ e. omega arith) (λ e. omega arith)) h.sums;
}

pub beside_entries_at_entries : (l : Limits) (s s' : State) (b : Kept) → Good l → Within entries l s s' → BesideEntries l s b → BesideEntries l s' b
beside_entries_at_entries l s s' b good with_in = beside_entries l s s' b entries good (λ z p q r. differ z entries p) (λ d ne. count_kept d entries l s.narrow s'.narrow (differ _ _ (λ e. omega arith)) with_in.narrow) with_in

pub beside_entries_at_entry_links : (l : Limits) (s s' : State) (b : Kept) → Good l → Within entry_links l s s' → BesideEntries l s b → BesideEntries l s' b
beside_entries_at_entry_links l s s' b good with_in = beside_entries l s s' b entry_links good (λ z p q r. differ z entry_links q) (λ d ne. count_kept d entry_links l s.narrow s'.narrow (differ _ _ (λ e. omega arith)) with_in.narrow) with_in

pub beside_entries_count : (l : Limits) (s : State) (b : Kept) (v : ℕ) → Good l → BesideEntries l s b → BesideEntries l (state s.wide (put_count Entries v s.narrow)) b
beside_entries_count l s b v good = beside_entries l s _ b counters good (λ z p q r. differ z counters r) (λ d ne. count_other d Entries v s.narrow ne) (counted Entries v l s)

-- ALL BUT THE RECIPES
pub record BesideRecipes (l : Limits) (s : State) (b : Kept) : Type 0 where
  pub frame : Frame l s b.totals
  pub lots : LotsStand l s b.lots_of b.lots_used
  pub orders : OrdersStand l s b.all_orders
  pub entries : EntriesStand l s b.all_entries
  pub sums : SumsStand l s b.stocks b.balances

beside_recipes : (l : Limits) (s s' : State) (b : Kept) (y : Owner) → Good l → Among 8 9 y → CountsKept Parts s s' → Within y l s s' → BesideRecipes l s b → BesideRecipes l s' b
beside_recipes l s s' b y good far counts with_in h = record {
  frame = frame_kept l s s' good y with_in b.totals (far limits (λ e. omega arith) (λ e. omega arith) (λ e. omega arith)) (far totals (λ e. omega arith) (λ e. omega arith) (λ e. omega arith)) h.frame;
  lots = lots_kept l s s' good y with_in b.lots_of b.lots_used (far lots (λ e. omega arith) (λ e. omega arith) (λ e. omega arith)) (far lot_links (λ e. omega arith) (λ e. omega arith) (λ e. omega arith)) (counts Lots (unlike Lots Parts (λ e. omega arith))) h.lots;
  orders = orders_kept l s s' good y with_in b.all_orders (far orders (λ e. omega arith) (λ e. omega arith) (λ e. omega arith)) (far order_links (λ e. omega arith) (λ e. omega arith) (λ e. omega arith)) (counts Orders (unlike Orders Parts (λ e. omega arith))) h.orders;
  entries = entries_kept l s s' good y with_in b.all_entries (far entries (λ e. omega arith) (λ e. omega arith) (λ e. omega arith)) (far entry_links (λ e. omega arith) (λ e. omega arith) (λ e. omega arith)) (counts Entries (unlike Entries Parts (λ e. omega arith))) h.entries;
  sums = sums_kept l s s' good y with_in b.stocks b.balances (far stocks (λ e. omega arith) (λ e. omega arith) (λ e. omega arith)) (far balances (λ e. omega arith) (λ e. omega arith) (λ e. omega arith)) h.sums;
}

pub beside_recipes_at_parts : (l : Limits) (s s' : State) (b : Kept) → Good l → Within parts l s s' → BesideRecipes l s b → BesideRecipes l s' b
beside_recipes_at_parts l s s' b good with_in = beside_recipes l s s' b parts good (λ z p q r. differ z parts q) (λ d ne. count_kept d parts l s.narrow s'.narrow (differ _ _ (λ e. omega arith)) with_in.narrow) with_in

pub beside_recipes_at_recipes : (l : Limits) (s s' : State) (b : Kept) → Good l → Within recipes l s s' → BesideRecipes l s b → BesideRecipes l s' b
beside_recipes_at_recipes l s s' b good with_in = beside_recipes l s s' b recipes good (λ z p q r. differ z recipes p) (λ d ne. count_kept d recipes l s.narrow s'.narrow (differ _ _ (λ e. omega arith)) with_in.narrow) with_in

pub beside_recipes_count : (l : Limits) (s : State) (b : Kept) (v : ℕ) → Good l → BesideRecipes l s b → BesideRecipes l (state s.wide (put_count Parts v s.narrow)) b
beside_recipes_count l s b v good = beside_recipes l s _ b counters good (λ z p q r. differ z counters r) (λ d ne. count_other d Parts v s.narrow ne) (counted Parts v l s)
