-- What the two slices stand for, in plain lists. Each subject's part speaks of that subject's words alone.
use Rattle.std.specs.Prelude.{◌≡◌, ℕ, ◌+◌, ◌*◌, ◌<◌, ◌≤◌, Bool, cond, List, [], ◌∷◌, ◌++◌, map, length, ◌==◌, slice_index_or}
use Rattle.layout.specs.Layout.{lot_rows, order_rows, entry_rows}
use Rattle.layout.specs.declared.head.Counter.TheVariants.{Orders, Entries, Parts, Lots}
use Rattle.layout.specs.declared.head.Total.{Total}
use Rattle.layout.specs.declared.limits.Limits.{Limits}
use Rattle.links.specs.Model.{row, uses, total}
use Rattle.links.specs.Rows.{Rows}
use Rattle.links.specs.declared.shape.Shape.{Shape}
use Rattle.memory.specs.Books.{limits_in, count_of, total_of, order_record, lot_record, entry_record, part_record, recipe_of, balance_of, stock_of}
use Rattle.memory.specs.Slots.{Roomy}
use Rattle.records.specs.Kinds.{order_kind, entry_kind, part_kind}
use Rattle.records.specs.State.{State}
use Rattle.records.specs.declared.balance.Balance.{Balance}
use Rattle.records.specs.declared.entry.Entry.{Entry}
use Rattle.records.specs.declared.lot.Lot.{Lot}
use Rattle.records.specs.declared.order.Order.{Order}
use Rattle.records.specs.declared.part.Part.{Part}
use Rattle.records.specs.declared.recipe.Recipe.{Recipe}
use Rattle.records.specs.declared.stock.Stock.{Stock}

-- what is kept: the lots of each item from the oldest on and how many there are in all, all orders, entries and parts by number, where each
-- item's recipe lies, the totals, and the sums of each item and each account
pub record Kept : Type 0 where
  pub lots_of : ℕ → List Lot
  pub lots_used : ℕ
  pub all_orders : List Order
  pub all_entries : List Entry
  pub all_parts : List Part
  pub recipes : ℕ → Recipe
  pub totals : Total → ℕ
  pub stocks : ℕ → Stock
  pub balances : ℕ → Balance

-- place by place, what is got is what stands in the list
abbrev pub Table : {X : Type 0} → (ℕ → X) → X → List X → Type 0
Table get d xs = (k : ℕ) → k < length xs → get k ≡ slice_index_or xs k d

-- rows that hold the cells 0 to k - 1, and no other
pub record Numbered (h : Shape) (n : List ℕ) (m : List (List ℕ)) (k : ℕ) : Type 0 where
  pub held : Rows h n m
  pub all : total m ≡ k
  pub fresh : (c : ℕ) → k ≤ c → uses c m ≡ 0

-- what f makes of each element and its number, from k on, one behind the other
abbrev pub pieces : {X Y : Type 0} → (ℕ → X → List Y) → ℕ → List X → List Y
pieces f k [] = []
pieces f k (x ∷ xs) = f k x ++ pieces f (k + 1) xs

-- c, if it is so
abbrev pub only_if : {X : Type 0} → Bool → X → List X
only_if t c = cond t (c ∷ []) []

-- the numbers of the orders of item i, from k on
abbrev pub numbers : ℕ → ℕ → List Order → List ℕ
numbers i = pieces (λ k o. only_if (o.item == i) k)

-- the cells of the entries of account a, from the entry k on
abbrev pub cells : ℕ → ℕ → List Entry → List ℕ
cells a = pieces (λ k e. only_if (e.left == a) (2 * k) ++ only_if (e.right == a) (2 * k + 1))

-- the entries of account a, one that has it on both sides twice
abbrev pub entries_of : ℕ → List Entry → List Entry
entries_of a es = pieces (λ k e. only_if (e.left == a) e ++ only_if (e.right == a) e) 0 es

-- the limits in the head, enough words, and the totals
pub record Frame (l : Limits) (s : State) (ts : Total → ℕ) : Type 0 where
  pub limits : limits_in s.narrow ≡ l
  pub roomy : Roomy l s
  pub totals : (t : Total) → total_of t s.wide ≡ ts t

-- each item's row has the cells of its lots, the oldest first, and the last row those that are free
pub record LotsStand (l : Limits) (s : State) (of : ℕ → List Lot) (many : ℕ) : Type 0 where
  pub places : List (List ℕ)
  pub held : Rows (lot_rows l) s.narrow places
  pub each : (i : ℕ) → i < l.items → map (λ c. lot_record l c s) (row places i) ≡ of i
  pub used : count_of Lots s.narrow ≡ many
  pub free : many + length (row places l.items) ≡ l.lots

-- the orders by number, and each item's row with the numbers of its orders
pub record OrdersStand (l : Limits) (s : State) (os : List Order) : Type 0 where
  pub count : count_of Orders s.narrow ≡ length os
  pub few : length os ≤ l.orders
  pub each : Table (λ k. order_record l k s.narrow) order_kind.nothing os
  pub places : List (List ℕ)
  pub linked : Numbered (order_rows l) s.narrow places (length os)
  pub of_item : (i : ℕ) → i < l.items → row places i ≡ numbers i 0 os

-- the entries by number, and each account's row with the cells of its entries
pub record EntriesStand (l : Limits) (s : State) (es : List Entry) : Type 0 where
  pub count : count_of Entries s.narrow ≡ length es
  pub few : length es ≤ l.entries
  pub each : Table (λ k. entry_record l k s) entry_kind.nothing es
  pub places : List (List ℕ)
  pub linked : Numbered (entry_rows l) s.narrow places (2 * length es)
  pub of_account : (a : ℕ) → a < 16 → row places a ≡ cells a 0 es

-- the parts of recipes by row, and where each item's last recipe lies
pub record RecipesStand (l : Limits) (s : State) (ps : List Part) (of : ℕ → Recipe) : Type 0 where
  pub count : count_of Parts s.narrow ≡ length ps
  pub few : length ps ≤ l.parts
  pub each : Table (λ k. part_record l k s.narrow) part_kind.nothing ps
  pub first : (i : ℕ) → i < l.items → recipe_of i s.narrow ≡ of i

-- the kept sums of items and accounts
pub record SumsStand (l : Limits) (s : State) (of_item : ℕ → Stock) (of_account : ℕ → Balance) : Type 0 where
  pub stocks : (i : ℕ) → i < l.items → stock_of i s.wide ≡ of_item i
  pub balances : (a : ℕ) → a < 16 → balance_of a s.wide ≡ of_account a

-- MEMORY STANDS FOR WHAT IS KEPT, area by area
pub record Stands (l : Limits) (s : State) (b : Kept) : Type 0 where
  pub frame : Frame l s b.totals
  pub lots : LotsStand l s b.lots_of b.lots_used
  pub orders : OrdersStand l s b.all_orders
  pub entries : EntriesStand l s b.all_entries
  pub recipes : RecipesStand l s b.all_parts b.recipes
  pub sums : SumsStand l s b.stocks b.balances
