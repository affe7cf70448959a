-- The laws of getters and putters: what was put is got, at another index and of every other subject all stays; and what books hold once they are opened.
use Rattle.std.specs.Prelude.{◌≡◌, ℕ, ◌+◌, ◌<◌, ◌≤◌, ◌≢◌, List, length, slice_index, slice_set}
use Rattle.std.specs.List.{range_with_len}
use Rattle.layout.specs.Layout.{Good, wide_need, narrow_need, lot_rows, order_rows, entry_rows}
use Rattle.layout.specs.Words.{Owner, limits, counters, totals, balances, stocks, orders, lots, recipes, parts, entries, Only, OnlyWide}
use Rattle.layout.specs.declared.head.Counter.{Counter}
use Rattle.layout.specs.declared.head.Total.{Total}
use Rattle.layout.specs.declared.limits.Limits.{Limits}
use Rattle.links.specs.Rows.{Rows, blank}
use Rattle.records.specs.State.{State, state}
use Rattle.memory.specs.Books.{limits_in, count_of, put_count, total_of, put_total, order_record, put_order, lot_record, put_lot, entry_record, put_entry, part_record, put_part, recipe_of, put_recipe, balance_of, put_balance, stock_of, put_stock}
use Rattle.memory.specs.Opened.{opened}

-- the slices have all words that the limits ask for
pub record Roomy (l : Limits) (s : State) : Type 0 where
  pub wide : wide_need l ≤ length s.wide
  pub narrow : narrow_need l ≤ length s.narrow

-- the words of x alone may differ
pub record Within (x : Owner) (l : Limits) (s s' : State) : Type 0 where
  pub wide : OnlyWide x l s.wide s'.wide
  pub narrow : Only x l s.narrow s'.narrow

-- n slots of the subject x, read by `get` and written by `put`
pub record Slots {X : Type 0} (x : Owner) (l : Limits) (n : ℕ) (get : ℕ → State → X) (put : ℕ → X → State → State) : Type 0 where
  pub same : (k : ℕ) (v : X) (s : State) → Roomy l s → k < n → get k (put k v s) ≡ v
  pub other : (j k : ℕ) (v : X) (s : State) → j ≢ k → get j (put k v s) ≡ get j s
  pub within : (k : ℕ) (v : X) (s : State) → k < n → Within x l s (put k v s)
  pub kept : (k : ℕ) (y : Owner) (s s' : State) → k < n → x ≢ y → Within y l s s' → get k s' ≡ get k s

-- the words of the head, each with a getter and a putter
pub record Head : Type 0 where
  pub count_same : (c : Counter) (v : ℕ) (n : List ℕ) → 64 ≤ length n → count_of c (put_count c v n) ≡ v
  pub count_other : (c d : Counter) (v : ℕ) (n : List ℕ) → c ≢ d → count_of c (put_count d v n) ≡ count_of c n
  pub count_within : (c : Counter) (v : ℕ) (l : Limits) (n : List ℕ) → Only counters l n (put_count c v n)
  pub count_kept : (c : Counter) (y : Owner) (l : Limits) (n n' : List ℕ) → counters ≢ y → Only y l n n' → count_of c n' ≡ count_of c n
  pub total_same : (t : Total) (v : ℕ) (w : List ℕ) → 64 ≤ length w → total_of t (put_total t v w) ≡ v
  pub total_other : (t u : Total) (v : ℕ) (w : List ℕ) → t ≢ u → total_of t (put_total u v w) ≡ total_of t w
  pub total_within : (t : Total) (v : ℕ) (l : Limits) (w : List ℕ) → OnlyWide totals l w (put_total t v w)
  pub total_kept : (t : Total) (y : Owner) (l : Limits) (w w' : List ℕ) → totals ≢ y → OnlyWide y l w w' → total_of t w' ≡ total_of t w
  pub limits_kept : (y : Owner) (l : Limits) (n n' : List ℕ) → limits ≢ y → Only y l n n' → limits_in n' ≡ limits_in n

-- empty books: their limits, nothing counted or summed, no item has a recipe, every lot is free, and no item or account has anything in its row
pub record Empty (l : Limits) (s : State) : Type 0 where
  pub roomy : Roomy l s
  pub limits : limits_in s.narrow ≡ l
  pub counts : (c : Counter) → count_of c s.narrow ≡ 0
  pub totals : (t : Total) → total_of t s.wide ≡ 0
  pub recipes : (i : ℕ) → i < l.items → recipe_of i s.narrow ≡ record { first = 0; parts = 0 }
  pub balances : (a : ℕ) → a < 16 → balance_of a s.wide ≡ record { left = 0; right = 0 }
  pub stocks : (i : ℕ) → i < l.items → stock_of i s.wide ≡ record { pieces = 0; worth = 0 }
  pub lots : Rows (lot_rows l) s.narrow (slice_set (blank (l.items + 1)) l.items (range_with_len 0 l.lots))
  pub orders : Rows (order_rows l) s.narrow (blank l.items)
  pub entries : Rows (entry_rows l) s.narrow (blank 16)

-- opened books are empty, and no word beyond those that the limits ask for has changed
pub record Opens (l : Limits) (s : State) : Type 0 where
  pub empty : Empty l (opened l s)
  pub wide_long : length (opened l s).wide ≡ length s.wide
  pub narrow_long : length (opened l s).narrow ≡ length s.narrow
  pub wide_beyond : (i : ℕ) → wide_need l ≤ i → slice_index (opened l s).wide i ≡ slice_index s.wide i
  pub narrow_beyond : (i : ℕ) → narrow_need l ≤ i → slice_index (opened l s).narrow i ≡ slice_index s.narrow i

pub record MemoryLaws : Type 0 where
  pub orders : (l : Limits) → Slots orders l l.orders (λ k s. order_record l k s.narrow) (λ k x s. state s.wide (put_order l k x s.narrow))
  pub lots : (l : Limits) → Slots lots l l.lots (lot_record l) (put_lot l)
  pub entries : (l : Limits) → Slots entries l l.entries (entry_record l) (put_entry l)
  pub parts : (l : Limits) → Slots parts l l.parts (λ k s. part_record l k s.narrow) (λ k x s. state s.wide (put_part l k x s.narrow))
  pub recipes : (l : Limits) → Slots recipes l l.items (λ i s. recipe_of i s.narrow) (λ i x s. state s.wide (put_recipe i x s.narrow))
  pub balances : (l : Limits) → Slots balances l 16 (λ a s. balance_of a s.wide) (λ a x s. state (put_balance a x s.wide) s.narrow)
  pub stocks : (l : Limits) → Slots stocks l l.items (λ i s. stock_of i s.wide) (λ i x s. state (put_stock i x s.wide) s.narrow)
  pub head : Head
  pub opens : (l : Limits) (s : State) → Good l → Roomy l s → Opens l s
