-- What the two slices hold, by getters and putters; each putter is what the code's function leaves, whatever was there.
use Rattle.std.specs.Prelude.{ℕ, cond, List, nat_lt, slice_index, slice_set}
use Rattle.layout.specs.Layout.{count_at, total_at, balance_at, stock_at, recipe_at, order_at, lot_at, part_at, entry_at, wide_lot_at, wide_entry_at}
use Rattle.layout.specs.declared.head.Counter.{Counter}
use Rattle.layout.specs.declared.head.Total.{Total}
use Rattle.layout.specs.declared.limits.Limits.{Limits}
use Rattle.records.specs.Kind.{read, write, read_wide, write_wide, read_narrow, write_narrow}
use Rattle.records.specs.Kinds.{lot_kind, order_kind, entry_kind, part_kind, recipe_kind, stock_kind, balance_kind}
use Rattle.records.specs.State.{State}
use Rattle.records.specs.declared.balance.Balance.{Balance}
use Rattle.records.specs.declared.entry.Entry.{Entry}
use Rattle.records.specs.declared.lot.Lot.{Lot}
use Rattle.records.specs.declared.order.Order.{Order}
use Rattle.records.specs.declared.part.Part.{Part}
use Rattle.records.specs.declared.recipe.Recipe.{Recipe}
use Rattle.records.specs.declared.stock.Stock.{Stock}

-- THE HEAD
abbrev pub limits_in : List ℕ → Limits
limits_in n = record { items = slice_index n 0; orders = slice_index n 1; lots = slice_index n 2; parts = slice_index n 3; entries = slice_index n 4 }

unfoldable pub count_of : Counter → List ℕ → ℕ
count_of c n = slice_index n (count_at c)

unfoldable pub put_count : Counter → ℕ → List ℕ → List ℕ
put_count c x n = slice_set n (count_at c) x

unfoldable pub total_of : Total → List ℕ → ℕ
total_of t w = slice_index w (total_at t)

unfoldable pub put_total : Total → ℕ → List ℕ → List ℕ
put_total t x w = slice_set w (total_at t) x

-- RECORDS: the k-th of each kind, and what putting one there leaves
unfoldable pub order_record : Limits → ℕ → List ℕ → Order
order_record l k n = read_narrow order_kind (order_at l k) n

unfoldable pub put_order : Limits → ℕ → Order → List ℕ → List ℕ
put_order l k x n = write_narrow order_kind (order_at l k) x n

unfoldable pub lot_record : Limits → ℕ → State → Lot
lot_record l k s = read lot_kind (wide_lot_at l k) (lot_at l k) s

unfoldable pub put_lot : Limits → ℕ → Lot → State → State
put_lot l k x s = write lot_kind (wide_lot_at l k) (lot_at l k) x s

unfoldable pub entry_record : Limits → ℕ → State → Entry
entry_record l k s = read entry_kind (wide_entry_at l k) (entry_at l k) s

unfoldable pub put_entry : Limits → ℕ → Entry → State → State
put_entry l k x s = write entry_kind (wide_entry_at l k) (entry_at l k) x s

unfoldable pub part_record : Limits → ℕ → List ℕ → Part
part_record l k n = read_narrow part_kind (part_at l k) n

unfoldable pub put_part : Limits → ℕ → Part → List ℕ → List ℕ
put_part l k x n = write_narrow part_kind (part_at l k) x n

unfoldable pub recipe_of : ℕ → List ℕ → Recipe
recipe_of i n = read_narrow recipe_kind (recipe_at i) n

unfoldable pub put_recipe : ℕ → Recipe → List ℕ → List ℕ
put_recipe i x n = write_narrow recipe_kind (recipe_at i) x n

-- KEPT SUMS: of an account, which is one of 16, and of an item
unfoldable pub balance_of : ℕ → List ℕ → Balance
balance_of a w = cond (nat_lt a 16) (read_wide balance_kind (balance_at a) w) balance_kind.nothing

unfoldable pub put_balance : ℕ → Balance → List ℕ → List ℕ
put_balance a x w = cond (nat_lt a 16) (write_wide balance_kind (balance_at a) x w) w

unfoldable pub stock_of : ℕ → List ℕ → Stock
stock_of i w = read_wide stock_kind (stock_at i) w

unfoldable pub put_stock : ℕ → Stock → List ℕ → List ℕ
put_stock i x w = write_wide stock_kind (stock_at i) x w
