-- Whose the words of each area are.
use Rattle.std.proofs.Common.{◌≡◌, ℕ, ◌+◌, ◌-◌, ◌*◌, ◌%◌, ◌<◌, ◌≤◌, ◌≢◌, ap, arith}
use Rattle.std.proofs.lemmas.Bool.Decides.{nat_tests}
use Rattle.layout.specs.Layout.{items_at, recipe_at, orders_at, order_at, lots_at, lot_at, parts_at, entries_at, entry_links_at, stocks_at, wide_lots_at, wide_entries_at}
use Rattle.layout.specs.Words.{Owner, limits, counters, totals, balances, stocks, orders, order_links, lots, lot_links, recipes, parts, entries, entry_links, item_owner, order_owner, lot_owner, owner, wide_owner}
use Rattle.layout.specs.declared.limits.Limits.{Limits}

-- owners with different numbers are different
abbrev pub number : Owner → ℕ
number limits = 0
number counters = 1
number totals = 2
number stocks = 3
number orders = 4
number order_links = 5
number lots = 6
number lot_links = 7
number recipes = 8
number parts = 9
number entries = 10
number entry_links = 11
number balances = 12

pub differ : (x y : Owner) → number x ≢ number y → x ≢ y
differ x y ne e = ne (ap number e)

module _ (l : Limits) (i : ℕ) where
  pub owns_limit : i < 16 → owner l i ≡ limits
  unfolding owner
  owns_limit lt = grind (arith, nat_tests)

  pub owns_counter : 16 ≤ i → i < 32 → owner l i ≡ counters
  unfolding owner
  owns_counter ge lt = grind (arith, nat_tests)

  pub owns_account : 32 ≤ i → i < 64 → owner l i ≡ entry_links
  unfolding owner
  owns_account ge lt = grind (arith, nat_tests)

  owns_item : 64 ≤ i → i < orders_at l → owner l i ≡ item_owner ((i - items_at) % 6)
  unfolding owner
  owns_item ge lt = grind (arith, nat_tests)

  owns_order_row : orders_at l ≤ i → i < lots_at l → owner l i ≡ order_owner ((i - orders_at l) % 8)
  unfolding owner
  owns_order_row ge lt = grind (arith, nat_tests)

  owns_lot_row : lots_at l ≤ i → i < parts_at l → owner l i ≡ lot_owner ((i - lots_at l) % 4)
  unfolding owner
  owns_lot_row ge lt = grind (arith, nat_tests)

  pub owns_part : parts_at l ≤ i → i < entries_at l → owner l i ≡ parts
  unfolding owner
  owns_part ge lt = grind (arith, nat_tests)

  pub owns_entry : entries_at l ≤ i → i < entry_links_at l → owner l i ≡ entries
  unfolding owner
  owns_entry ge lt = grind (arith, nat_tests)

  pub owns_entry_link : entry_links_at l ≤ i → owner l i ≡ entry_links
  unfolding owner
  owns_entry_link ge = grind (arith, nat_tests)

  pub owns_total : i < 16 → wide_owner l i ≡ totals
  unfolding wide_owner
  owns_total lt = grind (arith, nat_tests)

  pub owns_balance : 16 ≤ i → i < 64 → wide_owner l i ≡ balances
  unfolding wide_owner
  owns_balance ge lt = grind (arith, nat_tests)

  pub owns_stock : stocks_at ≤ i → i < wide_lots_at l → wide_owner l i ≡ stocks
  unfolding wide_owner
  owns_stock ge lt = grind (arith, nat_tests)

  pub owns_wide_lot : wide_lots_at l ≤ i → i < wide_entries_at l → wide_owner l i ≡ lots
  unfolding wide_owner
  owns_wide_lot ge lt = grind (arith, nat_tests)

  pub owns_wide_entry : wide_entries_at l ≤ i → wide_owner l i ≡ entries
  unfolding wide_owner
  owns_wide_entry ge = grind (arith, nat_tests)

-- THE WORDS OF A ROW
module _ (l : Limits) (k i : ℕ) where
  pub owns_lot_head : k ≤ l.items → items_at + 6 * k ≤ i → i < items_at + 6 * k + 2 → owner l i ≡ lot_links
  owns_lot_head few ge lt = grind (arith, nat_tests, owns_item l i (omega arith) (omega arith))

  pub owns_order_head : k ≤ l.items → items_at + 6 * k + 2 ≤ i → i < items_at + 6 * k + 4 → owner l i ≡ order_links
  owns_order_head few ge lt = grind (arith, nat_tests, owns_item l i (omega arith) (omega arith))

  pub owns_recipe : k ≤ l.items → recipe_at k ≤ i → i < recipe_at k + 2 → owner l i ≡ recipes
  owns_recipe few ge lt = grind (arith, nat_tests, owns_item l i (omega arith) (omega arith))

  pub owns_order : k < l.orders → order_at l k ≤ i → i < order_at l k + 6 → owner l i ≡ orders
  owns_order few ge lt = grind (arith, nat_tests, owns_order_row l i (omega arith) (omega arith))

  pub owns_order_link : k < l.orders → order_at l k + 6 ≤ i → i < order_at l k + 8 → owner l i ≡ order_links
  owns_order_link few ge lt = grind (arith, nat_tests, owns_order_row l i (omega arith) (omega arith))

  pub owns_lot : k < l.lots → lot_at l k ≤ i → i < lot_at l k + 2 → owner l i ≡ lots
  owns_lot few ge lt = grind (arith, nat_tests, owns_lot_row l i (omega arith) (omega arith))

  pub owns_lot_link : k < l.lots → lot_at l k + 2 ≤ i → i < lot_at l k + 4 → owner l i ≡ lot_links
  owns_lot_link few ge lt = grind (arith, nat_tests, owns_lot_row l i (omega arith) (omega arith))
