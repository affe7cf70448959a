-- Whose each word of the two slices is. A step that keeps to the words of its subject leaves all others as they were.
use Rattle.std.specs.Prelude.{◌≡◌, ℕ, ◌-◌, ◌%◌, cond, ◌≢◌, List, length, nat_lt, slice_index}
use Rattle.layout.specs.Layout.{accounts_at, items_at, orders_at, lots_at, parts_at, entries_at, entry_links_at, balances_at, stocks_at, wide_lots_at, wide_entries_at}
use Rattle.layout.specs.declared.limits.Limits.{Limits}

-- what a word can be part of
pub data Owner : Type 0 where
  limits : Owner
  counters : Owner
  totals : Owner
  balances : Owner
  stocks : Owner
  orders : Owner
  order_links : Owner
  lots : Owner
  lot_links : Owner
  recipes : Owner
  parts : Owner
  entries : Owner
  entry_links : Owner

-- the word j of an item's row
abbrev pub item_owner : ℕ → Owner
item_owner j = cond (nat_lt j 2) lot_links (cond (nat_lt j 4) order_links recipes)

-- the word j of an order's row, and of a lot's; the spare word counts as a link
abbrev pub order_owner : ℕ → Owner
order_owner j = cond (nat_lt j 6) orders order_links

abbrev pub lot_owner : ℕ → Owner
lot_owner j = cond (nat_lt j 2) lots lot_links

-- whose the word at i of the narrow slice is
unfoldable pub owner : Limits → ℕ → Owner
owner l i =
    cond (nat_lt i 16) limits
    (cond (nat_lt i accounts_at) counters
    (cond (nat_lt i items_at) entry_links
    (cond (nat_lt i (orders_at l)) (item_owner ((i - items_at) % 6))
    (cond (nat_lt i (lots_at l)) (order_owner ((i - orders_at l) % 8))
    (cond (nat_lt i (parts_at l)) (lot_owner ((i - lots_at l) % 4)) (cond (nat_lt i (entries_at l)) parts (cond (nat_lt i (entry_links_at l)) entries entry_links)))))))

-- whose the word at i of the wide slice is
unfoldable pub wide_owner : Limits → ℕ → Owner
wide_owner l i = cond (nat_lt i balances_at) totals (cond (nat_lt i stocks_at) balances (cond (nat_lt i (wide_lots_at l)) stocks (cond (nat_lt i (wide_entries_at l)) lots entries)))

-- the words of x alone may differ
pub record Only (x : Owner) (l : Limits) (n n' : List ℕ) : Type 0 where
  pub long : length n' ≡ length n
  pub others : (i : ℕ) → owner l i ≢ x → slice_index n' i ≡ slice_index n i

pub record OnlyWide (x : Owner) (l : Limits) (w w' : List ℕ) : Type 0 where
  pub long : length w' ≡ length w
  pub others : (i : ℕ) → wide_owner l i ≢ x → slice_index w' i ≡ slice_index w i
