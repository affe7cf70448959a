-- Where everything lies in the two lent slices, by the limits alone.
use Rattle.std.specs.Prelude.{ℕ, ◌+◌, ◌-◌, ◌*◌, ◌^◌, ◌≤◌, min, Bool, ◌&&◌, nat_le}
use Rattle.links.specs.declared.shape.Shape.{Shape}
use Rattle.layout.specs.declared.head.Counter.{Counter}
use Rattle.layout.specs.declared.head.Counter.TheVariants.{Orders, Entries, Parts, Lots}
use Rattle.layout.specs.declared.head.Total.{Total}
use Rattle.layout.specs.declared.head.Total.TheVariants.{Documents, Booked, Worth}
use Rattle.layout.specs.declared.limits.Limits.{Limits}

-- LIMITS that books may have
abbrev pub most_items : ℕ
most_items = 4096

abbrev pub most_orders : ℕ
most_orders = 65536

abbrev pub most_lots : ℕ
most_lots = 65536

abbrev pub most_parts : ℕ
most_parts = 65536

abbrev pub most_entries : ℕ
most_entries = 1000000

abbrev pub is_good : Limits → Bool
is_good l = nat_le l.items most_items && (nat_le l.orders most_orders && (nat_le l.lots most_lots && (nat_le l.parts most_parts && nat_le l.entries most_entries)))

pub record Good (l : Limits) : Type 0 where
  pub items : l.items ≤ most_items
  pub orders : l.orders ≤ most_orders
  pub lots : l.lots ≤ most_lots
  pub parts : l.parts ≤ most_parts
  pub entries : l.entries ≤ most_entries

-- THE NARROW SLICE. Its head: limits from word 0 on, counters from 16 on, two words for each of 16 accounts from 32 on.
abbrev pub count_at : Counter → ℕ
count_at Orders = 16
count_at Entries = 17
count_at Parts = 18
count_at Lots = 19

abbrev pub accounts_at : ℕ
accounts_at = 32

-- then 6 words for each item: two for the row of its lots, two for that of its orders, two for its recipe; and 6 more, whose first two are for
-- the row of the free lots
abbrev pub items_at : ℕ
items_at = 64

abbrev pub recipe_at : ℕ → ℕ
recipe_at i = items_at + 6 * i + 4

-- then orders of 8 words: the order, its link, one spare
abbrev pub orders_at : Limits → ℕ
orders_at l = items_at + 6 * l.items + 6

abbrev pub order_at : Limits → ℕ → ℕ
order_at l k = orders_at l + 8 * k

-- then lots of 4 words: item and pieces, the link, one spare
abbrev pub lots_at : Limits → ℕ
lots_at l = orders_at l + 8 * l.orders

abbrev pub lot_at : Limits → ℕ → ℕ
lot_at l k = lots_at l + 4 * k

-- then parts of 2 words
abbrev pub parts_at : Limits → ℕ
parts_at l = lots_at l + 4 * l.lots

abbrev pub part_at : Limits → ℕ → ℕ
part_at l k = parts_at l + 2 * k

-- then entries of 2 words, and the entries' links, 2 words for each entry: in the row of its left account, and of its right
abbrev pub entries_at : Limits → ℕ
entries_at l = parts_at l + 2 * l.parts

abbrev pub entry_at : Limits → ℕ → ℕ
entry_at l k = entries_at l + 2 * k

abbrev pub entry_links_at : Limits → ℕ
entry_links_at l = entries_at l + 2 * l.entries

-- how many narrow words the limits ask for
abbrev pub narrow_need : Limits → ℕ
narrow_need l = entry_links_at l + 2 * l.entries

-- THE WIDE SLICE. Its head: totals from word 0 on, the sums of 16 accounts from 16 on.
abbrev pub total_at : Total → ℕ
total_at Documents = 0
total_at Booked = 1
total_at Worth = 2

abbrev pub balances_at : ℕ
balances_at = 16

abbrev pub balance_at : ℕ → ℕ
balance_at a = balances_at + 2 * a

-- then, of 2 words each: the sums of items, lots, entries
abbrev pub stocks_at : ℕ
stocks_at = 64

abbrev pub stock_at : ℕ → ℕ
stock_at i = stocks_at + 2 * i

abbrev pub wide_lots_at : Limits → ℕ
wide_lots_at l = stocks_at + 2 * l.items

abbrev pub wide_lot_at : Limits → ℕ → ℕ
wide_lot_at l k = wide_lots_at l + 2 * k

abbrev pub wide_entries_at : Limits → ℕ
wide_entries_at l = wide_lots_at l + 2 * l.lots

abbrev pub wide_entry_at : Limits → ℕ → ℕ
wide_entry_at l k = wide_entries_at l + 2 * k

-- how many wide words the limits ask for
abbrev pub wide_need : Limits → ℕ
wide_need l = wide_entries_at l + 2 * l.entries

-- THE BYTES FOR AN ANSWER: 32 for each lot of the limits, and so many more
abbrev pub answer_need : Limits → ℕ
answer_need l = 32 * l.lots + 8208

-- ROWS. A shape's numbers are words: beyond good limits they stop at the largest.
abbrev pub capped : ℕ → ℕ
capped n = min (2 ^ 32 - 1) n

-- the lots of each item from the oldest on, and after the items' rows that of the free lots
abbrev pub lot_rows : Limits → Shape
lot_rows l = record { cells = l.lots; rows = capped (l.items + 1); cells_at = capped (lots_at l + 2); cell_step = 4; heads_at = items_at; head_step = 6 }

-- the orders of each item
abbrev pub order_rows : Limits → Shape
order_rows l = record { cells = l.orders; rows = l.items; cells_at = capped (orders_at l + 6); cell_step = 8; heads_at = items_at + 2; head_step = 6 }

-- the entries of each account: cell 2e is the entry e in the row of its left account, and cell 2e + 1 in that of its right
abbrev pub entry_rows : Limits → Shape
entry_rows l = record { cells = capped (2 * l.entries); rows = 16; cells_at = capped (entry_links_at l); cell_step = 1; heads_at = accounts_at; head_step = 2 }
