-- What each function leaves in the two slices and answers, whatever was there.
use Rattle.std.specs.Prelude.{ℕ, ◌+◌, ◌-◌, ◌*◌, ◌/◌, ◌^◌, min, cond, ◌||◌, List, Some, None, Ok, Err, Option, Result, nat_le, nat_lt}
use Rattle.layout.specs.Layout.{lot_rows, order_rows, entry_rows}
use Rattle.layout.specs.declared.head.Counter.TheVariants.{Orders, Entries, Parts, Lots}
use Rattle.layout.specs.declared.limits.Limits.{Limits}
use Rattle.links.specs.Area.{header_of, tail_in, following_in, nth_in, inserted, removed}
use Rattle.links.specs.declared.shape.Shape.{Shape}
use Rattle.memory.specs.Books.{count_of, put_count, put_order, lot_record, put_lot, entry_record, put_entry, put_part, put_recipe, balance_of, put_balance, stock_of, put_stock}
use Rattle.records.specs.State.{State, state}
use Rattle.records.specs.declared.balance.Balance.{Balance}
use Rattle.records.specs.declared.entry.Entry.{Entry}
use Rattle.records.specs.declared.lot.Lot.{Lot}
use Rattle.records.specs.declared.order.Order.{Order}
use Rattle.records.specs.declared.part.Part.{Part}
use Rattle.records.specs.declared.stock.Stock.{Stock}
use Rattle.store.specs.declared.refusal.Refusal.{Refusal}
use Rattle.store.specs.declared.refusal.Refusal.TheVariants.{NoSuchItem, NoSuchAccount, NoSuchOrder, NoLot, Full}

-- what a function answered, and what it left
pub record After (X L : Type 0) : Type 0 where
  pub came : Result X Refusal
  pub left : L

abbrev pub after : {X L : Type 0} → Result X Refusal → L → After X L
after r s = record { came = r; left = s }

-- c comes at the end of row r
unfoldable pub pushed : Shape → ℕ → ℕ → List ℕ → List ℕ
pushed h r c n = inserted h r (tail_in h n r) c n

-- LOTS. The place before the first free cell
abbrev pub free_header : Limits → ℕ
free_header l = header_of (lot_rows l) l.items

-- the first free cell c leaves the free row and comes at the end of the row of item i
unfoldable pub moved_in : Limits → ℕ → ℕ → List ℕ → List ℕ
moved_in l i c n = pushed (lot_rows l) i c (removed (lot_rows l) l.items (free_header l) c n)

-- the first cell c of item i's row leaves it and becomes the first free one
unfoldable pub moved_out : Limits → ℕ → ℕ → List ℕ → List ℕ
moved_out l i c n = inserted (lot_rows l) l.items (free_header l) c (removed (lot_rows l) i (header_of (lot_rows l) i) c n)

-- a count and one; it stops at the largest word
abbrev pub one_more : ℕ → ℕ
one_more k = min (2 ^ 32 - 1) (k + 1)

-- the lot x lies in the cell c, which joins its item's row; and one lot more is in use
unfoldable pub lot_placed : Limits → ℕ → Lot → State → State
lot_placed l c x s =
    state (put_lot l c x s).wide (put_count Lots (one_more (count_of Lots s.narrow)) (moved_in l x.item c (put_lot l c x s).narrow))

-- ADDING A LOT: refused for an item that there is not, and where no cell is free
abbrev pub on_free : Limits → Lot → State → Option ℕ → After ℕ State
on_free l x s None = after (Err Full) s
on_free l x s (Some c) = after (Ok c) (lot_placed l c x s)

abbrev pub add_lot : Limits → Lot → State → After ℕ State
add_lot l x s = cond (nat_lt x.item l.items) (on_free l x s (following_in (lot_rows l) s.narrow (free_header l))) (after (Err NoSuchItem) s)

-- the cell c, of the oldest lot of item i, is free again; and one lot fewer is in use
unfoldable pub lot_freed : Limits → ℕ → ℕ → List ℕ → List ℕ
lot_freed l i c n = put_count Lots (count_of Lots n - 1) (moved_out l i c n)

-- REMOVING the oldest lot of an item, which is answered: refused for an item that there is not, or that has no lot
abbrev pub on_first : Limits → ℕ → State → Option ℕ → After Lot (List ℕ)
on_first l i s None = after (Err NoLot) s.narrow
on_first l i s (Some c) = after (Ok (lot_record l c s)) (lot_freed l i c s.narrow)

abbrev pub remove_lot : Limits → ℕ → State → After Lot (List ℕ)
remove_lot l i s = cond (nat_lt i l.items) (on_first l i s (following_in (lot_rows l) s.narrow (header_of (lot_rows l) i))) (after (Err NoSuchItem) s.narrow)

-- the k-th lot of item i
abbrev pub lot_found : Limits → State → Option ℕ → Option Lot
lot_found l s None = None
lot_found l s (Some c) = Some (lot_record l c s)

abbrev pub nth_lot : Limits → ℕ → ℕ → State → Option Lot
nth_lot l i k s = cond (nat_lt i l.items) (lot_found l s (nth_in (lot_rows l) s.narrow i k)) None

-- a walk over the cells of item i's lots: the first, and the one after a cell
abbrev pub first_lot : Limits → ℕ → List ℕ → Option ℕ
first_lot l i n = cond (nat_lt i l.items) (following_in (lot_rows l) n (header_of (lot_rows l) i)) None

abbrev pub lot_after : Limits → ℕ → List ℕ → Option ℕ
lot_after l c n = following_in (lot_rows l) n c

-- ORDERS. The order x is put behind those that there are, and joins its item's row
unfoldable pub order_placed : Limits → Order → List ℕ → List ℕ
order_placed l x n = put_count Orders (count_of Orders n + 1) (pushed (order_rows l) x.item (count_of Orders n) (put_order l (count_of Orders n) x n))

-- ADDING AN ORDER: its number is how many there were
abbrev pub add_order : Limits → Order → List ℕ → After ℕ (List ℕ)
add_order l x n =
    cond (nat_lt x.item l.items) (cond (nat_lt (count_of Orders n) l.orders) (after (Ok (count_of Orders n)) (order_placed l x n)) (after (Err Full) n)) (after (Err NoSuchItem) n)

-- an order that is there is put anew
abbrev pub set_order : Limits → ℕ → Order → List ℕ → After ℕ (List ℕ)
set_order l k x n = cond (nat_lt k (count_of Orders n)) (after (Ok k) (put_order l k x n)) (after (Err NoSuchOrder) n)

-- the number of the k-th order of item i
abbrev pub nth_order : Limits → ℕ → ℕ → List ℕ → Option ℕ
nth_order l i k n = cond (nat_lt i l.items) (nth_in (order_rows l) n i k) None

-- a walk over the orders of item i
abbrev pub first_order : Limits → ℕ → List ℕ → Option ℕ
first_order l i n = cond (nat_lt i l.items) (following_in (order_rows l) n (header_of (order_rows l) i)) None

abbrev pub order_after : Limits → ℕ → List ℕ → Option ℕ
order_after l k n = following_in (order_rows l) n k

-- ENTRIES. The two cells of entry e: one in the row of its left account, one in that of its right
abbrev pub left_cell : ℕ → ℕ
left_cell e = min (2 ^ 32 - 1) (e * 2)

abbrev pub right_cell : ℕ → ℕ
right_cell e = min (2 ^ 32 - 1) (left_cell e + 1)

-- both cells come at the ends of these rows
unfoldable pub entry_linked : Limits → Entry → ℕ → List ℕ → List ℕ
entry_linked l x e n = pushed (entry_rows l) x.right (right_cell e) (pushed (entry_rows l) x.left (left_cell e) n)

-- the entry x is put behind those that there are, and joins both rows
unfoldable pub entry_placed : Limits → Entry → State → State
entry_placed l x s =
    state (put_entry l (count_of Entries s.narrow) x s).wide
    (put_count Entries (count_of Entries s.narrow + 1) (entry_linked l x (count_of Entries s.narrow) (put_entry l (count_of Entries s.narrow) x s).narrow))

-- ADDING AN ENTRY: its number is how many there were
abbrev pub add_entry : Limits → Entry → State → After ℕ State
add_entry l x s =
    cond (nat_le 16 x.left || nat_le 16 x.right) (after (Err NoSuchAccount) s)
    (cond (nat_lt (count_of Entries s.narrow) l.entries) (after (Ok (count_of Entries s.narrow)) (entry_placed l x s)) (after (Err Full) s))

-- the k-th entry of account a
abbrev pub entry_found : Limits → State → Option ℕ → Option Entry
entry_found l s None = None
entry_found l s (Some c) = Some (entry_record l (c / 2) s)

abbrev pub nth_entry : Limits → ℕ → ℕ → State → Option Entry
nth_entry l a k s = cond (nat_lt a 16) (entry_found l s (nth_in (entry_rows l) s.narrow a k)) None

-- a walk over the cells of account a's entries; the entry of a cell is half its number
abbrev pub first_entry : Limits → ℕ → List ℕ → Option ℕ
first_entry l a n = cond (nat_lt a 16) (following_in (entry_rows l) n (header_of (entry_rows l) a)) None

abbrev pub entry_after : Limits → ℕ → List ℕ → Option ℕ
entry_after l c n = following_in (entry_rows l) n c

-- RECIPES. The part x is put behind those that there are
unfoldable pub part_placed : Limits → Part → List ℕ → List ℕ
part_placed l x n = put_count Parts (count_of Parts n + 1) (put_part l (count_of Parts n) x n)

-- ADDING A PART: its row is how many there were
abbrev pub add_part : Limits → Part → List ℕ → After ℕ (List ℕ)
add_part l x n = cond (nat_lt (count_of Parts n) l.parts) (after (Ok (count_of Parts n)) (part_placed l x n)) (after (Err Full) n)

-- the row in front of a recipe's parts: the item that is made, and how many parts there are
abbrev pub front : ℕ → ℕ → Part
front i k = record { item = i; each = k }

-- a recipe begins with that row, and lies behind it
unfoldable pub recipe_placed : Limits → ℕ → ℕ → List ℕ → List ℕ
recipe_placed l i k n = put_recipe i (record { first = count_of Parts n + 1; parts = k }) (part_placed l (front i k) n)

-- BEGINNING A RECIPE: the row in front of it is answered
abbrev pub add_recipe : Limits → ℕ → ℕ → List ℕ → After ℕ (List ℕ)
add_recipe l i k n =
    cond (nat_lt i l.items) (cond (nat_lt (count_of Parts n) l.parts) (after (Ok (count_of Parts n)) (recipe_placed l i k n)) (after (Err Full) n)) (after (Err NoSuchItem) n)

-- SUMS. On any memory a sum stops at the largest word
abbrev pub sum : ℕ → ℕ → ℕ
sum a b = min (2 ^ 64 - 1) (a + b)

-- an item's sums with q pieces more, which cost x
abbrev pub more_stock : Stock → ℕ → ℕ → Stock
more_stock a q x = record { pieces = sum a.pieces q; worth = sum a.worth x }

-- a lot is counted for its item, if that is there
unfoldable pub lot_counted : Limits → Lot → List ℕ → List ℕ
lot_counted l x w = cond (nat_lt x.item l.items) (put_stock x.item (more_stock (stock_of x.item w) x.pieces x.cost) w) w

-- the lot in the cell c is counted
abbrev pub count_in : Limits → ℕ → State → List ℕ
count_in l c s = lot_counted l (lot_record l c s) s.wide

-- an item's sums with q pieces fewer, which cost x, and these counted out of it, if that is there
abbrev pub less_stock : Stock → ℕ → ℕ → Stock
less_stock a q x = record { pieces = a.pieces - q; worth = a.worth - x }

unfoldable pub counted_out : Limits → ℕ → ℕ → ℕ → List ℕ → List ℕ
counted_out l i q x w = cond (nat_lt i l.items) (put_stock i (less_stock (stock_of i w) q x) w) w

-- an amount is posted on the left of an account, and on the right of one
abbrev pub more_left : Balance → ℕ → Balance
more_left b x = record { left = sum b.left x; right = b.right }

abbrev pub more_right : Balance → ℕ → Balance
more_right b x = record { left = b.left; right = sum b.right x }

unfoldable pub left_posted : ℕ → ℕ → List ℕ → List ℕ
left_posted a x w = put_balance a (more_left (balance_of a w) x) w

unfoldable pub right_posted : ℕ → ℕ → List ℕ → List ℕ
right_posted a x w = put_balance a (more_right (balance_of a w) x) w

abbrev pub post : Entry → List ℕ → List ℕ
post x w = right_posted x.right x.amount (left_posted x.left x.amount w)
