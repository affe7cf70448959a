-- The three tables, of a firm. Definitions only: nothing is assumed.
use Rattle.std.specs.Prelude.{ℕ, ◌+◌, ◌-◌, cond, List, [], ◌∷◌, ◌++◌, length, codes, ◌==◌, nat_lt}
use Rattle.firm.specs.Stock.{on_hand, worth}
use Rattle.firm.specs.Ledger.{left_side, right_side}
use Rattle.firm.specs.Firm.{Firm, Order, the_order}
use Rattle.firm.specs.Calls.{Limits}
use Rattle.records.specs.Accounts.{account_name}
use Rattle.reporting.specs.Columns.{aligned, cell, cells, rows_to}
use Rattle.reporting.specs.declared.columns.Cell.{Cell}

abbrev pub in_column : ℕ → ℕ → Cell
in_column w n = record { 0 = w; 1 = n }

-- STOCK: an item that has pieces, how many, and what they cost
abbrev pub stock_cells : ℕ → ℕ → ℕ → List Cell
stock_cells i p w = in_column 6 i ∷ (in_column 15 p ∷ (in_column 15 w ∷ []))

unfoldable pub stock_row : ℕ → ℕ → ℕ → List ℕ
stock_row i p w = cond (p == 0) [] (cells (stock_cells i p w) ++ codes "\n")

abbrev pub stock_heading : List ℕ
stock_heading = codes "stock\n   item          pieces            cost\n"

unfoldable pub stock_table : Limits → Firm → List ℕ
stock_table l f = stock_heading ++ rows_to (λ i. stock_row i (on_hand f.lots i) (worth f.lots i)) l.items

-- ACCOUNTS: the number, both sides, by how much one is more and which, the name
abbrev pub side : ℕ → ℕ → List ℕ
side x y = cond (nat_lt y x) (codes "left") (cond (nat_lt x y) (codes "right") (codes "even"))

abbrev pub account_cells : ℕ → ℕ → ℕ → List Cell
account_cells a x y = in_column 6 a ∷ (in_column 16 x ∷ (in_column 16 y ∷ (in_column 16 (x - y + (y - x)) ∷ [])))

unfoldable pub account_row : ℕ → ℕ → ℕ → List ℕ
account_row a x y = cells (account_cells a x y) ++ (aligned 6 (side x y) ++ (codes "  " ++ (account_name a ++ codes "\n")))

abbrev pub accounts_heading : List ℕ
accounts_heading = codes "accounts\n number             left            right          balance   side  name\n"

unfoldable pub accounts_table : Firm → List ℕ
accounts_table f = accounts_heading ++ rows_to (λ a. account_row a (left_side f.entries a) (right_side f.entries a)) 9

-- ORDERS: the number, the kind, item, pieces, price, moved, billed
abbrev pub kind : Order → List ℕ
kind o = cond o.sells (codes "sells") (codes "buys")

abbrev pub order_cells : Order → List Cell
order_cells o = in_column 6 o.item ∷ (in_column 8 o.pieces ∷ (in_column 8 o.price ∷ (in_column 8 o.moved ∷ (in_column 8 o.billed ∷ []))))

unfoldable pub order_row : ℕ → Order → List ℕ
order_row k o = cell 6 k ++ (aligned 6 (kind o) ++ (cells (order_cells o) ++ codes "\n"))

abbrev pub orders_heading : List ℕ
orders_heading = codes "orders\n number   kind   item   pieces    price    moved   billed\n"

unfoldable pub orders_table : Firm → List ℕ
orders_table f = orders_heading ++ rows_to (λ k. order_row k (the_order f k)) (length f.orders)
