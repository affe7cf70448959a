-- The three tables on any memory: what is read there, shown. Definitions only: nothing is assumed.
use Rattle.std.specs.Prelude.{ℕ, List, [], ◌++◌, codes}
use Rattle.firm.specs.Calls.{Answer, refused, number, two, lots, entries}
use Rattle.layout.specs.declared.head.Counter.TheVariants.{Orders}
use Rattle.layout.specs.declared.limits.Limits.{Limits}
use Rattle.memory.specs.Books.{count_of, order_record}
use Rattle.records.specs.State.{State}
use Rattle.rules.specs.Asking.{stock_told, account_told}
use Rattle.session.specs.Means.{order_of}
use Rattle.reporting.specs.Columns.{rows_to}
use Rattle.reporting.specs.Tables.{stock_heading, stock_row, accounts_heading, account_row, orders_heading, order_row}

-- the row of two numbers that a question is answered, if it is
abbrev pub two_shown : (ℕ → ℕ → List ℕ) → Answer → List ℕ
two_shown row (two a b) = row a b
two_shown row (refused n p) = []
two_shown row (number n) = []
two_shown row (lots ls) = []
two_shown row (entries es) = []

abbrev pub stock_shown : Limits → State → ℕ → List ℕ
stock_shown l s i = two_shown (stock_row i) (stock_told l i s.wide)

abbrev pub account_shown : Limits → State → ℕ → List ℕ
account_shown l s a = two_shown (account_row a) (account_told a s.wide)

abbrev pub order_shown : Limits → List ℕ → ℕ → List ℕ
order_shown l n k = order_row k (order_of (order_record l k n))

unfoldable pub stock_seen : Limits → State → List ℕ
stock_seen l s = stock_heading ++ rows_to (stock_shown l s) l.items

unfoldable pub accounts_seen : Limits → State → List ℕ
accounts_seen l s = accounts_heading ++ rows_to (account_shown l s) 9

unfoldable pub orders_seen : Limits → List ℕ → List ℕ
orders_seen l n = orders_heading ++ rows_to (order_shown l n) (count_of Orders n)

-- the tables with an empty line behind each
unfoldable pub tables_seen : Limits → State → List ℕ
tables_seen l s = stock_seen l s ++ (codes "\n" ++ (accounts_seen l s ++ (codes "\n" ++ (orders_seen l s.narrow ++ codes "\n"))))
