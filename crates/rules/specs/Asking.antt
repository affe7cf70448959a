-- Questions, on any memory: they leave all as it was. Definitions only: nothing is assumed.
use Rattle.std.specs.Prelude.{ℕ, cond, List, nat_lt}
use Rattle.firm.specs.Calls.{Answer, refused, two}
use Rattle.layout.specs.declared.head.Counter.TheVariants.{Orders}
use Rattle.layout.specs.declared.limits.Limits.{Limits}
use Rattle.memory.specs.Books.{count_of, order_record, balance_of, stock_of}

-- an item's pieces and what they cost, by its kept sums
abbrev pub stock_told : Limits → ℕ → List ℕ → Answer
stock_told l i w = cond (nat_lt i l.items) (two (stock_of i w).pieces (stock_of i w).worth) (refused 2 0)

-- both sides of an account, by its kept sums
abbrev pub account_told : ℕ → List ℕ → Answer
account_told a w = cond (nat_lt a 9) (two (balance_of a w).left (balance_of a w).right) (refused 2 0)

-- how many pieces of an order have moved, and are billed
abbrev pub order_told : Limits → ℕ → List ℕ → Answer
order_told l k n = cond (nat_lt k (count_of Orders n)) (two (order_record l k n).moved (order_record l k n).billed) (refused 4 0)
