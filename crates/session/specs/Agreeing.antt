-- THE LEDGER IN MEMORY, after any list of calls: what the words themselves say, the sums that are kept, the orders and the entries that lie there.
-- Definitions only: nothing is assumed.
use Rattle.std.specs.Prelude.{◌≡◌, ◌+◌, ◌≤◌, true, List, ◌++◌, map}
use Rattle.std.specs.List.{range_with_len}
use Rattle.firm.specs.Ledger as ledger
use Rattle.firm.specs.Firm as firm
use Rattle.firm.specs.Calls.{Call, Limits, all_readable}
use Rattle.firm.specs.Promise.{GoodLimits, left_by}
use Rattle.firm.specs.Statements.{over, not_billed, billed_sales, orders_fine}
use Rattle.layout.specs.declared.head.Counter.TheVariants.{Orders, Entries}
use Rattle.layout.specs.declared.head.Total.TheVariants.{Worth}
use Rattle.layout.specs.declared.limits.Limits as memory
use Rattle.memory.specs.Books.{count_of, total_of, balance_of, order_record}
use Rattle.questions.specs.Entries.{entries_on}
use Rattle.records.specs.State.{State}
use Rattle.session.specs.Keeper.{keeper, state_of}
use Rattle.session.specs.Means.{limits_of, order_of}

-- all orders and all entries of memory, by number
abbrev pub orders_in : memory.Limits → State → List firm.Order
orders_in l s = map (λ k. order_of (order_record l k s.narrow)) (range_with_len 0 (count_of Orders s.narrow))

abbrev pub entries_in : memory.Limits → State → List ledger.Entry
entries_in l s = entries_on l 0 (count_of Entries s.narrow) s

-- THE KEPT SUMS AGREE: with each other, with what the lots cost, and with the orders
pub record Agrees (l : memory.Limits) (s : State) : Type 0 where
  -- the left sides of all accounts come to as much as the right ones
  pub balanced : over (λ a. (balance_of a s.wide).left) 9 ≡ over (λ a. (balance_of a s.wide).right) 9
  -- the stock account has what all lots cost
  pub stock : (balance_of 0 s.wide).left ≡ (balance_of 0 s.wide).right + total_of Worth s.wide
  -- account 1 has just what came and is not billed
  pub received : (balance_of 1 s.wide).right ≡ (balance_of 1 s.wide).left + not_billed (orders_in l s)
  -- no more is paid out than is owed
  pub paid : (balance_of 2 s.wide).left ≤ (balance_of 2 s.wide).right
  -- the left of account 3 is what customers were billed
  pub customers : (balance_of 3 s.wide).left ≡ billed_sales (orders_in l s)
  -- of each order no more is billed than moved, and no more moved than ordered
  pub in_three_ways : orders_fine (orders_in l s) ≡ true

-- memory after some calls of new books
abbrev pub memory_after : Limits → List Call → State
memory_after l cs = state_of (left_by keeper (keeper.opened l) cs)

unfoldable pub LedgerAgrees : Type 0
LedgerAgrees = (l : Limits) (cs : List Call) → GoodLimits l → all_readable cs ≡ true → Agrees (limits_of l) (memory_after l cs)

-- ENTRIES STAY: what some calls have entered stands as it was after any further ones
unfoldable pub EntriesKept : Type 0
EntriesKept =
    (l : Limits) (cs ds : List Call) → GoodLimits l → all_readable (cs ++ ds) ≡ true →
    (es : List ledger.Entry) × (entries_in (limits_of l) (memory_after l (cs ++ ds)) ≡ entries_in (limits_of l) (memory_after l cs) ++ es)
