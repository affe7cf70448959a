-- Goods that go on an order to sell, on any memory. Definitions only: nothing is assumed.
use Rattle.std.specs.Prelude.{ℕ, ◌+◌, Bool, cond, ◌&&◌, ◌||◌, [], ◌∷◌, nat_le, nat_lt}
use Rattle.firm.specs.Calls.{lots}
use Rattle.firm.specs.Refusals.{some_pieces}
use Rattle.layout.specs.declared.head.Counter.TheVariants.{Orders}
use Rattle.layout.specs.declared.head.Total.TheVariants.{Documents, Booked, Worth}
use Rattle.layout.specs.declared.limits.Limits.{Limits}
use Rattle.memory.specs.Books.{count_of, total_of, order_record, stock_of}
use Rattle.records.specs.Accounts.{number_of}
use Rattle.records.specs.State.{State, state}
use Rattle.records.specs.declared.account.Account.{Account}
use Rattle.records.specs.declared.account.Account.TheVariants.{Stock, CostOfSales}
use Rattle.records.specs.declared.order.Order.{Order}
use Rattle.store.specs.Steps.{counted_out}
use Rattle.taking.specs.Takes.{want, cost_of, cost_taken, Taking, take_all}
use Rattle.taking.specs.declared.wants.Want.{Want}
use Rattle.rules.specs.Checks.{document_fits, room, enters, moved_more}
use Rattle.rules.specs.Entering.{entered}
use Rattle.rules.specs.Outcome.{Outcome, outcome, refuse}
use Rattle.rules.specs.Receiving.{with_order}
use Rattle.rules.specs.Totals.{raised, lowered}

-- the order o that has moved takes its place, and what is wanted is taken
abbrev pub gone_of : Limits → ℕ → Order → Want → State → Taking
gone_of l k o w s = take_all l (w ∷ []) (with_order l k o s)

-- so with q pieces of the order of a number
abbrev pub gone : Limits → ℕ → ℕ → State → Taking
gone l k q s = let o : Order = order_record l k s.narrow in gone_of l k (moved_more o q) (want o.item q) s

-- what went cost x: all lots cost as much less, all entries come to as much more, and there is a document more
abbrev pub summed_out : ℕ → State → State
summed_out x s = state (raised Documents 1 (raised Booked x (lowered Worth x s.wide))) s.narrow

-- on memory that has what was wanted no more: it is counted out for its item, and its cost is entered on the left of an account
unfoldable pub issued : Limits → Account → Want → ℕ → ℕ → State → State
issued l a w x d s =
    summed_out x (entered l (record { left = number_of a; right = number_of Stock; amount = x; «document» = d }) (state (counted_out l w.item w.pieces x s.wide) s.narrow))

-- whether what goes is within the limits: all that lies there of the item would be, or what is wanted is, at what taking it would cost
abbrev pub goods_fit : Limits → Want → State → Bool
goods_fit l w s = (room l 1 (stock_of w.item s.wide).worth s || enters l (cost_of l w s) s) && document_fits s

abbrev pub let_go : Limits → Order → ℕ → ℕ → Taking → Outcome
let_go l o q d t = outcome (lots t.parts) (issued l CostOfSales (want o.item q) (cost_taken t) d t.slices)

-- the answer is what was taken of which lots
abbrev pub goes : Limits → ℕ → ℕ → State → Outcome
goes l k q s =
    let o : Order = order_record l k s.narrow in
    let d : ℕ = total_of Documents s.wide in
    cond (some_pieces q)
    (cond (nat_lt k (count_of Orders s.narrow))
    (cond o.sells
    (cond (nat_le (o.moved + q) o.pieces)
    (cond (nat_le q (stock_of o.item s.wide).pieces) (cond (goods_fit l (want o.item q) s) (let_go l o q d (gone l k q s)) (refuse 9 0 s)) (refuse 7 1 s))
    (refuse 6 1 s))
    (refuse 5 0 s))
    (refuse 4 0 s))
    (refuse 2 0 s)
