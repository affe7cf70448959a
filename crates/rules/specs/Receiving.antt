-- Goods that come on an order to buy, on any memory. Definitions only: nothing is assumed.
use Rattle.std.specs.Prelude.{ℕ, ◌+◌, ◌*◌, Bool, cond, ◌&&◌, Ok, Err, Result, nat_le, nat_lt}
use Rattle.firm.specs.Calls.{refused, number}
use Rattle.firm.specs.Refusals.{some_pieces}
use Rattle.layout.specs.declared.head.Counter.TheVariants.{Orders}
use Rattle.layout.specs.declared.head.Total.TheVariants.{Documents, Booked, Worth}
use Rattle.layout.specs.declared.limits.Limits.{Limits}
use Rattle.memory.specs.Books.{count_of, total_of, order_record}
use Rattle.records.specs.State.{State, state}
use Rattle.records.specs.declared.lot.Lot.{Lot}
use Rattle.records.specs.declared.order.Order.{Order}
use Rattle.store.specs.Steps.{After, add_lot, set_order, count_in}
use Rattle.store.specs.declared.refusal.Refusal.{Refusal}
use Rattle.rules.specs.Checks.{document_fits, enters, worth_fits, moved_more}
use Rattle.rules.specs.Entering.{entered}
use Rattle.rules.specs.Outcome.{Outcome, outcome, refuse}
use Rattle.rules.specs.Totals.{raised}

abbrev pub with_order : Limits → ℕ → Order → State → State
with_order l k o s = state s.wide (set_order l k o s.narrow).left

-- what came cost x: all lots cost as much more, all entries come to as much more, and there is a document more
abbrev pub summed : ℕ → State → State
summed x s = state (raised Documents 1 (raised Booked x (raised Worth x s.wide))) s.narrow

-- on memory that has the lot already and counts it: the order o that has moved takes its place, and the cost x is entered on 0 and 1
unfoldable pub received : Limits → ℕ → Order → ℕ → ℕ → State → State
received l k o x d s = summed x (entered l (record { left = 0; right = 1; amount = x; «document» = d }) (with_order l k o s))

abbrev pub comes_fits : Limits → ℕ → State → Bool
comes_fits l x s = enters l x s && (worth_fits x s && document_fits s)

-- the lot that comes
abbrev pub new_lot : Order → ℕ → ℕ → Lot
new_lot o q d = record { item = o.item; pieces = q; cost = q * o.price; «document» = d }

-- by what came of adding the lot, which leaves t: it is counted for its item. The answer is the document's number
abbrev pub stored : Limits → ℕ → Order → ℕ → ℕ → State → Result ℕ Refusal → Outcome
stored l k o q d t (Ok c) = outcome (number d) (received l k (moved_more o q) (q * o.price) d (state (count_in l c t) t.narrow))
stored l k o q d t (Err e) = outcome (refused 9 0) t

abbrev pub placed : Limits → ℕ → Order → ℕ → ℕ → After ℕ State → Outcome
placed l k o q d a = stored l k o q d a.left a.came

-- the checks in their order, and then the steps
abbrev pub comes : Limits → ℕ → ℕ → State → Outcome
comes l k q s =
    let o : Order = order_record l k s.narrow in
    let d : ℕ = total_of Documents s.wide in
    cond (some_pieces q)
    (cond (nat_lt k (count_of Orders s.narrow))
    (cond o.sells (refuse 5 0 s)
    (cond (nat_le (o.moved + q) o.pieces) (cond (comes_fits l (q * o.price) s) (placed l k o q d (add_lot l (new_lot o q d) s)) (refuse 9 0 s)) (refuse 6 1 s)))
    (refuse 4 0 s))
    (refuse 2 0 s)
