use Rattle.std.proofs.Common.{string_bytes}
use Rattle.reporting.specs.Shown.{order_shown}
use Rattle.reporting.proofs.Rows.{RowsSoFar}
use Rattle.reporting.proofs.orders.put_orders.Given as goal

abbrev pub invariant-loop-number : goal.invariant-loop-number
invariant-loop-number l = RowsSoFar (order_shown l.view.limits l.view.narrow.now) l.number (string_bytes l.initial.out) (string_bytes l.out)
