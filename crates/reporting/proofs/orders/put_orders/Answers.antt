use Rattle.std.proofs.Common.{string_bytes, arith}
use Rattle.layout.specs.declared.head.Counter.TheVariants.{Orders}
use Rattle.memory.specs.Books.{count_of}
use Rattle.reporting.specs.Shown.{order_shown, orders_seen}
use Rattle.reporting.specs.Tables.{orders_heading}
use Rattle.reporting.proofs.Rows.{rows_all}
use Rattle.reporting.proofs.orders.put_orders.Goals as goal

pub returns : goal.returns
unfolding orders_seen
returns c =
    rows_all (order_shown c.args.view.limits c.args.view.narrow.now) (count_of Orders c.args.view.narrow.now) c.loop-number.number (string_bytes c.args.out.now) orders_heading (string_bytes c.push_str.new.self) (string_bytes c.loop-number.out)
    c.in_ok-push_str.ensures.bytes c.loop-number.invariant (omega (arith, c.count-number-end.ensures))
