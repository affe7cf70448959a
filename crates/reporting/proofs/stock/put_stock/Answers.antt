use Rattle.std.proofs.Common.{string_bytes, arith}
use Rattle.memory.specs.Lent.{seen}
use Rattle.reporting.specs.Shown.{stock_shown, stock_seen}
use Rattle.reporting.specs.Tables.{stock_heading}
use Rattle.reporting.proofs.Rows.{rows_all}
use Rattle.reporting.proofs.stock.put_stock.Goals as goal

pub returns : goal.returns
unfolding stock_seen
returns c =
    rows_all (stock_shown c.args.view.limits (seen c.args.view)) c.args.view.limits.items c.loop-item.item (string_bytes c.args.out.now) stock_heading (string_bytes c.push_str.new.self) (string_bytes c.loop-item.out)
    c.in_ok-push_str.ensures.bytes c.loop-item.invariant (omega arith)
