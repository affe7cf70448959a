use Rattle.std.proofs.Common.{string_bytes}
use Rattle.memory.specs.Lent.{seen}
use Rattle.reporting.specs.Shown.{stock_shown}
use Rattle.reporting.proofs.Rows.{RowsSoFar}
use Rattle.reporting.proofs.stock.put_stock.Given as goal

abbrev pub invariant-loop-item : goal.invariant-loop-item
invariant-loop-item l = RowsSoFar (stock_shown l.view.limits (seen l.view)) l.item (string_bytes l.initial.out) (string_bytes l.out)
