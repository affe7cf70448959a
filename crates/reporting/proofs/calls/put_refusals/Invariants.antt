use Rattle.std.proofs.Common.{get_or, string_bytes}
use Rattle.reporting.specs.Report.{by_shown}
use Rattle.reporting.proofs.Rows.{RowsSoFar}
use Rattle.reporting.proofs.calls.put_refusals.Given as goal

abbrev pub invariant-loop-number : goal.invariant-loop-number
invariant-loop-number l = RowsSoFar (λ n. by_shown (get_or l.tally.by n 0) n) l.number (string_bytes l.initial.out) (string_bytes l.out)
