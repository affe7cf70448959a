use Rattle.std.proofs.Common.{string_bytes}
use Rattle.memory.specs.Lent.{seen}
use Rattle.reporting.specs.Shown.{account_shown}
use Rattle.reporting.proofs.Rows.{RowsSoFar}
use Rattle.reporting.proofs.accounts.put_accounts.Given as goal

abbrev pub invariant-loop-account : goal.invariant-loop-account
invariant-loop-account l = RowsSoFar (account_shown l.view.limits (seen l.view)) l.account-index (string_bytes l.initial.out) (string_bytes l.out)
