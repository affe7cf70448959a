use Rattle.std.proofs.Common.{append_assoc, rules}
use Rattle.reporting.specs.Report.{tally_line}
use Rattle.reporting.proofs.calls.put_tally.Goals as goal

pub returns : goal.returns
unfolding tally_line
returns c = search (rules, append_assoc)
