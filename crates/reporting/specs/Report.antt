-- THE REPORT on books: three tables of the firm that the calls of a text leave, and how many of these were taken and turned away.
-- Definitions only: nothing is assumed.
use Rattle.std.specs.Prelude.{ℕ, cond, List, [], ◌++◌, codes, decimal, ◌==◌, slice_index}
use Rattle.firm.specs.Calls.{Answer, Limits}
use Rattle.firm.specs.Firm.{Firm, new_firm}
use Rattle.firm.specs.Answers.{answers, ran}
use Rattle.layout.specs.declared.limits.Limits as layout
use Rattle.text.specs.Run.{books_limits, calls}
use Rattle.text.specs.Tallies.{no_tally, tallied}
use Rattle.text.specs.declared.tally.Tally.{Tally}
use Rattle.reporting.specs.Columns.{rows_to}
use Rattle.reporting.specs.Tables.{stock_table, accounts_table, orders_table}

-- so many were turned away by the refusal n
abbrev pub by_shown : ℕ → ℕ → List ℕ
by_shown count n = cond (count == 0) [] (codes "; " ++ (decimal count ++ (codes " by " ++ decimal n)))

unfoldable pub tally_line : Tally → List ℕ
tally_line t =
    codes "calls: " ++ (decimal t.taken ++ (codes " taken, " ++ (decimal t.turned ++ (codes " turned away" ++ (rows_to (λ n. by_shown (slice_index t.by n) n) 10 ++ codes "\n")))))

-- the tables with an empty line behind each, and the last line
unfoldable pub report_of : Limits → Firm → List Answer → List ℕ
report_of l f told = stock_table l f ++ (codes "\n" ++ (accounts_table f ++ (codes "\n" ++ (orders_table f ++ (codes "\n" ++ tally_line (tallied no_tally told))))))

-- WHAT IS REPORTED for a text of calls, on books that are new
unfoldable pub reported : layout.Limits → List ℕ → List ℕ
reported l text = report_of (books_limits l) (ran (books_limits l) new_firm (calls text)) (answers (books_limits l) new_firm (calls text))
