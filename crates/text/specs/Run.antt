-- THE WHOLE RUN: what is written for a text of calls. Definitions only: nothing is assumed.
use Rattle.std.specs.Prelude.{ℕ, List, map}
use Rattle.std.specs.List.{flat_map}
use Rattle.firm.specs.Firm.{new_firm}
use Rattle.firm.specs.Calls.{Call, Answer, Limits}
use Rattle.firm.specs.Answers.{answers}
use Rattle.layout.specs.declared.limits.Limits as layout
use Rattle.call_lines.specs.Lines.{call_in_line}
use Rattle.answer_lines.specs.Shown.{shown_line}
use Rattle.text.specs.Lines.{lines_of_calls}
use Rattle.session.specs.Held.{unheld}
use Rattle.session.specs.Running as session
use Rattle.session.specs.declared.error.RunError.{RunError}

-- what the books are opened with, and which calls this stage can do
abbrev pub books_limits : layout.Limits → Limits
books_limits = session.books_limits

-- the calls of some lines: a line that is no call counts as what is garbled from the first word on that does not fit
abbrev pub calls_in : List (List ℕ) → List Call
calls_in ls = map call_in_line ls

-- the calls of a text, one for each line that is neither blank nor a remark
abbrev pub calls : List ℕ → List Call
calls text = calls_in (lines_of_calls text)

-- answers as text, each a line
abbrev pub printed : List Answer → List ℕ
printed told = flat_map shown_line told

-- WHAT IS WRITTEN for a text: what the books, which are new, answer to its calls
unfoldable pub ran : layout.Limits → List ℕ → List ℕ
ran l text = printed (answers (books_limits l) new_firm (calls text))

-- why nothing is written: limits out of range, and else nothing but want of memory
abbrev pub failure : layout.Limits → RunError
failure l = unheld l
