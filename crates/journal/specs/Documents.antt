-- The lines of documents: what is kept of calls that were taken. Definitions only: nothing is assumed.
use Rattle.std.specs.Prelude.{ℕ, cond, List, [], ◌∷◌, ◌++◌}
use Rattle.std.specs.List.{flat_map}
use Rattle.firm.specs.Calls.{Call}
use Rattle.firm.specs.Journal.{is_question}
use Rattle.call_lines.specs.Written.{line_of_call}

-- the line of a document, and the lines of some
abbrev pub document_line : Call → List ℕ
document_line c = line_of_call c ++ 10 ∷ []

abbrev pub document_lines : List Call → List ℕ
document_lines cs = flat_map document_line cs

-- what is kept of a call that was taken: nothing, where it is a question
abbrev pub kept_line : Call → List ℕ
kept_line c = cond (is_question c) [] (document_line c)
