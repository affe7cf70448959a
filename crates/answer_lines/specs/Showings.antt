-- What is shown of bytes, and whether they are an answer. Definitions only: nothing is assumed.
use Rattle.std.specs.Prelude.{◌≡◌, ℕ, ◌%◌, Bool, true, cond, List, [], length, Some, None, Ok, Err, Option, Result, codes, ◌==◌}
use Rattle.firm.specs.Calls.{Answer}
use Rattle.wire.specs.Answers.{bytes_of_answer, carries, answer_of}
use Rattle.answer_lines.specs.declared.error.ShowError.{ShowError}
use Rattle.answer_lines.specs.declared.error.ShowError.TheVariants.{NoAnswer, OutOfMemory}
use Rattle.answer_lines.specs.Shown.{shown, shown_list}
use Rattle.answer_lines.specs.Quads.{quads_in, shown_quad}

-- an answer is shown, and nothing of what is none
abbrev pub shown_if : Option Answer → List ℕ
shown_if None = []
shown_if (Some a) = shown a

abbrev pub Showing : Type 0
Showing = Result (Unit {0}) ShowError

abbrev pub showing_of : Option Answer → Showing
showing_of None = Err NoAnswer
showing_of (Some a) = Ok tt

-- where memory suffices
abbrev pub OnMemory : Showing → Type 0 → Type 0
OnMemory (Ok u) P = P
OnMemory (Err NoAnswer) P = P
OnMemory (Err (OutOfMemory e)) P = Unit {0}

-- how it is told why nothing is shown
abbrev pub error_text : ShowError → List ℕ
error_text NoAnswer = codes "no answer"
error_text (OutOfMemory e) = codes "out of memory"

-- what is shown of the lines of a list: they have to be whole
abbrev pub whole : List ℕ → Bool
whole bs = length bs % 32 == 0

abbrev pub lines_showing : List ℕ → Showing
lines_showing bs = cond (whole bs) (Ok tt) (Err NoAnswer)

abbrev pub lines_shown : List ℕ → List ℕ
lines_shown bs = cond (whole bs) (shown_list shown_quad (quads_in bs)) []

-- every answer that bytes can carry is shown from its bytes
abbrev pub AnswersShown : Type 0
AnswersShown = (a : Answer) → carries a ≡ true → (showing_of (answer_of (bytes_of_answer a)) ≡ Ok tt) × (shown_if (answer_of (bytes_of_answer a)) ≡ shown a)
