-- Not `using(..)` on the function: this puts several lemmas together.
use Rattle.std.proofs.Common.{ap, ◌∙◌}
use mathlib.Core.List.{map-append}
use Rattle.call_lines.specs.Lines.{call_in_line}
use Rattle.text.specs.Lines.{lines_of_calls}
use Rattle.text.specs.Run.{calls_in}
use Rattle.text.proofs.Going.{answers_append, ran_append}
use Rattle.text.proofs.Splitting.{call_lines_add}
use Rattle.text.proofs.laws.line_by_line_stands.Goals as goal

pub returns : goal.returns
returns c =
    record {
      calls_add = λ a b. ap calls_in (call_lines_add a b) ∙ map-append call_in_line (lines_of_calls a) (lines_of_calls b);
      answers_add = answers_append;
      firms_add = ran_append;
    }
