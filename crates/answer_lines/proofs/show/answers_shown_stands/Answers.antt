-- Not `using(..)` on the function: this puts several lemmas together.
use Rattle.std.proofs.Common.{Option, ap}
use Rattle.firm.specs.Calls.{Answer}
use Rattle.wire.proofs.AnswerLaws.{answer_comes_back}
use Rattle.answer_lines.specs.Showings.{shown_if, showing_of}
use Rattle.answer_lines.proofs.show.answers_shown_stands.Goals as goal

pub returns : goal.returns
returns c a h = (ap (λ (o : Option Answer). showing_of o) (answer_comes_back a h), ap (λ (o : Option Answer). shown_if o) (answer_comes_back a h))
