-- Not `using(..)` on the function: with it the search does not close the goal.
use Rattle.wire.proofs.AnswerLaws.{answer_is_bytes}
use Rattle.wire.proofs.laws.answer_is_bytes_stands.Goals as goal

pub returns : goal.returns
returns c = answer_is_bytes
