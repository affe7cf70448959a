-- Not `using(..)` on the function: the search would compute the line's letters.
use Rattle.journal.proofs.FirstLines.{first_line_comes_back}
use Rattle.journal.proofs.laws.first_line_comes_back_stands.Goals as goal

pub returns : goal.returns
returns c = first_line_comes_back
