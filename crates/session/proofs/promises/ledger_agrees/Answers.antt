-- Not `using(..)` on the function: with it the search does not close the goal.
use Rattle.session.proofs.Agreeing.{ledger_agrees}
use Rattle.session.proofs.promises.ledger_agrees.Goals as goal

pub returns : goal.returns
returns c = ledger_agrees
