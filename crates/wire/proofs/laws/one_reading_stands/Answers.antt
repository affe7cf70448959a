-- Not `using(..)` on the function: with it the search does not close the goal.
use Rattle.wire.proofs.OneReading.{one_reading}
use Rattle.wire.proofs.laws.one_reading_stands.Goals as goal

pub returns : goal.returns
returns c = one_reading
