-- Not `using(..)` on the function: with it the search does not close the goal.
use Rattle.call_lines.proofs.PlaceLaws.{places_at_words}
use Rattle.call_lines.proofs.laws.places_at_words_stands.Goals as goal

pub returns : goal.returns
returns c = places_at_words
