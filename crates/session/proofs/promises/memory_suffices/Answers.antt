-- Not `using(..)` on the function: with it the search does not close the goal.
use Rattle.session.proofs.Keeping.{keeps_sound, within}
use Rattle.session.proofs.promises.memory_suffices.Goals as goal

pub enough_memory_by_steps-requires : goal.enough_memory_by_steps-requires
enough_memory_by_steps-requires c = record { sound = keeps_sound; within = within }
