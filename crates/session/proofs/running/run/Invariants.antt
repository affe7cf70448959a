use Rattle.std.proofs.Common.{◌≡◌, vec_items}
use Rattle.memory.specs.Books.{limits_in}
use Rattle.session.specs.Held.{words_of, room_of}
use Rattle.session.proofs.Turns.{Going}
use Rattle.session.proofs.running.run.Given as goal

abbrev pub invariant-loop-row : goal.invariant-loop-row
invariant-loop-row l =
    Going (limits_in (words_of l.initial.held).narrow) l.calls (words_of l.held) l.row-iterator.0.now (vec_items l.out) × (room_of l.held ≡ room_of l.initial.held)
