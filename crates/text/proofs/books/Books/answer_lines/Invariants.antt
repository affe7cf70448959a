use Rattle.std.proofs.Common.{◌≡◌, map}
use Rattle.session.specs.Held.{room_of}
use Rattle.text.specs.Books.{memory_of}
use Rattle.text.specs.Noting.{CallsNoted}
use Rattle.text.specs.Standing.{CallsDone}
use Rattle.text.proofs.Going.{calls_after}
use Rattle.text.proofs.books.Books.answer_lines.Given as goal

abbrev pub invariant-loop-line : goal.invariant-loop-line
invariant-loop-line l =
    CallsDone (calls_after (map (λ x. x.now) l.yielded)) (memory_of l.initial.self) (memory_of l.self) (room_of l.initial.self.held) l.initial.out.items l.out.items
    × CallsNoted (calls_after (map (λ x. x.now) l.yielded)) (memory_of l.initial.self) (room_of l.initial.self.held) l.initial.self.tally l.self.tally
    × (room_of l.self.held ≡ room_of l.initial.self.held)
