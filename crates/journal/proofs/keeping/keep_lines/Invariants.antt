use Rattle.std.proofs.Common.{◌≡◌, map}
use Rattle.session.specs.Held.{room_of}
use Rattle.text.specs.Books.{memory_of}
use Rattle.text.specs.Noting.{CallsNoted}
use Rattle.text.specs.Standing.{CallsDone}
use Rattle.text.proofs.Going.{calls_after}
use Rattle.journal.specs.Keeping.{CallsKept}
use Rattle.journal.proofs.keeping.keep_lines.Given as goal

abbrev pub invariant-loop-line : goal.invariant-loop-line
invariant-loop-line l =
    CallsDone (calls_after (map (λ x. x.now) l.yielded)) (memory_of l.initial.books) (memory_of l.books) (room_of l.initial.books.held) l.initial.out.items l.out.items
    × CallsNoted (calls_after (map (λ x. x.now) l.yielded)) (memory_of l.initial.books) (room_of l.initial.books.held) l.initial.books.tally l.books.tally
    × (room_of l.books.held ≡ room_of l.initial.books.held)
    × CallsKept (calls_after (map (λ x. x.now) l.yielded)) (memory_of l.initial.books) (room_of l.initial.books.held) l.initial.kept.items l.kept.items
