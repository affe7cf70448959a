use Rattle.std.proofs.Common.{◌≡◌, ◌-◌, ◌^◌, min, map, length}
use Rattle.firm.specs.Answers.{ran}
use Rattle.firm.specs.Firm.{new_firm}
use Rattle.session.specs.Held.{room_of}
use Rattle.text.specs.Books.{memory_of}
use Rattle.text.specs.Run.{books_limits}
use Rattle.text.specs.Standing.{Standing}
use Rattle.text.proofs.Going.{calls_after}
use Rattle.journal.specs.Replaying.{AllTaken}
use Rattle.journal.proofs.replaying.replay.Given as goal

abbrev pub invariant-loop-line : goal.invariant-loop-line
invariant-loop-line l =
    Standing (books_limits l.fn.limits) (ran (books_limits l.fn.limits) new_firm (calls_after (map (λ x. x.now) l.yielded))) (memory_of l.books) (room_of l.books.held)
    × AllTaken (books_limits l.fn.limits) new_firm (calls_after (map (λ x. x.now) l.yielded))
    × (l.number ≡ min (2 ^ 64 - 1) (length l.yielded))
