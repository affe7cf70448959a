use Rattle.std.proofs.Common.{◌≡◌, ℕ, List, ◌++◌, length}
use Rattle.journal.specs.Torn.{Feedless}
use Rattle.journal.proofs.torn.finished.Given as goal

abbrev pub invariant-loop-lines : goal.invariant-loop-lines
invariant-loop-lines l = (torn : List ℕ) × (l.initial.text ≡ l.lines ++ torn) × Feedless torn

abbrev pub decreases-loop-lines : goal.decreases-loop-lines
decreases-loop-lines l = length l.lines
