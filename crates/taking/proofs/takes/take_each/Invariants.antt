use Rattle.memory.specs.Lent.{words, Same}
use Rattle.taking.specs.Takes.{tally}
use Rattle.taking.proofs.Loops.{RowSoFar, WantsSoFar}
use Rattle.taking.proofs.takes.take_each.Given as goal

abbrev pub invariant-wants : goal.invariant-wants
invariant-wants l =
    Same l.fn.memory l.memory
    × WantsSoFar l.fn.memory.limits l.wants (words l.fn.memory) (tally l.fn.answer l.fn.before) l.want-index (words l.memory) (tally l.answer l.taken)

abbrev pub invariant-loop-line : goal.invariant-loop-line
invariant-loop-line l =
    Same l.fn.memory l.memory
    × RowSoFar l.fn.memory.limits l.want.item l.want.pieces (words l.initial.memory) (tally l.initial.answer l.initial.taken) l.line l.left (words l.memory)
    (tally l.answer l.taken)
