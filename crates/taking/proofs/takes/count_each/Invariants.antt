use Rattle.memory.specs.Lent.{words, Same}
use Rattle.taking.specs.Takes.{tally, nothing_taken}
use Rattle.taking.proofs.CountingOff.{OffSoFar}
use Rattle.taking.proofs.takes.count_each.Given as goal

abbrev pub invariant-loop-want : goal.invariant-loop-want
invariant-loop-want l =
    Same l.fn.memory l.memory
    × OffSoFar l.fn.memory.limits l.wants (words l.fn.memory) (tally l.fn.answer nothing_taken) l.want-index (words l.memory) (tally l.answer l.taken)
