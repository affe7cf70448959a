use Rattle.memory.specs.Lent.{seen}
use Rattle.questions.proofs.CountedDown.{CountedDown}
use Rattle.questions.proofs.entries.put_entries.Given as goal

abbrev pub invariant-loop-left : goal.invariant-loop-left
invariant-loop-left l = CountedDown l.view.limits (seen l.view) l.first l.many l.initial.answer l.answer l.left
