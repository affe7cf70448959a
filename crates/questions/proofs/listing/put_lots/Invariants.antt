use Rattle.links.specs.Walk.{cells_left}
use Rattle.memory.specs.Lent.{seen}
use Rattle.questions.proofs.Listed.{Listed}
use Rattle.questions.proofs.listing.put_lots.Given as goal

abbrev pub invariant-loop-cell : goal.invariant-loop-cell
invariant-loop-cell l = Listed l.view.limits l.item (seen l.view) l.initial.answer l.answer l.yielded (cells_left l.cell-iterator) l.count
