use Rattle.memory.specs.Lent.{NarrowAlone}
use Rattle.wire.specs.Said.{parts_in}
use Rattle.rules.proofs.PartRows.{KeptSoFar}
use Rattle.rules.proofs.recipes.add_parts.Given as goal

abbrev pub invariant-loop-k : goal.invariant-loop-k
invariant-loop-k l = NarrowAlone l.fn.memory l.memory × KeptSoFar l.item (parts_in l.parts) l.k l.fn.memory.limits l.fn.memory.narrow.now l.memory.narrow.now
