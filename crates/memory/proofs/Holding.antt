-- The same slices and limits are held from one step to the next. Assumes nothing.
use Rattle.std.proofs.Common.{◌∙◌}
use Rattle.memory.specs.Lent.{Same}
use Rattle.memory.specs.declared.lent.Memory.{Memory}

pub same_on : (a b c : Memory) → Same a b → Same b c → Same a c
same_on a b c p q = (q.0 ∙ p.0, q.1 ∙ p.1, q.2 ∙ p.2)
