use Rattle.std.proofs.Common.{◌≡◌, drop}
use Rattle.firm.specs.Refusals.{good_parts}
use Rattle.wire.specs.Said.{parts_in}
use Rattle.rules.proofs.recipes.are_good.Given as goal

abbrev pub invariant-loop-k : goal.invariant-loop-k
invariant-loop-k l = good_parts (drop l.k (parts_in l.parts)) l.item ≡ good_parts (parts_in l.parts) l.item
