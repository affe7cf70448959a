use Rattle.std.proofs.Common.{◌≡◌, ◌-◌, ◌++◌, length, take}
use Rattle.rules.specs.Making.{wants_on, wants_of}
use Rattle.rules.proofs.making.fill_wants.Given as goal

abbrev pub invariant-loop-part : goal.invariant-loop-part
invariant-loop-part l =
    (length l.wants ≡ 16)
    × (take l.part l.wants ++ wants_on (16 - l.part) l.fn.view.limits l.fn.recipe.first l.part l.fn.pieces l.fn.view.narrow.now
    ≡ wants_of l.fn.view.limits l.fn.recipe l.fn.pieces l.fn.view.narrow.now)
