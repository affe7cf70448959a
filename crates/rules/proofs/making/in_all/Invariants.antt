use Rattle.std.proofs.Common.{◌≡◌, drop}
use Rattle.std.specs.List.{fold}
use Rattle.rules.specs.Making.{more_wanted, in_all}
use Rattle.rules.proofs.making.in_all.Given as goal

abbrev pub invariant-loop-want : goal.invariant-loop-want
invariant-loop-want l = fold (more_wanted l.item) l.all (drop l.want-index l.wants) ≡ in_all l.wants l.item
