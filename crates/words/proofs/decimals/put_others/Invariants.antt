use Rattle.std.proofs.Common.{◌≡◌, ◌++◌, take, vec_items}
use Rattle.std.specs.List.{flat_map}
use Rattle.words.specs.Spaced.{another_number}
use Rattle.words.proofs.decimals.put_others.Given as goal

abbrev pub invariant-loop-n : goal.invariant-loop-n
invariant-loop-n l = vec_items l.out ≡ vec_items l.initial.out ++ flat_map another_number (take l.n-index l.numbers)
