use Rattle.std.proofs.Common.{◌≡◌, take}
use Rattle.records.proofs.words.put.Given as goal

abbrev pub invariant-loop-k : goal.invariant-loop-k
invariant-loop-k g l = take l.k l.part ≡ take l.k l.row
