use Rattle.std.proofs.Common.{◌≡◌, ◌++◌, take, vec_items}
use Rattle.std.specs.List.{flat_map}
use Rattle.answer_lines.proofs.QuadSteps.{another_words}
use Rattle.answer_lines.proofs.quads.put_quads.Given as goal

abbrev pub invariant-loop-quad : goal.invariant-loop-quad
invariant-loop-quad l = vec_items l.out ≡ vec_items l.initial.out ++ flat_map another_words (take l.quad-index l.others)
