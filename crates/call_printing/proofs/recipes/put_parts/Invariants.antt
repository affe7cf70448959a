use Rattle.std.proofs.Common.{◌≡◌, ◌++◌, take, drop, vec_items}
use Rattle.std.specs.List.{flat_map}
use Rattle.wire.specs.Said.{parts_in}
use Rattle.call_lines.specs.Written.{another_part}
use Rattle.call_printing.proofs.recipes.put_parts.Given as goal

abbrev pub invariant-loop-part : goal.invariant-loop-part
invariant-loop-part l = vec_items l.out ≡ vec_items l.initial.out ++ flat_map another_part (take l.part-index (drop 1 (parts_in l.parts)))
