use Rattle.std.proofs.Common.{vec_items, rules}
use Rattle.wire.specs.Said.{part_said}
use Rattle.call_printing.proofs.PartRows.{no_parts, parts_first, parts_more, parts_all}
use Rattle.call_printing.proofs.recipes.put_parts.Goals as goal

pub returns-in_default : goal.returns-in_default
returns-in_default c = no_parts c.rows_in.result.now c.args.parts.now c.rows_in.ensures (vec_items c.args.out.now) c.in_default.len_below

pub loop-part-preserved : goal.loop-part-preserved
loop-part-preserved c =
    parts_more c.rows_in.result.now c.args.parts.now c.rows_in.ensures (vec_items c.put_part.new.out) (vec_items c.loop-part.out) (vec_items c.extend_from_slice.new.self) _
    c.loop-part.part-index (part_said c.of_fields-in-loop-part.result) c.numbers_of-in-loop-part.result (search rules) c.numbers_of-in-loop-part.ensures c.of_fields-in-loop-part.ensures
    c.loop-part.invariant c.in_ok-extend_from_slice.ensures.items c.in_ok-put_part-2.ensures

pub returns : goal.returns
returns c =
    let all = parts_all c.rows_in.result.now c.args.parts.now c.rows_in.ensures c.loop-part.part-index (search rules) in
    parts_first c.rows_in.result.now c.args.parts.now c.rows_in.ensures (vec_items c.args.out.now) (vec_items c.put_part.new.out) (vec_items c.loop-part.out)
    (part_said c.of_fields.result) c.numbers_of.result c.in-len1-up.len_at_least c.numbers_of.ensures c.of_fields.ensures c.in_ok-put_part.ensures (rw all at c.loop-part.invariant)
