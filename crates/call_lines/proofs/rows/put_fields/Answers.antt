use Rattle.std.proofs.Common.{ℕ, List, ◌++◌, get_or, take, vec_items, sym, ap, ◌∙◌}
use Rattle.std.proofs.lemmas.List.{take_more, flat_map_more}
use Rattle.fields.specs.Bytes.{field_bytes, all_fields}
use Rattle.fields.proofs.Numbers.{field_bytes_are}
use Rattle.call_lines.proofs.rows.put_fields.Goals as goal

pub loop-field-preserved : goal.loop-field-preserved
loop-field-preserved c =
    let i = c.loop-field.field-index in
    let fs = c.args.fields.now in
    c.in_ok-extend_from_slice.ensures.items
    ∙ ap (λ (x : List ℕ). vec_items c.loop-field.out ++ x) (c.to_le_bytes.ensures ∙ sym (field_bytes_are (get_or fs i 0)))
    ∙ ap (λ (x : List ℕ). x ++ field_bytes (get_or fs i 0)) c.loop-field.invariant
    ∙ flat_map_more field_bytes (vec_items c.args.out.now) (take i fs) (get_or fs i 0)
    ∙ ap (λ (x : List ℕ). vec_items c.args.out.now ++ all_fields x) (sym (take_more fs i 0 c.loop-field-test.true))
