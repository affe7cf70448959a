use Rattle.std.proofs.Common.{◌≡◌, ◌++◌, take, vec_items}
use Rattle.fields.specs.Bytes.{all_fields}
use Rattle.call_lines.proofs.rows.put_fields.Given as goal

abbrev pub invariant-loop-field : goal.invariant-loop-field
invariant-loop-field l = vec_items l.out ≡ vec_items l.initial.out ++ all_fields (take l.field-index l.fields)
