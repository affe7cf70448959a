use Rattle.std.proofs.Common.{◌∙◌, sym, slice_index}
use Rattle.fields.proofs.Numbers.{field_bytes_are}
use Rattle.fields.proofs.writing.fn.fill_row.from_fn.Goals as goal

pub returns : goal.returns
returns g c = c.to_le_bytes.ensures ∙ sym (field_bytes_are (slice_index c.captures.fields c.args.k))
