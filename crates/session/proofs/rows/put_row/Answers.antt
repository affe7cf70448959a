use Rattle.std.proofs.Common.{ℕ, List, ◌++◌, length, vec_items, sym, ap, ◌∙◌, append_assoc}
use Rattle.fields.specs.Bytes.{field_bytes}
use Rattle.fields.proofs.Numbers.{field_bytes_are}
use Rattle.session.proofs.rows.put_row.Goals as goal

pub returns : goal.returns
returns c =
    c.in_ok-extend_from_slice-2.ensures.items
    ∙ ap (λ (x : List ℕ). x ++ c.args.row.now)
    (c.in_ok-extend_from_slice.ensures.items ∙ ap (λ (x : List ℕ). vec_items c.args.out.now ++ x) (c.to_le_bytes-size.ensures ∙ sym (field_bytes_are (length c.args.row.now))))
    ∙ append_assoc (vec_items c.args.out.now) (field_bytes (length c.args.row.now)) c.args.row.now
