use Rattle.std.proofs.Common.{◌*◌, Some, drop, sym, ap, ◌∙◌}
use Rattle.std.specs.Option.{option_map}
use Rattle.wire.specs.Rows.{nth}
use Rattle.wire.proofs.RowLaws.{no_row, a_row}
use Rattle.wire.proofs.row.Row.nth.Goals as goal

pub nth_row-requires : goal.nth_row-requires
nth_row-requires g c = (g.met.Self.Row.fits_memory, g.met.Self.Row.has_fields)

pub returns-in_err-fields : goal.returns-in_err-fields
returns-in_err-fields g c =
    let r = g.Self.Row in
    ap (option_map r.told) c.from_residual.ensures ∙ no_row r.told_in g.row.N c.args.k c.args.bytes.now c.in_err-fields.ensures
    ∙ ap (λ xs. nth xs c.args.k) (sym (g.met.Self.Row.row_by_row c.args.bytes.now))

pub returns : goal.returns
returns g c =
    let r = g.Self.Row in
    let row = a_row r.told_in g.row.N c.args.k c.args.bytes.now c.in_ok-fields.fields c.in_ok-fields.ensures in
    ap Some (c.of_fields.ensures (drop (8 * g.row.N * c.args.k) c.args.bytes.now) row.0) ∙ row.1 ∙ ap (λ xs. nth xs c.args.k) (sym (g.met.Self.Row.row_by_row c.args.bytes.now))
