use Rattle.std.proofs.Common.{◌≡◌, ◌+◌, ◌-◌, ◌*◌, ◌<◌, ◌∷◌, length, set, ap, arith, rules}
use Rattle.fields.specs.Bytes.{all_fields}
use borrow.Rule.Slice.PartMut.{put_mid}
use Rattle.fields.proofs.Numbers.{length_fields}
use Rattle.fields.proofs.Rows.{too_long, put_row}
use Rattle.fields.proofs.writing.put_fields.Goals as goal

pub returns-then-out-size : goal.returns-then-out-size
returns-then-out-size g c =
    let n : length c.args.fields ≡ g.row.N = search rules in
    let h : length c.args.out.now < 1 + 8 * g.row.N = search rules in
    too_long (c.args.kind ∷ all_fields c.args.fields) c.args.out.now (1 + 8 * g.row.N) (omega (arith, length_fields c.args.fields)) h

pub returns : goal.returns
returns g c =
    let n : length c.args.fields ≡ g.row.N = search rules in
    let l : length (all_fields c.args.fields) ≡ 8 * g.row.N = omega (arith, length_fields c.args.fields) in
    let size : c.row_size-size.result ≡ 1 + 8 * g.row.N = search rules in
    put_row c.args.out.now _ (all_fields c.args.fields) c.args.kind c.row_size-size.result (omega arith) (omega arith)
    (ap (put_mid 1 (c.row_size-size.result - 1) (set c.args.out.now 0 c.args.kind)) c.fill_row.ensures)
