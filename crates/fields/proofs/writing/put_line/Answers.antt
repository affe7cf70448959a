use Rattle.std.proofs.Common.{ℕ, ◌+◌, ◌-◌, ◌*◌, ◌≡◌, List, length, ap, arith, rules}
use borrow.Rule.Slice.PartMut.{put_mid}
use Rattle.fields.specs.Bytes.{all_fields}
use Rattle.fields.proofs.Numbers.{length_fields}
use Rattle.fields.proofs.Rows.{line_fits, line_too_long}
use Rattle.fields.proofs.writing.put_line.Goals as goal

pub returns-then-lines-k : goal.returns-then-lines-k
returns-then-lines-k c = line_too_long (all_fields c.args.fields) c.args.out.now c.args.k (omega arith)

pub returns : goal.returns
returns c =
    let four : length c.args.fields ≡ 4 = search rules in
    line_fits (all_fields c.args.fields) c.args.out.now _ c.args.k _
    (omega (arith, length_fields c.args.fields, four)) (omega arith) (omega arith)
    (ap (λ (xs : List ℕ). put_mid (9 + 32 * c.args.k) (9 + 32 * c.args.k + 32 - (9 + 32 * c.args.k)) c.args.out.now xs) c.fill_row.ensures)
