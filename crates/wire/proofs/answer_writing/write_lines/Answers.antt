use Rattle.std.proofs.Common.{ℕ, ◌+◌, ◌-◌, List, length, sym, ap, ◌∙◌, arith}
use borrow.Rule.Slice.PartMut.{put_mid}
use Rattle.std.proofs.lemmas.Bool.{eqb-true}
use Rattle.wire.specs.Told.{answer_number}
use Rattle.wire.proofs.Heads.{head_goes_in}
use Rattle.wire.proofs.AnswerBytes.{lines_too_long, lines_fit, rows_put}
use Rattle.wire.proofs.answer_writing.write_lines.Goals as goal

pub returns-then-out-size : goal.returns-then-out-size
returns-then-out-size g c =
    let kind = answer_number g.L.Line.KIND in
    let m = eqb-true _ _ (sym c.whole.ensures ∙ c.if-not-whole.false) in
    lines_too_long kind c.args.lines.now c.args.out.now m (omega arith)
    ∙ rows_put g.L.Row.bytes_of g.L.Row.told_in kind c.args.lines.now c.args.out.now _ _ (λ i. omega (arith, c.type_inv.lines i)) g.met.L.Row.by_fields (g.met.L.Row.row_by_row c.args.lines.now) (g.met.L.Line.line_by_line c.args.lines.now)

pub returns-in_err-begin : goal.returns-in_err-begin
returns-in_err-begin g c = absurd (head_goes_in (answer_number g.L.Line.KIND) c.count.result c.args.out.now c.begin.new.out (omega arith) c.in_err-begin.ensures)

pub returns : goal.returns
returns g c =
    let kind = answer_number g.L.Line.KIND in
    let m = eqb-true _ _ (sym c.whole.ensures ∙ c.if-not-whole.false) in
    lines_fit kind (9 + length c.args.lines.now - 9) c.begin.result c.args.lines.now c.args.out.now c.begin.new.out _ m (omega arith) (omega arith)
    (rw (← c.count.ensures.exact) c.begin.ensures) (ap (λ (xs : List ℕ). put_mid 9 (9 + length c.args.lines.now - 9) c.begin.new.out xs) c.copy_from_slice.ensures.after)
    ∙ rows_put g.L.Row.bytes_of g.L.Row.told_in kind c.args.lines.now c.args.out.now _ _ (λ i. omega (arith, c.type_inv.lines i)) g.met.L.Row.by_fields (g.met.L.Row.row_by_row c.args.lines.now) (g.met.L.Line.line_by_line c.args.lines.now)
