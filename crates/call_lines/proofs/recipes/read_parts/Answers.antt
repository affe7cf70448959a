use Rattle.std.proofs.Common.{ℕ, Ok, vec_items, sym, ap, ◌∙◌, true, false, arith}
use Rattle.std.specs.Result.{is_ok}
use Rattle.words.specs.Readers.{end}
use Rattle.call_lines.proofs.PartSteps.{end_read, ended, misfit, full, another}
use Rattle.call_lines.proofs.Stopping.{gives_at}
use Rattle.call_lines.proofs.recipes.read_parts.Goals as goal

pub returns-then-is_ok : goal.returns-then-is_ok
returns-then-is_ok c =
    ended c.args.line.now c.loop-count.rest.now (vec_items c.args.out.now) (vec_items c.loop-count.out) c.loop-count.count c.loop-count.invariant
    (end_read c.read_end.result (end c.loop-count.rest.now) true c.read_end.ensures (sym c.if-is_ok.ensures.value))

pub returns-in_err-part : goal.returns-in_err-part
returns-in_err-part c =
    gives_at _ c.from_residual.result c.in_err-part.field-0.0 _ c.from_residual.ensures.1
    (misfit c.args.line.now c.loop-count.rest.now (vec_items c.args.out.now) (vec_items c.loop-count.out) c.in_err-part.field-0.0.now c.loop-count.count c.loop-count.invariant c.loop-count-test.true
    (end_read c.read_end.result (end c.loop-count.rest.now) false c.read_end.ensures (sym c.if-is_ok.ensures.value)) c.in_err-part.ensures)

pub loop-count-preserved : goal.loop-count-preserved
loop-count-preserved c =
    another c.args.line.now c.loop-count.rest.now (vec_items c.args.out.now) (vec_items c.loop-count.out) (vec_items c.put_part.new.out) c.in_ok-part.after.now
    (c.in_ok-part.part.item, c.in_ok-part.part.each) c.loop-count.count c.loop-count.invariant c.loop-count-test.true
    (end_read c.read_end.result (end c.loop-count.rest.now) false c.read_end.ensures (sym c.if-is_ok.ensures.value)) c.in_ok-part.ensures c.in_ok-put_part.ensures

pub returns-in_err-read_end : goal.returns-in_err-read_end
returns-in_err-read_end c =
    gives_at _ c.from_residual-in_err-read_end.result c.in_err-read_end.field-0.0 _ c.from_residual-in_err-read_end.ensures.1
    (full c.args.line.now c.loop-count.rest.now (vec_items c.args.out.now) (vec_items c.loop-count.out) c.in_err-read_end.field-0.0.now c.loop-count.count
    c.loop-count.invariant c.loop-count-test.false c.in_err-read_end.ensures)

pub returns : goal.returns
returns c =
    ap (λ (n : ℕ). Ok (n, vec_items c.loop-count.out)) (omega arith)
    ∙ ended c.args.line.now c.loop-count.rest.now (vec_items c.args.out.now) (vec_items c.loop-count.out) c.loop-count.count c.loop-count.invariant
    (sym (ap is_ok c.in_ok-read_end.ensures))
