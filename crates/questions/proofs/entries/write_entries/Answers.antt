use Rattle.std.proofs.Common.{◌≤◌, length, ap, inl, inr, ⊎_elim, arith}
use Rattle.fields.specs.Written.{Written}
use Rattle.layout.specs.Layout.{answer_need}
use Rattle.memory.specs.Lent.{seen}
use Rattle.questions.proofs.CountedDown.{counted_whole, counted_short}
use Rattle.questions.proofs.entries.write_entries.Goals as goal

pub returns-then-answer-answer_need : goal.returns-then-answer-answer_need
returns-then-answer-answer_need c =
    counted_short c.args.view.limits (seen c.args.view) c.args.first c.args.count c.min-first.result c.min-many.result c.args.answer.now
    (omega (arith, c.min-first.ensures, c.from.ensures, c.count-entries.ensures)) (omega (arith, c.min-many.ensures, c.count-entries.ensures))
    (⊎_elim (λ lt. inl (omega (arith, c.answer_need.ensures, lt))) (λ lt. inr (omega (arith, lt.1))) c.then-answer-answer_need.either)

pub returns : goal.returns
returns c =
    let room : answer_need c.args.view.limits ≤ length c.args.answer.now = omega (arith, c.if-answer-answer_need.false, c.answer_need.ensures) in
    counted_whole c.args.view.limits (seen c.args.view) c.args.first c.args.count c.min-first.result c.min-many.result c.args.answer.now c.begin.new.out c.put_entries.new.answer
    (omega (arith, c.min-first.ensures, c.from.ensures, c.count-entries.ensures)) (omega (arith, c.min-many.ensures, c.count-entries.ensures)) (omega (arith, c.if-answer-length.false)) room
    (rw (← c.from-2.ensures) (ap (λ (w : Written). w.left) c.begin.ensures)) c.put_entries.ensures
