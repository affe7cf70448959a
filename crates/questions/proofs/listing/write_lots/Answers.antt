use Rattle.std.proofs.Common.{◌≤◌, length, ap, arith}
use Rattle.fields.specs.Written.{Written}
use Rattle.layout.specs.Layout.{answer_need}
use Rattle.memory.specs.Lent.{seen}
use Rattle.questions.specs.Listing.{lots_met}
use Rattle.questions.proofs.Listed.{listed_whole}
use Rattle.questions.proofs.listing.write_lots.Goals as goal

pub returns : goal.returns
returns c =
    let room : answer_need c.args.view.limits ≤ length c.args.answer.now = omega (arith, c.if-answer-answer_need.false, c.answer_need.ensures) in
    listed_whole c.args.view.limits (lots_met c.args.view.limits c.args.item (seen c.args.view)) c.put_lots-count.result
    c.args.answer.now c.put_lots-count.new.answer c.begin.new.out c.put_lots-count.ensures.count c.put_lots-count.ensures.few room
    c.put_lots-count.ensures.lines (rw (← c.from.ensures) (ap (λ (w : Written). w.left) c.begin.ensures))
