use Rattle.std.proofs.Common.{◌++◌, ap, ◌∙◌}
use Rattle.firm.specs.Answers.{answers}
use Rattle.firm.specs.Firm.{new_firm}
use Rattle.text.specs.Run.{books_limits, calls, printed, ran}
use Rattle.text.proofs.running.run.Goals as goal

pub returns : goal.returns
unfolding ran
returns c =
    let opened = c.in_ok-books.ensures in
    let told = c.in_ok-answer.ensures (books_limits c.args.limits) new_firm opened.1.keeps in
    (opened.0, told.text ∙ ap (λ x. x ++ printed (answers (books_limits c.args.limits) new_firm (calls c.args.text.now))) c.new-written.ensures.items)
