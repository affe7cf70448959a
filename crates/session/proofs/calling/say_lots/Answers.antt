use Rattle.std.proofs.Common.{ℕ, ◌≤◌, ltb, leb, length, sym, ap, ◌∙◌, subst, arith}
use Rattle.std.proofs.lemmas.Bool.{cond-true, le-leb}
use Rattle.firm.specs.Calls.{Answer, lots}
use Rattle.layout.specs.Layout.{answer_need}
use Rattle.questions.specs.Listing.{lots_met}
use Rattle.questions.proofs.Listed.{met_few}
use Rattle.memory.specs.Lent.{seen}
use Rattle.wire.specs.Answers.{bytes_of_answer}
use Rattle.session.specs.Calling.{Said}
use Rattle.session.proofs.Saying.{said_by, some_item, taken_is}
use Rattle.session.specs.Lengths.{lots_long}
use Rattle.session.proofs.calling.say_lots.Goals as goal

pub returns-in-Some : goal.returns-in-Some
returns-in-Some c =
    let s = seen c.args.view in
    let known = some_item (ltb c.args.item c.args.view.limits.items) c.args.item c.in-Some.item c.in-Some.ensures in
    let ls = lots_met c.args.view.limits c.in-Some.item s in
    let room : length (bytes_of_answer (lots ls)) ≤ length c.args.out.now = omega (arith, c.requires, lots_long ls, met_few c.args.view.limits s c.in-Some.item) in
    let said : Said (lots ls) c.unwrap_or.result c.args.out.now c.write_lots.new.answer =
    said_by (lots ls) c.write_lots.result c.unwrap_or.result c.args.out.now c.write_lots.new.answer room
    (c.write_lots.ensures ∙ cond-true (leb (answer_need c.args.view.limits) (length c.args.out.now)) _ _ (le-leb _ _ c.requires)) (c.unwrap_or.ensures ∙ taken_is c.write_lots.result) in
    subst (λ (a : Answer). Said a c.unwrap_or.result c.args.out.now c.write_lots.new.answer)
    (ap (λ (i : ℕ). lots (lots_met c.args.view.limits i s)) known.1 ∙ sym (cond-true (ltb c.args.item c.args.view.limits.items) _ _ known.0)) said
