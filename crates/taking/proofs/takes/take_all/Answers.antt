use Rattle.std.proofs.Common.{ap, ◌∙◌, arith}
use Rattle.memory.specs.Lent.{words}
use Rattle.taking.specs.Takes.{taken_each, take_all, Tally, tally, nothing_taken}
use Rattle.taking.proofs.Tallies.{tallied_cost}
use Rattle.taking.proofs.takes.take_all.Goals as goal

pub returns-clause-cost : goal.returns-clause-cost
unfolding take_all
returns-clause-cost c =
    let ps = (taken_each c.args.wants.now c.args.memory.now.limits 0 (words c.args.memory.now)).parts in
    ap (λ (t : Tally). t.taken.cost) c.take_each-taken.ensures.lines ∙ tallied_cost ps (tally c.args.answer.now nothing_taken) (omega arith)
