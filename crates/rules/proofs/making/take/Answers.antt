use Rattle.std.proofs.Common.{◌∙◌, ap}
use Rattle.memory.specs.Lent.{words}
use Rattle.taking.specs.Takes.{Tally, take_counted}
use Rattle.taking.proofs.Tallies.{sums_costs}
use Rattle.rules.proofs.making.take.Goals as goal

pub returns-clause-cost : goal.returns-clause-cost
returns-clause-cost c =
    ap (λ (y : Tally). y.taken.cost) c.take_counted.ensures.answer ∙ sums_costs (take_counted c.args.memory.now.limits c.args.wants.now (words c.args.memory.now)).parts c.args.answer.now
