use Rattle.std.proofs.Common.{rules, arith, sym, ◌∙◌}
use Rattle.links.proofs.Walk.{spent, ended, moved}
use Rattle.links.proofs.cells.CellsIterator.next.Goals as goal

pub returns-then-self-eq0-clause-steps : goal.returns-then-self-eq0-clause-steps
returns-then-self-eq0-clause-steps c = let e = spent c.args.self.now (omega arith) in (e, e)

pub returns-in_err-cell-clause-steps : goal.returns-in_err-cell-clause-steps
returns-in_err-cell-clause-steps c = let e = ended c.args.self.now (sym c.in_err-cell.was ∙ c.following.ensures) in rw c.from_residual.ensures (e, e)

pub returns-clause-steps : goal.returns-clause-steps
returns-clause-steps c = moved c.args.self.now c.in_ok-cell.cell (omega arith) (sym c.in_ok-cell.was ∙ c.following.ensures)

pub returns-clause-goes : goal.returns-clause-goes
returns-clause-goes c =
    let e = moved c.args.self.now c.in_ok-cell.cell (omega arith) (sym c.in_ok-cell.was ∙ c.following.ensures) in
    search rules
