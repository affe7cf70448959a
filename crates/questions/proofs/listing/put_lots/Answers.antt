use Rattle.std.proofs.Common.{ap, ◌∙◌, arith, rules}
use Rattle.fields.specs.Written.{Written, line_put}
use Rattle.firm.specs.Stock.{Lot}
use Rattle.links.specs.Walk.{cells_left, cells_in}
use Rattle.memory.specs.Lent.{seen}
use Rattle.wire.specs.Rows.{lot_bytes}
use Rattle.questions.specs.Listing.{lot_of}
use Rattle.questions.proofs.Listed.{listed_begins, listed_turns, listed_ends, room_left}
use Rattle.questions.proofs.listing.put_lots.Goals as goal

pub loop-cell-init : goal.loop-cell-init
loop-cell-init c =
    listed_begins c.args.view.limits c.args.item (seen c.args.view) c.args.answer.now _
    (ap cells_left c.into_iter-cell-iterator.ensures.into_iter_gives ∙ c.cells_of-cell-items.ensures ∙ ap (λ h. cells_in h c.args.view.narrow.now c.args.item) c.lot_rows.ensures)
    (omega (arith, c.requires))

pub overflow_add-count : goal.overflow_add-count
overflow_add-count c =
    let few = room_left c.args.view.limits c.args.item (seen c.args.view) c.args.answer.now c.loop-cell.answer c.loop-cell.yielded _ c.loop-cell.count c.in-Some.cell _ c.loop-cell.invariant c.in-Some.ensures.steps in
    search rules

pub loop-cell-preserved : goal.loop-cell-preserved
loop-cell-preserved c =
    listed_turns c.args.view.limits c.args.item (seen c.args.view) c.args.answer.now c.loop-cell.answer c.put.new.out c.loop-cell.yielded _ c.loop-cell.count c.in-Some.cell _
    c.loop-cell.invariant c.in-Some.ensures.steps c.requires
    (ap (λ (w : Written). w.left) c.put.ensures
    ∙ ap (λ (x : Lot). (line_put c.loop-cell.count (lot_bytes x) c.loop-cell.answer).left) (c.line.ensures ∙ ap lot_of c.lot.ensures))

pub returns-clause-count : goal.returns-clause-count
returns-clause-count c =
    (listed_ends c.args.view.limits c.args.item (seen c.args.view) c.args.answer.now c.loop-cell.answer c.loop-cell.yielded _ c.loop-cell.count c.loop-cell.invariant c.in-None.ensures.steps.0).counted

pub returns-clause-few : goal.returns-clause-few
returns-clause-few c =
    (listed_ends c.args.view.limits c.args.item (seen c.args.view) c.args.answer.now c.loop-cell.answer c.loop-cell.yielded _ c.loop-cell.count c.loop-cell.invariant c.in-None.ensures.steps.0).few

pub returns-clause-lines : goal.returns-clause-lines
returns-clause-lines c =
    (listed_ends c.args.view.limits c.args.item (seen c.args.view) c.args.answer.now c.loop-cell.answer c.loop-cell.yielded _ c.loop-cell.count c.loop-cell.invariant c.in-None.ensures.steps.0).lines
