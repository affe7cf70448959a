use Rattle.std.proofs.Common.{◌≡◌, ℕ, ◌-◌, sym, ap, ◌∙◌, arith}
use Rattle.std.proofs.lemmas.Bool.{lt-ltb}
use Rattle.layout.specs.declared.limits.Limits.{Limits}
use Rattle.links.specs.Walk.{cells_left, cells_in}
use Rattle.memory.specs.Lent.{seen}
use Rattle.store.specs.Steps.{sum}
use Rattle.records.specs.State.{State}
use Rattle.records.specs.declared.lot.Lot.{Lot}
use Rattle.taking.specs.Parts.{part_of}
use Rattle.taking.proofs.Along.{cost_along, cost_row, cost_none, along_enough, along_more}
use Rattle.taking.proofs.costs.cost_of.Goals as goal

pub returns-then-want-view : goal.returns-then-want-view
returns-then-want-view c = cost_none c.args.view.limits (seen c.args.view) c.args.want c.if-want-view.true

pub loop-cell-init : goal.loop-cell-init
loop-cell-init c =
    ap (λ cs. cost_along c.args.view.limits (seen c.args.view) cs c.args.want.pieces 0)
    (ap cells_left c.into_iter-cell-iterator.ensures.into_iter_gives ∙ c.cells_of-cell-items.ensures ∙ ap (λ h. cells_in h c.args.view.narrow.now c.args.want.item) c.lot_rows.ensures)
    ∙ cost_row c.args.view.limits (seen c.args.view) c.args.want (lt-ltb _ _ (omega (arith, c.if-want-view.false)))

pub returns-then-left-eq0 : goal.returns-then-left-eq0
returns-then-left-eq0 c =
    sym (along_enough c.args.view.limits (seen c.args.view) _ c.loop-cell.left c.loop-cell.cost c.if-left-eq0.true) ∙ c.loop-cell.invariant

pub loop-cell-preserved : goal.loop-cell-preserved
loop-cell-preserved c =
    let l : Limits = c.args.view.limits in
    let s : State = seen c.args.view in
    let q : ℕ = c.loop-cell.left in
    let part : c.part_of-part.result ≡ part_of c.lot.result q = c.part_of-part.ensures.value in
    let more : c.saturating_add-cost.result ≡ sum c.loop-cell.cost c.part_of-part.result.cost = omega (arith, c.saturating_add-cost.ensures) in
    ap (λ n. cost_along l s (cells_left c.next.new.self) (q - n) c.saturating_add-cost.result) c.from-left.ensures
    ∙ ap (cost_along l s (cells_left c.next.new.self) (q - c.part_of-part.result.pieces)) more
    ∙ ap (λ (p : Lot). cost_along l s (cells_left c.next.new.self) (q - p.pieces) (sum c.loop-cell.cost p.cost)) (part ∙ ap (λ (x : Lot). part_of x q) c.lot.ensures)
    ∙ sym (along_more l s c.in-Some.cell (cells_left c.next.new.self) q c.loop-cell.cost c.if-left-eq0.false)
    ∙ ap (λ cs. cost_along l s cs q c.loop-cell.cost) (sym c.in-Some.ensures.steps)
    ∙ c.loop-cell.invariant

pub returns : goal.returns
returns c = ap (λ cs. cost_along c.args.view.limits (seen c.args.view) cs c.loop-cell.left c.loop-cell.cost) (sym c.in-None.ensures.steps.0) ∙ c.loop-cell.invariant
