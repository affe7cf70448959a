use Rattle.std.proofs.Common.{◌≡◌, ◌+◌, ◌≤◌, ◌&&◌, leb, true, length, sym, ◌∙◌, arith}
use Rattle.std.proofs.lemmas.Bool.{and_parts, leb-true, lt-ltb}
use Rattle.layout.specs.Layout.{lot_at, wide_lot_at}
use Rattle.memory.proofs.lent.View.lot.Goals as goal

pub read_there-requires-clause-wide_lies : goal.read_there-requires-clause-wide_lies
read_there-requires-clause-wide_lies c =
    let e = sym (c.lots_there.ensures c.args.lot) ∙ lt-ltb c.args.lot c.lots_there.result (omega (arith, c.if-lot-lots_there.false)) in
    let lies : wide_lot_at c.args.self.limits c.args.lot + 2 ≤ length c.args.self.wide.now = leb-true _ _ (and_parts _ _ e).0 in
    omega (arith, c.wide_lot_at.ensures, lies)

pub read_there-requires-clause-narrow_lies : goal.read_there-requires-clause-narrow_lies
read_there-requires-clause-narrow_lies c =
    let e = sym (c.lots_there.ensures c.args.lot) ∙ lt-ltb c.args.lot c.lots_there.result (omega (arith, c.if-lot-lots_there.false)) in
    let lies : lot_at c.args.self.limits c.args.lot + 2 ≤ length c.args.self.narrow.now = leb-true _ _ (and_parts _ _ e).1 in
    omega (arith, c.lot_at-at.ensures, lies)
