-- The laws of taking, together. Assumes nothing.
use Rattle.std.proofs.Common.{ℕ, ◌+◌, ◌<◌, List, [], ◌∷◌, ◌++◌, sym, ap, ◌∙◌, subst, arith}
use Rattle.firm.specs.Stock as firm
use Rattle.firm.specs.Stock.{take, on_hand, all_worth}
use Rattle.firm.proofs.Taking.{taking_keeps, oldest_first}
use Rattle.layout.specs.Layout.{Good}
use Rattle.layout.specs.declared.limits.Limits.{Limits}
use Rattle.records.specs.State.{State}
use Rattle.store.specs.View.{Kept, Stands}
use Rattle.taking.specs.declared.wants.Want.{Want}
use Rattle.taking.specs.Laws.{LotsMean, Priced, LotsLeft, Took, Takes, LosesNothing, OldestFirst, TakesFew, TakingLaws}
use Rattle.taking.specs.Takes.{take_all}
use Rattle.taking.proofs.AllTaking.{each_taken, wanted_costs, one_wanted, recipe_wanted}
use Rattle.taking.proofs.Costing.{costs}
use Rattle.taking.proofs.OneItem.{one_item}
use Rattle.taking.proofs.CountingOff.{counted_few}
use Rattle.taking.proofs.Tallies.{tells, counts_lines, tells_nothing, sums_costs}
use Rattle.taking.proofs.Turns.{each_few}

pub takes : Takes
unfolding take_all
takes l s b ls ws good st mean priced known few =
    each_taken l b ws ls 0 s b.lots_of b.lots_used good priced st mean known (omega (arith, few, st.lots.free, good.lots))

-- one want, taken of the books
one_taken : (l : Limits) (s : State) (b : Kept) (ls : List firm.Lot) (w : Want) → Good l → Stands l s b → LotsMean l b.lots_of b.lots_used ls → Priced ls → w.item < l.items →
    Took l b (take_all l (w ∷ []) s) (take ls w.item w.pieces)
one_taken l s b ls w good st mean priced known =
    subst (Took l b (take_all l (w ∷ []) s)) (one_wanted ls w) (takes l s b ls (w ∷ []) good st mean priced (known, tt) (omega arith))

loses_nothing : LosesNothing
loses_nothing l s b ls w good st mean priced known =
    let t = one_taken l s b ls w good st mean priced known in
    let k = taking_keeps ls w.item w.pieces in (
      (take ls w.item w.pieces).left,
      t.lots,
      omega (arith, k.0, k.1, ap all_worth t.parts),
      omega (arith, k.3, ap (λ (ps : List firm.Lot). on_hand ps w.item) t.parts),
      k.4,
    )

oldest_left : OldestFirst
oldest_left l s b xs ys x w good st mean priced known same few =
    let t = one_taken l s b (xs ++ (x ∷ ys)) w good st mean priced known in
    let o = oldest_first xs ys x w.pieces (subst (λ (i : ℕ). w.pieces < x.pieces + on_hand xs i) (sym same) few) in (
      o.0,
      subst (LotsLeft l (take_all l (w ∷ []) s).slices b) (ap (λ (i : ℕ). (take (xs ++ (x ∷ ys)) i w.pieces).left) (sym same) ∙ o.1) t.lots,
    )

pub takes_few : TakesFew
unfolding take_all
takes_few l ws s = omega (arith, each_few ws l 0 s (omega arith))

pub taking_laws : TakingLaws
taking_laws = record {
  costs = costs;
  takes = takes;
  loses_nothing = loses_nothing;
  oldest_first = oldest_left;
  takes_few = takes_few;
  counted_few = counted_few;
  tells = tells;
  counts_lines = counts_lines;
  tells_nothing = tells_nothing;
  sums_costs = sums_costs;
  wanted_costs = wanted_costs;
  one_item = one_item;
  one_wanted = one_wanted;
  recipe_wanted = recipe_wanted;
}
