-- What is wanted is taken and counted off: memory has the lots that are left, and their sums. Assumes nothing.
use Rattle.std.proofs.Common.{◌≡◌, ℕ, ◌+◌, ◌-◌, ◌^◌, ◌<◌, ◌≤◌, List, [], ◌∷◌, ◌++◌, length, refl, ap, ◌∙◌, ap₂, arith}
use Rattle.firm.specs.Stock.{take, on_hand, all_worth}
use Rattle.firm.specs.Stock as stock
use Rattle.firm.proofs.Taking.{take_keeps}
use Rattle.layout.specs.Layout.{Good}
use Rattle.layout.specs.declared.limits.Limits.{Limits}
use Rattle.records.specs.State.{State}
use Rattle.records.specs.declared.lot.Lot.{Lot}
use Rattle.records.specs.declared.stock.Stock.{Stock}
use Rattle.store.specs.Laws.{with_stocks, stock_without}
use Rattle.store.specs.View.{Kept, Stands}
use Rattle.store.proofs.SumLaws.{counts_out}
use Rattle.taking.specs.Laws.{LotsMean, Priced, KnownItems, with_all_lots}
use Rattle.taking.specs.Takes.{Taking, want_taken, most_lines, costs_more, off, counted_each, take_counted}
use Rattle.taking.specs.Wanted.{wanted}
use Rattle.taking.specs.declared.wants.Want.{Want}
use Rattle.taking.proofs.AllTaking.{take_few, one_taken, priced_left}
use Rattle.taking.proofs.StepKeeping.{counted_keep}
use Rattle.session.specs.Means.{stock_sums, Sized}
use Rattle.session.proofs.Counting.{stock_less}
use Rattle.session.proofs.Small.{steps_sized, sized_counted_out}
use Rattle.session.proofs.Wanting.{total, total_here, rest_lies}

-- sums of lots
abbrev pub SumsOf : Limits → (ℕ → Stock) → List stock.Lot → Type 0
SumsOf l stocks ls = (i : ℕ) → i < l.items → stocks i ≡ stock_sums ls i

-- what was taken, and memory that has what is left and counts it
pub record TookCounted (l : Limits) (b : Kept) (t : Taking) (r : stock.Taken) : Type 0 where
  pub of : ℕ → List Lot
  pub many : ℕ
  pub stocks : ℕ → Stock
  pub stands : Stands l t.slices (with_stocks stocks (with_all_lots of many b))
  pub means : LotsMean l of many r.left
  pub sums : SumsOf l stocks r.left
  pub parts : t.parts ≡ r.parts

module _ (l : Limits) (b : Kept) (good : Good l) where
  -- so many pieces lie there, and what was taken before and all lots cost no more than a word holds
  each_took : (ws : List Want) (ls : List stock.Lot) (n x : ℕ) (s : State) (of : ℕ → List Lot) (many : ℕ) (stocks : ℕ → Stock) → Priced ls →
      Stands l s (with_stocks stocks (with_all_lots of many b)) → LotsMean l of many ls → SumsOf l stocks ls → KnownItems l ws → n + many + length ws ≤ most_lines l →
      x + all_worth ls < 2 ^ 64 → ((i : ℕ) → total ws i ≤ on_hand ls i) → TookCounted l b (counted_each ws l n x s) (wanted ls ws)
  unfolding wanted
  each_took [] ls n x s of many stocks priced st mean sums known room few lie =
      record { of = of; many = many; stocks = stocks; stands = st; means = mean; sums = sums; parts = refl }
  each_took (w ∷ ws) ls n x s of many stocks priced st mean sums known room few lie =
      let one = one_taken l (with_stocks stocks b) good ls priced s of many st mean (most_lines l - n) w.item w.pieces (omega arith) known.0 in
      let t : Taking = want_taken l n w s in
      let r : stock.Taken = take ls w.item w.pieces in
      let keeps = take_keeps ls w.item w.pieces in
      let y : ℕ = costs_more x t.parts in
      let cost : y - x ≡ r.cost = omega (arith, ap all_worth one.parts, keeps.0, keeps.1, few) in
      let stands = counts_out l t.slices (with_all_lots one.lots.of one.lots.many (with_stocks stocks b)) w.item w.pieces (y - x) good one.lots.stands known.0 in
      let less : SumsOf l (λ i. stock_without w.item w.pieces (y - x) i (stocks i)) r.left =
      λ i lt. ap (λ (c : ℕ). stock_without w.item w.pieces c i (stocks i)) cost ∙ stock_less ls w.item w.pieces i (stocks i) (sums i lt) (omega (arith, lie w.item, total_here w ws w.item refl)) in
      let rest = each_took ws r.left (n + length t.parts) y (off l w (y - x) t.slices) one.lots.of one.lots.many (λ i. stock_without w.item w.pieces (y - x) i (stocks i))
      (priced_left ls w.item w.pieces priced) stands one.lots.means less known.1 (omega (arith, room, one.lots.means.used, mean.used, ap length one.parts, take_few ls w.item w.pieces))
      (omega (arith, ap all_worth one.parts, keeps.0, keeps.1, few)) (rest_lies ls w ws lie) in
      record {
        of = rest.of;
        many = rest.many;
        stocks = rest.stocks;
        stands = rest.stands;
        means = rest.means;
        sums = rest.sums;
        parts = ap₂ (λ (ps qs : List stock.Lot). ps ++ qs) one.parts rest.parts;
      }

  pub took_counted : (ws : List Want) (ls : List stock.Lot) (s : State) → Priced ls → Stands l s b → LotsMean l b.lots_of b.lots_used ls → SumsOf l b.stocks ls → KnownItems l ws →
      length ws ≤ 256 → length ls ≤ l.lots → ((i : ℕ) → total ws i ≤ on_hand ls i) → TookCounted l b (take_counted l ws s) (wanted ls ws)
  unfolding take_counted
  took_counted ws ls s priced st mean sums known long fit lie =
      each_took ws ls 0 0 s b.lots_of b.lots_used b.stocks priced st mean sums known (omega (arith, good.lots, mean.used, long, fit)) (omega (arith, priced.worth)) lie

-- words stay as many and as small
pub sized_counted : (l : Limits) (ws : List Want) (s : State) → Good l → Sized l s → Sized l (take_counted l ws s).slices
sized_counted l ws s good h = counted_keep l (Sized l) (steps_sized l good) (λ w x t. sized_counted_out l w.item w.pieces x t) ws s h
