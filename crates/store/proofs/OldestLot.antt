-- The oldest lot of an item, by its cell: it goes, or another takes its place. Assumes nothing.
use Rattle.std.proofs.Common.{◌≡◌, ℕ, ◌+◌, ◌-◌, ◌<◌, ◌⊎◌, List, [], ◌∷◌, map, length, Some, None, sym, refl, ap, ◌∙◌, ap₂, inl, inr, arith}
use Rattle.std.proofs.lemmas.Bool.{cases_eq}
use Rattle.layout.proofs.Owners.{differ}
use Rattle.layout.proofs.Placed.{lot_rows_placed, rows_kept}
use Rattle.layout.specs.Layout.{Good, lot_rows}
use Rattle.layout.specs.Words.{lots, lot_links}
use Rattle.layout.specs.declared.head.Counter.TheVariants.{Lots}
use Rattle.layout.specs.declared.limits.Limits.{Limits}
use Rattle.links.proofs.Counts.{apart, count_here, uses_row, two_rows}
use Rattle.links.proofs.Laws.{first_is, cell_is}
use Rattle.links.specs.Model.{row, count, first}
use Rattle.memory.proofs.Head.{count_kept}
use Rattle.memory.proofs.Slots.{lot_slots}
use Rattle.memory.specs.Books.{lot_record, put_lot}
use Rattle.memory.specs.Slots.{Within}
use Rattle.records.specs.State.{State, state}
use Rattle.records.specs.declared.lot.Lot.{Lot}
use Rattle.store.specs.Laws.{with_lots}
use Rattle.store.specs.Steps.{first_lot, lot_freed}
use Rattle.store.specs.View.{Kept, Stands}
use Rattle.store.proofs.Beside.{beside_lots_at_lots}
use Rattle.store.proofs.Kept.{map_same}
use Rattle.store.proofs.LotLaws.{beside, joined, some, lot_goes}
use Rattle.store.proofs.Tables.{at_same, at_other, when_lt}

-- A LOT y in place of the oldest of item i, in its cell c
module _ (l : Limits) (s : State) (b : Kept) (i : ℕ) (good : Good l) (st : Stands l s b) (it : i < l.items) (c : ℕ) (rest : List ℕ) (is : row st.lots.places i ≡ c ∷ rest) (y : Lot) where
  abbrev m : List (List ℕ)
  m = st.lots.places

  abbrev t : State
  t = put_lot l c y s

  inside : c < l.lots
  inside = cell_is (lot_rows l) s.narrow m i (lot_rows_placed l good).sound st.lots.held (omega (arith, good.items)) c (omega (arith, ap (count c) is, count_here c rest))

  w : Within lots l s t
  w = (lot_slots l).within c y s inside

  many : length m ≡ l.items + 1
  many = st.lots.held.many ∙ omega (arith, good.items)

  -- the cell stands nowhere else
  kept : (js : List ℕ) → count c js ≡ 0 → map (λ j. lot_record l j t) js ≡ map (λ j. lot_record l j s) js
  kept js none = map_same (λ j. lot_record l j t) (λ j. lot_record l j s) js (λ j u. (lot_slots l).other j c y s (λ e. apart c j js none u (sym e)))

  abbrev others : List Lot
  others = map (λ j. lot_record l j s) rest

  each : (k : ℕ) → k < l.items → map (λ j. lot_record l j t) (row m k) ≡ (with_lots i (y ∷ others) b.lots_used b).lots_of k
  each k lt = at (cases_eq k i)
    where
      at : (k ≡ i) ⊎ (k ≡ i → ⊥) → map (λ j. lot_record l j t) (row m k) ≡ (with_lots i (y ∷ others) b.lots_used b).lots_of k
      at (inl e) =
          ap (map (λ j. lot_record l j t)) (ap (row m) e ∙ is)
          ∙ ap₂ (λ (x : Lot) (xs : List Lot). x ∷ xs) ((lot_slots l).same c y s st.frame.roomy inside)
          (kept rest (omega (arith, ap (count c) is, count_here c rest, uses_row c m i (omega (arith, many)), st.lots.held.held.once c)))
          ∙ sym (at_same b.lots_of i k (y ∷ others) e)
      at (inr ne) =
          kept (row m k) (omega (arith, two_rows c m i k (omega (arith, many)) (omega (arith, many)) ne, st.lots.held.held.once c, ap (count c) is, count_here c rest))
          ∙ st.lots.each k lt ∙ sym (at_other b.lots_of i k (y ∷ others) ne)

  lot_set : Stands l t (with_lots i (y ∷ others) b.lots_used b)
  lot_set =
      joined l t b i (y ∷ others) b.lots_used (beside_lots_at_lots l s t b good w (beside l s b st))
      (record {
        places = m;
        held = rows_kept lot_links lots l (lot_rows l) s.narrow t.narrow m (lot_rows_placed l good) (differ _ _ (λ e. omega arith)) w.narrow st.lots.held;
        each = each;
        used = count_kept Lots lots l s.narrow t.narrow (differ _ _ (λ e. omega arith)) w.narrow ∙ st.lots.used;
        free = st.lots.free;
      })

-- THE OLDEST LOT of item i, in the cell c
pub record Oldest (l : Limits) (s : State) (b : Kept) (i c : ℕ) : Type 0 where
  pub others : List Lot
  pub lots : b.lots_of i ≡ lot_record l c s ∷ others
  pub used : 0 < b.lots_used
  pub goes : Stands l (state s.wide (lot_freed l i c s.narrow)) (with_lots i others (b.lots_used - 1) b)
  pub stays : (y : Lot) → Stands l (put_lot l c y s) (with_lots i (y ∷ others) b.lots_used b)

module _ (l : Limits) (s : State) (b : Kept) (i : ℕ) (good : Good l) (st : Stands l s b) (it : i < l.items) where
  starts : first_lot l i s.narrow ≡ first (row st.lots.places i)
  starts = when_lt i l.items _ _ it ∙ first_is (lot_rows l) s.narrow st.lots.places i (lot_rows_placed l good).sound st.lots.held (omega (arith, good.items))

  pub oldest : (c : ℕ) → first_lot l i s.narrow ≡ Some c → Oldest l s b i c
  oldest c is = by (row st.lots.places i) refl
    where
      by : (js : List ℕ) → row st.lots.places i ≡ js → Oldest l s b i c
      by [] e = let f : Some c ≡ first [] = sym is ∙ starts ∙ ap first e in let z : ◌≡◌ {A = ℕ} 0 1 = cc in absurd (omega arith)
      by (d ∷ rest) e =
          let f : Some c ≡ Some d = sym is ∙ starts ∙ ap first e in
          let same : d ≡ c = cc in
          let at : row st.lots.places i ≡ c ∷ rest = e ∙ ap (λ (j : ℕ). j ∷ rest) same in
          record {
            others = map (λ j. lot_record l j s) rest;
            lots = sym (st.lots.each i it) ∙ ap (map (λ j. lot_record l j s)) at;
            used = omega (arith, some l s b i (map (λ j. lot_record l j s) rest) good st it c rest at refl, st.lots.free);
            goes = lot_goes l s b i (map (λ j. lot_record l j s) rest) good st it c rest at refl;
            stays = lot_set l s b i good st it c rest at;
          }

  pub no_oldest : first_lot l i s.narrow ≡ None → b.lots_of i ≡ []
  no_oldest is = by (row st.lots.places i) refl
    where
      by : (js : List ℕ) → row st.lots.places i ≡ js → b.lots_of i ≡ []
      by [] e = sym (st.lots.each i it) ∙ ap (map (λ j. lot_record l j s)) e
      by (d ∷ rest) e = let f : None ≡ first (d ∷ rest) = sym is ∙ starts ∙ ap first e in let z : ◌≡◌ {A = ℕ} 0 1 = cc in absurd (omega arith)
