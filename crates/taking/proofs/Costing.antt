-- What pieces would cost, read along the item's row, is what the books say. Assumes nothing.
use Rattle.std.proofs.Common.{◌≡◌, ℕ, zero, suc, ◌+◌, ◌-◌, ◌*◌, ◌/◌, ◌^◌, ◌<◌, ◌≤◌, eqb, List, [], ◌∷◌, ◌++◌, map, length, Some, Option, sym, refl, ap, ◌∙◌, subst, ⊎_elim, append_assoc, arith}
use Rattle.std.proofs.lemmas.List.{length-map}
use Rattle.std.proofs.lemmas.Bool.{cases_eq, cases_lt, cond-false, ne_eqb}
use Rattle.firm.specs.Stock as firm
use Rattle.firm.specs.Stock.{take, of_item, all_worth}
use Rattle.firm.proofs.Taking.{share_le}
use Rattle.layout.specs.declared.limits.Limits.{Limits}
use Rattle.links.specs.Model.{first}
use Rattle.memory.specs.Books.{lot_record}
use Rattle.questions.specs.Listing.{lot_of}
use Rattle.store.specs.Steps.{sum}
use Rattle.records.specs.State.{State}
use Rattle.records.specs.declared.lot.Lot.{Lot}
use Rattle.store.proofs.LotLaws.{walks_lots}
use Rattle.store.specs.Laws.{Walk}
use Rattle.store.specs.Steps.{first_lot, lot_after}
use Rattle.taking.specs.Laws.{Priced, Costs}
use Rattle.taking.specs.Parts.{part_of}
use Rattle.taking.specs.Takes.{cost_on, cost_of}
use Rattle.taking.proofs.OneItem.{AllOf, take_nothing, take_lacking, take_whole, take_some, one_item, of_item_few, of_item_worth, of_item_small, all_of_item}
use Rattle.taking.proofs.RowTaking.{worth_cons, priced_rest, share_is, part_whole, part_less}
use Rattle.taking.proofs.Turns.{cost_enough}

-- THE WALK over the cells of item i's lots
module _ (l : Limits) (s : State) (i : ℕ) (xs : List Lot) (walk : Walk (first_lot l i s.narrow) (λ c. lot_after l c s.narrow) (λ c. lot_record l c s) xs) where
  -- the books' lots of some cells
  abbrev met : List ℕ → List firm.Lot
  met cs = map lot_of (map (λ c. lot_record l c s) cs)

  -- the last of k + 1 turns at most, at the cell c
  abbrev on : ℕ → Option ℕ → ℕ → ℕ → Lot → ℕ
  on k o q x p = cost_on k l s o (q - p.pieces) (sum x p.cost)

  turn : (k : ℕ) (bs cs : List ℕ) (c q x : ℕ) → walk.places ≡ bs ++ c ∷ cs → (q ≡ 0 → ⊥) → cost_on (suc k) l s (Some c) q x ≡ on k (first cs) q x (part_of (lot_record l c s) q)
  turn k bs cs c q x e ne =
      cond-false (eqb q 0) x _ (ne_eqb q 0 ne) ∙ ap (λ (o : Option ℕ). on k o q x (part_of (lot_record l c s) q)) (walk.goes_on bs cs c e)

  along : (k : ℕ) (bs cs : List ℕ) (q x : ℕ) → walk.places ≡ bs ++ cs → length cs ≤ k → AllOf i (met cs) → Priced (met cs) → x + all_worth (met cs) < 2 ^ 64 →
      cost_on k l s (first cs) q x ≡ x + (take (met cs) i q).cost
  along zero bs [] q x e few own priced fit = omega (arith, ap (λ (t : firm.Taken). t.cost) (take_lacking i q))
  along (suc k) bs [] q x e few own priced fit = omega (arith, ap (λ (t : firm.Taken). t.cost) (take_lacking i q))
  along zero bs (c ∷ cs) q x e few own priced fit = absurd (omega arith)
  along (suc k) bs (c ∷ cs) q x e few own priced fit =
      ⊎_elim (λ (z : q ≡ 0). cost_enough (suc k) l s (Some c) q x z ∙ omega (arith, ap (λ (t : firm.Taken). t.cost) (take_nothing (met (c ∷ cs)) i q z)))
      (λ (ne : q ≡ 0 → ⊥). ⊎_elim (part ne) (whole ne (λ (r : ℕ) (y : ℕ). along k (bs ++ c ∷ []) cs r y)) (cases_lt q (lot_record l c s).pieces)) (cases_eq q 0)
    where
      y : Lot
      y = lot_record l c s

      worths : all_worth (met (c ∷ cs)) ≡ y.cost + all_worth (met cs)
      worths = worth_cons (lot_of y) (met cs)

      on_goes : walk.places ≡ (bs ++ c ∷ []) ++ cs
      on_goes = e ∙ sym (append_assoc bs (c ∷ []) cs)

      part : (q ≡ 0 → ⊥) → q < y.pieces → cost_on (suc k) l s (Some c) q x ≡ x + (take (met (c ∷ cs)) i q).cost
      part ne lt =
          let p : Lot = part_of y q in
          let all : p.pieces ≡ q = ap (λ (z : Lot). z.pieces) (part_less y q lt) in
          let paid : p.cost ≡ y.cost * q / y.pieces = ap (λ (z : Lot). z.cost) (part_less y q lt) ∙ share_is (lot_of y) (met cs) q priced lt in
          turn k bs cs c q x e ne ∙ cost_enough k l s (first cs) (q - p.pieces) (sum x p.cost) (omega arith)
          ∙ omega (arith, paid, share_le y.cost q y.pieces lt, worths, ap (λ (t : firm.Taken). t.cost) (take_some (lot_of y) (met cs) i q (omega arith) own.0 lt))

      whole : (q ≡ 0 → ⊥) → ((r z : ℕ) → walk.places ≡ (bs ++ c ∷ []) ++ cs → length cs ≤ k → AllOf i (met cs) → Priced (met cs) → z + all_worth (met cs) < 2 ^ 64 →
          cost_on k l s (first cs) r z ≡ z + (take (met cs) i r).cost) → y.pieces ≤ q → cost_on (suc k) l s (Some c) q x ≡ x + (take (met (c ∷ cs)) i q).cost
      whole ne rec le =
          turn k bs cs c q x e ne ∙ ap (on k (first cs) q x) (part_whole y q le)
          ∙ rec (q - y.pieces) (sum x y.cost) on_goes (omega arith) own.1 (priced_rest (lot_of y) (met cs) priced) (omega (arith, worths))
          ∙ omega (arith, worths, ap (λ (t : firm.Taken). t.cost) (take_whole (lot_of y) (met cs) i q (omega arith) own.0 le))

pub costs : Costs
unfolding cost_of
costs l s b ls w good st mean priced it =
    let i : ℕ = w.item in
    let walk = walks_lots l s b i good st it in
    let same : met l s i (b.lots_of i) walk walk.places ≡ of_item ls i = ap (map lot_of) walk.each ∙ mean.each i it in
    let few : length walk.places ≤ l.lots =
    omega (arith, length-map walk.places (λ c. lot_record l c s), ap length walk.each, length-map (b.lots_of i) lot_of, ap length (mean.each i it), of_item_few ls i, mean.used, st.lots.free) in
    let dear : Priced (of_item ls i) = record { small = of_item_small ls i priced.small; worth = omega (arith, of_item_worth ls i, priced.worth) } in
    ap (λ (o : Option ℕ). cost_on l.lots l s o w.pieces 0) walk.starts
    ∙ along l s i (b.lots_of i) walk l.lots [] walk.places w.pieces 0 refl few (subst (AllOf i) (sym same) (all_of_item ls i)) (subst Priced (sym same) dear)
    (omega (arith, ap all_worth same, dear.worth))
    ∙ omega (arith, ap (λ (zs : List firm.Lot). (take zs i w.pieces).cost) same, (one_item ls i w.pieces).cost)
