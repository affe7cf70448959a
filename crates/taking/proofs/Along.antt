-- What pieces would cost, along the cells of a row. Assumes nothing.
use Rattle.std.proofs.Common.{◌≡◌, ℕ, zero, suc, ◌-◌, ◌≤◌, cond, true, ltb, eqb, List, [], ◌∷◌, Some, None, Option, refl, sym, ap, ◌∙◌}
use Rattle.std.proofs.lemmas.Bool.{cond-true, cond-false, eq-eqb, ne_eqb, le-ltb}
use Rattle.layout.specs.Layout.{lot_rows}
use Rattle.layout.specs.declared.limits.Limits.{Limits}
use Rattle.links.specs.Area.{following_in, header_of}
use Rattle.links.specs.Walk.{cells_on, cells_in}
use Rattle.memory.specs.Books.{lot_record}
use Rattle.store.specs.Steps.{sum}
use Rattle.records.specs.State.{State}
use Rattle.taking.specs.Parts.{part_of}
use Rattle.taking.specs.Takes.{cost_on, cost_of}
use Rattle.taking.specs.declared.wants.Want.{Want}

module _ (l : Limits) (s : State) where
  -- the lots in some cells, one after the other, while pieces are wanted
  abbrev pub cost_along : List ℕ → ℕ → ℕ → ℕ
  cost_along [] q x = x
  cost_along (c ∷ cs) q x = cond (eqb q 0) x (cost_along cs (q - (part_of (lot_record l c s) q).pieces) (sum x (part_of (lot_record l c s) q).cost))

  on_cells : (k : ℕ) (o : Option ℕ) (q x : ℕ) → cost_along (cells_on k (lot_rows l) s.narrow o) q x ≡ cost_on k l s o q x
  on_cells zero o q x = refl
  on_cells (suc k) None q x = refl
  on_cells (suc k) (Some c) q x = ap (cond (eqb q 0) x) (on_cells k (following_in (lot_rows l) s.narrow c) (q - (part_of (lot_record l c s) q).pieces) (sum x (part_of (lot_record l c s) q).cost))

  -- the whole row of an item that there is
  pub cost_row : (w : Want) → ltb w.item l.items ≡ true → cost_along (cells_in (lot_rows l) s.narrow w.item) w.pieces 0 ≡ cost_of l w s
  unfolding cost_of
  cost_row w lt =
      on_cells l.lots (following_in (lot_rows l) s.narrow (header_of (lot_rows l) w.item)) w.pieces 0
      ∙ sym (ap (λ (o : Option ℕ). cost_on l.lots l s o w.pieces 0) (cond-true (ltb w.item l.items) _ _ lt))

  -- of an item that there is not, nothing
  pub cost_none : (w : Want) → l.items ≤ w.item → 0 ≡ cost_of l w s
  unfolding cost_of
  cost_none w le = sym (ap (λ (o : Option ℕ). cost_on l.lots l s o w.pieces 0) (cond-false (ltb w.item l.items) _ _ (le-ltb _ _ le)) ∙ nothing l.lots)
    where
      nothing : (k : ℕ) → cost_on k l s None w.pieces 0 ≡ 0
      nothing zero = refl
      nothing (suc k) = refl

  pub along_enough : (cs : List ℕ) (q x : ℕ) → q ≡ 0 → cost_along cs q x ≡ x
  along_enough [] q x e = refl
  along_enough (c ∷ cs) q x e = cond-true (eqb q 0) x _ (eq-eqb q 0 e)

  pub along_more : (c : ℕ) (cs : List ℕ) (q x : ℕ) → (q ≡ 0 → ⊥) → cost_along (c ∷ cs) q x ≡ cost_along cs (q - (part_of (lot_record l c s) q).pieces) (sum x (part_of (lot_record l c s) q).cost)
  along_more c cs q x ne = cond-false (eqb q 0) x _ (ne_eqb q 0 ne)
