-- An item's lots come to its stock. Assumes nothing.
use Rattle.std.proofs.Common.{◌≡◌, eqb, [], ◌∷◌, refl, arith}
use Rattle.std.proofs.lemmas.Bool.{eqb-true, eqb-false}
use Rattle.firm.specs.Stock.{on_hand, worth, all_worth, of_item}
use Rattle.firm.specs.Laws.{LotsComeToStock}
use Rattle.firm.proofs.Picks.{pick-both, counts, counts_not}

pub lots_come_to_stock : LotsComeToStock
unfolding on_hand worth all_worth of_item
lots_come_to_stock [] i = (refl, refl)
lots_come_to_stock (l ∷ ls) i =
    let rest = lots_come_to_stock ls i in
    pick-both (eqb l.item i) (l ∷ of_item ls i) (of_item ls i) (λ xs. (on_hand xs i ≡ on_hand (l ∷ ls) i) × (all_worth xs ≡ worth (l ∷ ls) i))
    (λ e. let same : l.item ≡ i = eqb-true l.item i e in (omega arith, omega (arith, counts l.item i l.cost same)))
    (λ e. let other : l.item ≡ i → ⊥ = eqb-false l.item i e in (omega (arith, counts_not l.item i l.pieces other), omega (arith, counts_not l.item i l.cost other)))
