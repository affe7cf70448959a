-- Lots of an item with one more, and totals that are raised and lowered. Assumes nothing.
use Rattle.std.proofs.Common.{◌≡◌, ℕ, ◌+◌, ◌-◌, ◌^◌, ◌<◌, min, Bool, true, false, cond, eqb, ◌⊎◌, List, [], ◌∷◌, ◌++◌, map, sym, refl, ap, ◌∙◌, subst, inl, inr, append-nil}
use Rattle.std.proofs.lemmas.List.{map-append}
use Rattle.std.proofs.lemmas.Bool.{cond-true, cond-false, cases_eq, eq-eqb, ne_eqb}
use Rattle.firm.specs.Stock as stock
use Rattle.firm.specs.Stock.{pick, all_worth, of_item}
use Rattle.firm.proofs.Picks.{pick_true, pick_false}
use Rattle.layout.specs.Layout.{Good}
use Rattle.layout.specs.declared.head.Total.{Total}
use Rattle.layout.specs.declared.limits.Limits.{Limits}
use Rattle.memory.specs.Books.{total_of, put_total}
use Rattle.questions.specs.Listing.{lot_of}
use Rattle.records.specs.State.{State, state}
use Rattle.records.specs.declared.lot.Lot.{Lot}
use Rattle.rules.specs.Totals.{raised, lowered}
use Rattle.store.specs.Laws.{with_total}
use Rattle.store.specs.View.{Kept, Stands}
use Rattle.store.proofs.TotalLaws.{puts_total}

-- LOTS of an item, with one more
pub of_item_push : (ls : List stock.Lot) (y : stock.Lot) (i : ℕ) → of_item (ls ++ y ∷ []) i ≡ of_item ls i ++ pick (eqb y.item i) (y ∷ []) []
unfolding of_item
of_item_push [] y i = refl
of_item_push (x ∷ ls) y i = at (eqb x.item i) (of_item_push ls y i)
  where
    at : (b : Bool) → of_item (ls ++ y ∷ []) i ≡ of_item ls i ++ pick (eqb y.item i) (y ∷ []) [] →
        pick b (x ∷ of_item (ls ++ y ∷ []) i) (of_item (ls ++ y ∷ []) i) ≡ pick b (x ∷ of_item ls i) (of_item ls i) ++ pick (eqb y.item i) (y ∷ []) []
    at true e = ap (λ (zs : List stock.Lot). x ∷ zs) e
    at false e = e

-- so in memory, where y is the youngest of its item
pub lots_with : (n : ℕ) (of : ℕ → List Lot) (ls : List stock.Lot) (y : Lot) → ((i : ℕ) → i < n → map lot_of (of i) ≡ of_item ls i) → y.item < n →
    (i : ℕ) → i < n → map lot_of (cond (eqb i y.item) (of y.item ++ y ∷ []) (of i)) ≡ of_item (ls ++ lot_of y ∷ []) i
lots_with n of ls y each few i lt = at (cases_eq i y.item)
  where
    at : (i ≡ y.item) ⊎ (i ≡ y.item → ⊥) → map lot_of (cond (eqb i y.item) (of y.item ++ y ∷ []) (of i)) ≡ of_item (ls ++ lot_of y ∷ []) i
    at (inl z) =
        ap (map lot_of) (cond-true (eqb i y.item) (of y.item ++ y ∷ []) (of i) (eq-eqb _ _ z))
        ∙ map-append lot_of (of y.item) (y ∷ [])
        ∙ ap (λ (xs : List stock.Lot). xs ++ lot_of y ∷ []) (each y.item few ∙ ap (of_item ls) (sym z))
        ∙ ap (λ (xs : List stock.Lot). of_item ls i ++ xs) (sym (pick_true (eqb y.item i) (lot_of y ∷ []) [] (eq-eqb _ _ (sym z))))
        ∙ sym (of_item_push ls (lot_of y) i)
    at (inr z) =
        ap (map lot_of) (cond-false (eqb i y.item) (of y.item ++ y ∷ []) (of i) (ne_eqb _ _ z))
        ∙ each i lt ∙ sym (append-nil (of_item ls i))
        ∙ ap (λ (xs : List stock.Lot). of_item ls i ++ xs) (sym (pick_false (eqb y.item i) (lot_of y ∷ []) [] (ne_eqb _ _ (λ w. z (sym w)))))
        ∙ sym (of_item_push ls (lot_of y) i)

-- TOTALS
pub raised_stands : (l : Limits) (s : State) (b : Kept) (t : Total) (x : ℕ) → Good l → Stands l s b →
    Stands l (state (raised t x s.wide) s.narrow) (with_total t (min (2 ^ 64 - 1) (b.totals t + x)) b)
unfolding raised
raised_stands l s b t x good st =
    subst (λ (v : ℕ). Stands l (state (put_total t (min (2 ^ 64 - 1) (total_of t s.wide + x)) s.wide) s.narrow) (with_total t (min (2 ^ 64 - 1) (v + x)) b)) (st.frame.totals t)
    (puts_total l s b t (min (2 ^ 64 - 1) (total_of t s.wide + x)) good st)

pub lowered_stands : (l : Limits) (s : State) (b : Kept) (t : Total) (x : ℕ) → Good l → Stands l s b → Stands l (state (lowered t x s.wide) s.narrow) (with_total t (b.totals t - x) b)
unfolding lowered
lowered_stands l s b t x good st =
    subst (λ (v : ℕ). Stands l (state (put_total t (total_of t s.wide - x) s.wide) s.narrow) (with_total t (v - x) b)) (st.frame.totals t)
    (puts_total l s b t (total_of t s.wide - x) good st)
