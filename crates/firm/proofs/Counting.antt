-- What a count leaves: of the item what was counted, of the others what was there. Assumes nothing.
use Rattle.std.proofs.Common.{◌≡◌, ℕ, ◌-◌, eqb, ◌≢◌, sym, refl, subst, arith}
use Rattle.std.proofs.lemmas.Bool.{eq-eqb}
use Rattle.firm.specs.Stock.{on_hand}
use Rattle.firm.specs.Firm.{Firm}
use Rattle.firm.specs.Calls.{counted}
use Rattle.firm.specs.Changes.{changed}
use Rattle.firm.specs.Refusals.{turned}
use Rattle.firm.specs.Statements.{CountedThere}
use Rattle.firm.proofs.Picks.{pick_true, counts, counts_not}
use Rattle.firm.proofs.Cases.{counted_cases}
use Rattle.firm.proofs.Taking.{take_keeps}
use Rattle.firm.proofs.Ledger.{on_hand_push}
use Rattle.firm.proofs.Bounds.{take_lacking}

-- what is said of what became of f
abbrev Counted : Firm → ℕ → ℕ → Firm → Type 0
Counted f i q g = (on_hand g.lots i ≡ q) × ((j : ℕ) → j ≢ i → on_hand g.lots j ≡ on_hand f.lots j)

changed_counted : (f : Firm) (i q : ℕ) → Counted f i q (changed f (counted i q))
changed_counted f i q =
    counted_cases f i q (Counted f i q)
    (λ same. (same, λ j n. refl))
    (λ more. (
      rw on_hand_push (omega (arith, counts i i (q - on_hand f.lots i) refl)),
      λ j n. rw on_hand_push (omega (arith, counts_not i j (q - on_hand f.lots i) (λ e. n (sym e)))),
    ))
    (λ fewer.
    let wanted : ℕ = on_hand f.lots i - q in
    let taken = take_keeps f.lots i wanted in
    (omega (arith, take_lacking f.lots i wanted), taken.4))

pub counted_there : CountedThere
counted_there l f i q t =
    subst (Counted f i q) (sym (pick_true (eqb (turned l f (counted i q)) 0) (changed f (counted i q)) f (eq-eqb (turned l f (counted i q)) 0 t)))
    (changed_counted f i q)
