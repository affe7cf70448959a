-- By what a call is turned away, check by check. Assumes nothing.
use Rattle.std.proofs.Common.{◌≡◌, ℕ, ◌<◌, true, false, eqb, ◌∙◌, arith}
use Rattle.std.proofs.lemmas.Bool.{eq-eqb, ne_eqb}
use Rattle.firm.specs.Stock.{pick}
use Rattle.firm.specs.Firm.{Firm}
use Rattle.firm.specs.Calls.{Call, Limits}
use Rattle.firm.specs.Changes.{changed}
use Rattle.firm.specs.Refusals.{good_call, turned_by, turned, fits}
use Rattle.firm.proofs.Picks.{pick_true, pick_false}

module _ (l : Limits) (f : Firm) (c : Call) where
  abbrev known : ℕ
  known = pick (eqb (turned_by f c) 0) (pick (fits l (changed f c)) 0 9) (turned_by f c)

  pub turned_bad : good_call l c ≡ false → turned l f c ≡ 2
  turned_bad g = pick_false (good_call l c) known 2 g

  pub turned_known : (n : ℕ) → good_call l c ≡ true → turned_by f c ≡ n → 0 < n → turned l f c ≡ n
  turned_known n g is some =
      pick_true (good_call l c) known 2 g ∙ pick_false (eqb (turned_by f c) 0) (pick (fits l (changed f c)) 0 9) (turned_by f c) (ne_eqb (turned_by f c) 0 (λ e. omega arith)) ∙ is

  turned_fits : good_call l c ≡ true → turned_by f c ≡ 0 → turned l f c ≡ pick (fits l (changed f c)) 0 9
  turned_fits g is = pick_true (good_call l c) known 2 g ∙ pick_true (eqb (turned_by f c) 0) (pick (fits l (changed f c)) 0 9) (turned_by f c) (eq-eqb (turned_by f c) 0 is)

  pub turned_full : good_call l c ≡ true → turned_by f c ≡ 0 → fits l (changed f c) ≡ false → turned l f c ≡ 9
  turned_full g is full = turned_fits g is ∙ pick_false (fits l (changed f c)) 0 9 full

  pub turned_not : good_call l c ≡ true → turned_by f c ≡ 0 → fits l (changed f c) ≡ true → turned l f c ≡ 0
  turned_not g is fit = turned_fits g is ∙ pick_true (fits l (changed f c)) 0 9 fit
