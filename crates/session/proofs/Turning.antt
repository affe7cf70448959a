-- One call: what is owed of it, and how a refusal and a call that is done meet it. Assumes nothing.
use Rattle.std.proofs.Common.{◌≡◌, ℕ, ◌<◌, true, false, eqb, sym, refl, ap, ◌∙◌, subst, arith}
use Rattle.std.proofs.lemmas.Bool.{eq-eqb, ne_eqb}
use Rattle.firm.specs.Firm.{Firm}
use Rattle.firm.specs.Calls.{Call, Answer, refused, Limits}
use Rattle.firm.specs.Changes.{changed}
use Rattle.firm.specs.Refusals.{turned, place}
use Rattle.firm.specs.Answers.{told, after, answer}
use Rattle.firm.proofs.Picks.{pick_true, pick_false}
use Rattle.records.specs.State.{State}
use Rattle.rules.specs.Outcome.{Outcome, outcome, refuse}
use Rattle.session.specs.Means.{Means, limits_of}

-- the answer is the meaning's, what is left stands for the firm afterwards, and a refusal leaves all as it was
pub record Done (l : Limits) (s : State) (f : Firm) (c : Call) (o : Outcome) : Type 0 where
  pub says : o.answer ≡ answer l f c
  pub means : Means (limits_of l) o.left (after l f c)
  pub stays : 0 < turned l f c → o.left ≡ s

module _ (l : Limits) (s : State) (f : Firm) (c : Call) where
  pub refuses : (n p : ℕ) → turned l f c ≡ n → 0 < n → place c n ≡ p → Means (limits_of l) s f → Done l s f c (refuse n p s)
  refuses n p is some at h =
      let off : eqb (turned l f c) 0 ≡ false = ne_eqb (turned l f c) 0 (λ e. omega arith) in
      record {
        says = ap (refused n) (sym at) ∙ sym (pick_false (eqb (turned l f c) 0) (told f c) (refused (turned l f c) (place c (turned l f c))) off ∙ ap (λ (k : ℕ). refused k (place c k)) is);
        means = subst (Means (limits_of l) s) (sym (pick_false (eqb (turned l f c) 0) (changed f c) f off)) h;
        stays = λ _. refl;
      }

  pub goes : (a : Answer) (t : State) → turned l f c ≡ 0 → a ≡ told f c → Means (limits_of l) t (changed f c) → Done l s f c (outcome a t)
  goes a t is says h =
      let on : eqb (turned l f c) 0 ≡ true = eq-eqb (turned l f c) 0 is in
      record {
        says = says ∙ sym (pick_true (eqb (turned l f c) 0) (told f c) (refused (turned l f c) (place c (turned l f c))) on);
        means = subst (Means (limits_of l) t) (sym (pick_true (eqb (turned l f c) 0) (changed f c) f on)) h;
        stays = λ gt. absurd (omega arith);
      }
