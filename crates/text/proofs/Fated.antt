-- What becomes of a line. Assumes nothing.
use Rattle.std.proofs.Common.{◌≡◌, ℕ, true, List, [], ◌∷◌, length, Some, None, refl, sym, ap, ◌∙◌, subst, arith}
use Rattle.std.proofs.lemmas.Bool.{cond-true}
use Rattle.firm.specs.Calls.{Call, Answer, refused, garbled}
use Rattle.firm.specs.Answers.{answer, answers}
use Rattle.records.specs.State.{State}
use Rattle.session.specs.Held.{answer_in}
use Rattle.session.proofs.Asking.{garbled_done}
use Rattle.wire.specs.Answers.{answer_of}
use Rattle.wire.specs.Calls.{Sendable, bytes_of_call}
use Rattle.wire.specs.Told.{refusal_number}
use Rattle.wire.specs.declared.refusal.Refusal.TheVariants.{Unreadable}
use Rattle.call_lines.specs.Lines.{call_in_line}
use Rattle.text.specs.Fates.{Tells, TellsLine, CallFated, CallsFated, AtHand}
use Rattle.text.specs.Lines.{bare, quiet, heard}
use Rattle.text.specs.Run.{calls_in}
use Rattle.text.specs.declared.fate.Fate.{Fate}
use Rattle.text.specs.declared.fate.Fate.TheVariants.{Quiet, Refused, Taken}
use Rattle.text.proofs.Lined.{does, reads, never_none}

-- what a call does, on memory that stands for a firm
module _ (row old : List ℕ) (s : State) where
  pub none_fated : (fate : Fate) → None ≡ answer_in (does row old s) → CallFated row s (length old) fate
  none_fated fate none l f c h send e = absurd (never_none row old s l f c h send e none)

  pub some_fated : (a : List ℕ) (fate : Fate) → Some a ≡ answer_in (does row old s) → Tells fate (answer_of a) → CallFated row s (length old) fate
  some_fated a fate some is l f c h send e = subst (Tells fate) (reads row old s l f c h send e a some) is

-- the one call of a line
alone : (fate : Fate) (a : Answer) → Tells fate (Some a) → TellsLine fate (a ∷ [])
alone Quiet a h = absurd h
alone (Refused r p) a h = let same : a ≡ refused (refusal_number r) p = cc in ap (λ (b : Answer). b ∷ []) same
alone Taken a h = (a, refl, h a refl)

-- A LINE that is a call, and one that is none
pub call_fated : (line row : List ℕ) (s : State) (room : ℕ) (fate : Fate) → CallFated row s room fate → row ≡ bytes_of_call (call_in_line line) → Sendable (call_in_line line) → CallsFated (call_in_line line ∷ []) s room fate
unfolding answers
call_fated line row s room fate d e send l f h = alone fate (answer l f (call_in_line line)) (d l f (call_in_line line) h send e)

pub call_at_hand : (line row : List ℕ) (fate : Fate) → row ≡ bytes_of_call (call_in_line line) → Sendable (call_in_line line) → AtHand (call_in_line line ∷ []) row fate
call_at_hand line row fate e send is = (call_in_line line, refl, send, e)

pub misfit_fated : (line : List ℕ) (s : State) (room n : ℕ) → call_in_line line ≡ garbled n → CallsFated (call_in_line line ∷ []) s room (Refused Unreadable n)
unfolding answers
misfit_fated line s room n is l f h =
    ap (λ (c : Call). answer l f c ∷ []) is ∙ ap (λ (a : Answer). a ∷ []) (sym (garbled_done l s f h.good h.cans h.reached h.means n).says)

pub refused_at_hand : (cs : List Call) (row : List ℕ) (n : ℕ) → AtHand cs row (Refused Unreadable n)
refused_at_hand cs row n is = let z : ◌≡◌ {A = ℕ} 0 1 = cc in absurd (omega arith)

-- a line that is blank or a remark, and one that is neither
pub quiet_fated : (line : List ℕ) (s : State) (room : ℕ) → quiet (bare line) ≡ true → CallsFated (calls_in (heard line)) s room Quiet
unfolding answers
quiet_fated line s room e =
    subst (λ (ls : List (List ℕ)). CallsFated (calls_in ls) s room Quiet) (sym (cond-true (quiet (bare line)) [] (bare line ∷ []) e)) (λ l f h. refl)

pub quiet_at_hand : (cs : List Call) (row : List ℕ) → AtHand cs row Quiet
quiet_at_hand cs row is = let z : ◌≡◌ {A = ℕ} 0 1 = cc in absurd (omega arith)
