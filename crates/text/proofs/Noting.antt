-- The tally along a text: what a line does to it, and the lines together. Assumes nothing.
use Rattle.std.proofs.Common.{◌≡◌, ℕ, true, false, List, [], ◌∷◌, ◌++◌, length, Some, None, Option, sym, refl, ap, ◌∙◌, subst}
use Rattle.std.proofs.lemmas.Bool.{cond-true, cond-false}
use Rattle.firm.specs.Calls.{Call, Answer, refused, garbled}
use Rattle.firm.specs.Answers.{answer, answers, ran}
use Rattle.records.specs.State.{State}
use Rattle.session.specs.Held.{answer_in}
use Rattle.session.proofs.Asking.{garbled_done}
use Rattle.wire.specs.Answers.{answer_of}
use Rattle.wire.specs.Calls.{Sendable, bytes_of_call}
use Rattle.call_lines.specs.Lines.{call_in_line}
use Rattle.text.specs.Lines.{bare, quiet, heard, lines}
use Rattle.text.specs.Noting.{CallNoted, CallsNoted}
use Rattle.text.specs.Run.{calls_in, calls}
use Rattle.text.specs.Standing.{CallsDone}
use Rattle.text.specs.Tallies.{noted, noted_if, tallied}
use Rattle.text.specs.declared.tally.Tally.{Tally}
use Rattle.text.proofs.Going.{answers_append, calls_after, calls_after_more}
use Rattle.text.proofs.Lined.{does, reads, never_none}

-- what a call does, on memory that stands for a firm
module _ (row old : List ℕ) (s : State) where
  pub none_noted : (before : Tally) → None ≡ answer_in (does row old s) → CallNoted row s (length old) before before
  none_noted before none l f c h send e = absurd (never_none row old s l f c h send e none)

  pub some_noted : (a : List ℕ) (before after : Tally) → Some a ≡ answer_in (does row old s) → after ≡ noted_if (answer_of a) before → CallNoted row s (length old) before after
  some_noted a before after some counted l f c h send e = counted ∙ ap (λ (o : Option Answer). noted_if o before) (reads row old s l f c h send e a some)

-- A LINE that is a call, and one that is none
pub call_noted : (line row : List ℕ) (s : State) (room : ℕ) (before after : Tally) → CallNoted row s room before after → row ≡ bytes_of_call (call_in_line line) → Sendable (call_in_line line) →
    CallsNoted (call_in_line line ∷ []) s room before after
unfolding answers
call_noted line row s room before after d e send l f h = d l f (call_in_line line) h send e

pub misfit_noted : (line : List ℕ) (s : State) (room n : ℕ) (before after : Tally) → call_in_line line ≡ garbled n → after ≡ noted before (refused 1 n) → CallsNoted (call_in_line line ∷ []) s room before after
unfolding answers
misfit_noted line s room n before after is e l f h =
    e ∙ ap (λ (a : Answer). noted before a) (garbled_done l s f h.good h.cans h.reached h.means n).says ∙ ap (λ (c : Call). noted before (answer l f c)) (sym is)

-- a line that is blank or a remark, and one that is neither
pub quiet_noted : (line : List ℕ) (s : State) (room : ℕ) (before : Tally) → quiet (bare line) ≡ true → CallsNoted (calls_in (heard line)) s room before before
unfolding answers
quiet_noted line s room before e =
    subst (λ (ls : List (List ℕ)). CallsNoted (calls_in ls) s room before before) (sym (cond-true (quiet (bare line)) [] (bare line ∷ []) e)) (λ l f h. refl)

pub heard_noted : (line : List ℕ) (s : State) (room : ℕ) (before after : Tally) → quiet (bare line) ≡ false → CallsNoted (call_in_line (bare line) ∷ []) s room before after → CallsNoted (calls_in (heard line)) s room before after
heard_noted line s room before after e h =
    subst (λ (ls : List (List ℕ)). CallsNoted (calls_in ls) s room before after) (sym (cond-false (quiet (bare line)) [] (bare line ∷ []) e)) h

pub tallied_append : (t : Tally) (xs ys : List Answer) → tallied t (xs ++ ys) ≡ tallied (tallied t xs) ys
tallied_append t [] ys = refl
tallied_append t (x ∷ xs) ys = tallied_append (noted t x) xs ys

-- AFTER SOME LINES: what they are answered is counted, and then what one more is
pub counting_begins : (s : State) (room : ℕ) (before : Tally) → CallsNoted (calls_after []) s room before before
unfolding answers
counting_begins s room before l f h = refl

pub counting_goes_on : (ls : List (List ℕ)) (line : List ℕ) (s t : State) (room : ℕ) (out mid : List ℕ) (before now next : Tally) → CallsDone (calls_after ls) s t room out mid →
    CallsNoted (calls_after ls) s room before now → CallsNoted (calls_in (heard line)) t room now next → CallsNoted (calls_after (ls ++ line ∷ [])) s room before next
counting_goes_on ls line s t room out mid before now next d k n l f h =
    let cs : List Call = calls_after ls in
    let ds : List Call = calls_in (heard line) in
    n l (ran l f cs) (d l f h).standing
    ∙ ap (λ (x : Tally). tallied x (answers l (ran l f cs) ds)) (k l f h)
    ∙ sym (tallied_append before (answers l f cs) (answers l (ran l f cs) ds))
    ∙ ap (tallied before) (sym (ap (answers l f) (calls_after_more ls line) ∙ answers_append l f cs ds))

pub counting_ends : (text : List ℕ) (ls : List (List ℕ)) (s : State) (room : ℕ) (before now : Tally) → ls ≡ lines text → CallsNoted (calls_after ls) s room before now → CallsNoted (calls text) s room before now
counting_ends text ls s room before now all k = subst (λ (x : List (List ℕ)). CallsNoted (calls_after x) s room before now) all k
