-- One line: what its call does to memory that stands for a firm, and what is written. Assumes nothing.
use Rattle.std.proofs.Common.{◌≡◌, ℕ, true, false, List, [], ◌∷◌, ◌++◌, length, take, drop, Some, None, Option, refl, sym, ap, ◌∙◌, subst, append_assoc, append-nil, arith}
use Rattle.std.proofs.lemmas.List.{take_at}
use Rattle.std.proofs.lemmas.Bool.{cond-true, cond-false}
use Rattle.fields.specs.Written.{over}
use Rattle.firm.specs.Firm.{Firm}
use Rattle.firm.specs.Calls.{Call, Answer, Limits, refused, garbled}
use Rattle.firm.specs.Answers.{after, answer, answers, ran}
use Rattle.records.specs.State.{State}
use Rattle.session.specs.Calling.{Called, called}
use Rattle.session.specs.Held.{answer_in}
use Rattle.session.specs.Means.{limits_of, Means}
use Rattle.session.proofs.Asking.{garbled_done}
use Rattle.session.proofs.Called.{Answered, called_means}
use Rattle.session.proofs.Keeping.{done_means, reached_after}
use Rattle.wire.specs.Answers.{bytes_of_answer, carries, answer_of}
use Rattle.wire.specs.Calls.{Sendable, bytes_of_call, call_of}
use Rattle.wire.proofs.AnswerLaws.{answer_comes_back}
use Rattle.wire.proofs.CallLaws.{comes_back}
use Rattle.answer_lines.specs.Showings.{shown_if}
use Rattle.answer_lines.specs.Shown.{shown, shown_line}
use Rattle.call_lines.specs.Lines.{call_in_line}
use Rattle.text.specs.Lines.{bare, quiet, heard}
use Rattle.text.specs.Run.{calls_in, printed}
use Rattle.text.specs.Standing.{Standing, GoneOn, CallDone, CallsDone}
use Rattle.text.proofs.Carried.{carried}

take_over : (row old : List ℕ) → take (length row) (over row old) ≡ row
unfolding over
take_over row old = take_at row (drop (length row) old) (length row) refl

-- what a call does, on memory that stands for a firm
module _ (row old : List ℕ) (s : State) where
  abbrev pub does : Called
  does = called (call_of row) s old

  module _ (l : Limits) (f : Firm) (c : Call) (h : Standing l f s (length old)) (send : Sendable c) (e : row ≡ bytes_of_call c) where
    means : Answered l f c old does
    means =
        subst (λ (d : Call). Answered l f c old (called d s old)) (sym (ap call_of e ∙ comes_back c send))
        (called_means l s f c old h.good h.cans h.reached h.means h.enough)

    pub gives : answer_in does ≡ Some (bytes_of_answer (answer l f c))
    gives = rw (means.came, means.bytes) (ap Some (take_over (bytes_of_answer (answer l f c)) old))

    -- the bytes that it gives are those of the meaning's answer
    pub reads : (a : List ℕ) → Some a ≡ answer_in does → answer_of a ≡ Some (answer l f c)
    reads a is =
        let same : a ≡ bytes_of_answer (answer l f c) = cc gives in
        ap answer_of same ∙ answer_comes_back (answer l f c) carries_it
      where
        carries_it : carries (answer l f c) ≡ true
        carries_it =
            subst (λ (a : Answer). carries a ≡ true) (done_means l s f h.good h.cans h.reached h.means c).says
            (carried (limits_of l) s h.means.sized h.good c send.1)

    -- it always gives some
    pub never_none : None ≡ answer_in does → ⊥
    never_none is = let z : ◌≡◌ {A = ℕ} 0 1 = cc gives in absurd (omega arith)

  pub none_came : (t : State) (out : List ℕ) → None ≡ answer_in does → CallDone row s t (length old) out out
  none_came t out none l f c h send e = absurd (never_none l f c h send e none)

  pub some_came : (t : State) (a out end : List ℕ) → t ≡ does.left → Some a ≡ answer_in does → end ≡ out ++ shown_if (answer_of a) → CallDone row s t (length old) out end
  some_came t a out end left some wrote l f c h send e =
      record {
        standing = record { good = h.good; cans = h.cans; reached = reached_after l f c h.reached; means = subst (λ (u : State). Means (limits_of l) u (after l f c)) (sym left) (means l f c h send e).means; enough = h.enough };
        text = wrote ∙ ap (λ (o : Option Answer). out ++ shown_if o) (reads l f c h send e a some);
      }

-- the line feed behind an answer
ended : (out mid end : List ℕ) (a : Answer) → mid ≡ out ++ shown a → end ≡ mid ++ (10 ∷ []) → end ≡ out ++ printed (a ∷ [])
ended out mid end a e f =
    f ∙ ap (λ (x : List ℕ). x ++ (10 ∷ [])) e ∙ append_assoc out (shown a) (10 ∷ []) ∙ ap (λ (x : List ℕ). out ++ x) (sym (append-nil (shown_line a)))

pub call_line : (line row : List ℕ) (s t : State) (room : ℕ) (out mid end : List ℕ) → CallDone row s t room out mid → row ≡ bytes_of_call (call_in_line line) → Sendable (call_in_line line) →
    end ≡ mid ++ (10 ∷ []) → CallsDone (call_in_line line ∷ []) s t room out end
unfolding ran answers
call_line line row s t room out mid end d e send f l g h =
    let one = d l g (call_in_line line) h send e in
    record { standing = one.standing; text = ended out mid end (answer l g (call_in_line line)) one.text f }

pub misfit_line : (line : List ℕ) (s : State) (room n : ℕ) (out mid end : List ℕ) → call_in_line line ≡ garbled n → mid ≡ out ++ shown (refused 1 n) → end ≡ mid ++ (10 ∷ []) →
    CallsDone (call_in_line line ∷ []) s s room out end
unfolding ran answers
misfit_line line s room n out mid end is e f l g h =
    let d = garbled_done l s g h.good h.cans h.reached h.means n in
    subst (λ (c : Call). GoneOn l (after l g c) s room out (printed (answer l g c ∷ [])) end) (sym is) (record {
      standing = record { good = h.good; cans = h.cans; reached = reached_after l g (garbled n) h.reached; means = d.means; enough = h.enough };
      text = ended out mid end (answer l g (garbled n)) (e ∙ ap (λ (a : Answer). out ++ shown a) d.says) f;
    })

-- a line that is blank or a remark, and one that is neither
pub quiet_line : (line : List ℕ) (s : State) (room : ℕ) (out : List ℕ) → quiet (bare line) ≡ true → CallsDone (calls_in (heard line)) s s room out out
unfolding ran answers
quiet_line line s room out e =
    subst (λ (ls : List (List ℕ)). CallsDone (calls_in ls) s s room out out) (sym (cond-true (quiet (bare line)) [] (bare line ∷ []) e))
    (λ l f h. record { standing = h; text = sym (append-nil out) })

pub heard_line : (line : List ℕ) (s t : State) (room : ℕ) (out end : List ℕ) → quiet (bare line) ≡ false → CallsDone (call_in_line (bare line) ∷ []) s t room out end → CallsDone (calls_in (heard line)) s t room out end
heard_line line s t room out end e h =
    subst (λ (ls : List (List ℕ)). CallsDone (calls_in ls) s t room out end) (sym (cond-false (quiet (bare line)) [] (bare line ∷ []) e)) h
