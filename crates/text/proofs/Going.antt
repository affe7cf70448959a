-- Line by line through a text. Assumes nothing.
use Rattle.std.proofs.Common.{◌≡◌, ℕ, List, [], ◌∷◌, ◌++◌, sym, refl, ap, ◌∙◌, subst, append_assoc, append-nil, arith}
use mathlib.Core.List.{map-append}
use Rattle.std.specs.List.{flat_map}
use Rattle.std.proofs.lemmas.Grind.{flat_map-append}
use Rattle.firm.specs.Firm.{Firm, new_firm}
use Rattle.firm.specs.Calls.{Call, Answer, Limits}
use Rattle.firm.specs.Answers as firm
use Rattle.firm.specs.Answers.{after, answer, answers}
use Rattle.layout.specs.declared.limits.Limits as layout
use Rattle.records.specs.State.{State}
use Rattle.session.specs.Held.{words_of, room_of, Fresh}
use Rattle.session.specs.declared.held.Held.{Held}
use Rattle.session.proofs.Turns.{means_new}
use Rattle.answer_lines.specs.Shown.{shown_line}
use Rattle.call_lines.specs.Lines.{call_in_line}
use Rattle.text.specs.Lines.{heard, lines}
use Rattle.text.specs.Run.{books_limits, calls_in, calls, printed}
use Rattle.text.specs.Standing.{Standing, GoneOn, CallsDone}

-- SOME CALLS AND THEN OTHERS
pub answers_append : (l : Limits) (f : Firm) (cs ds : List Call) → answers l f (cs ++ ds) ≡ answers l f cs ++ answers l (firm.ran l f cs) ds
unfolding answers firm.ran
answers_append l f [] ds = refl
answers_append l f (c ∷ cs) ds = ap (λ (rs : List Answer). answer l f c ∷ rs) (answers_append l (after l f c) cs ds)

pub ran_append : (l : Limits) (f : Firm) (cs ds : List Call) → firm.ran l f (cs ++ ds) ≡ firm.ran l (firm.ran l f cs) ds
unfolding firm.ran
ran_append l f [] ds = refl
ran_append l f (c ∷ cs) ds = ran_append l (after l f c) cs ds

pub printed_append : (xs ys : List Answer) → printed (xs ++ ys) ≡ printed xs ++ printed ys
printed_append [] ys = refl
printed_append (x ∷ xs) ys = ap (λ (t : List ℕ). shown_line x ++ t) (printed_append xs ys) ∙ sym (append_assoc (shown_line x) (printed xs) (printed ys))

done_none : (s : State) (room : ℕ) (out : List ℕ) → CallsDone [] s s room out out
unfolding answers firm.ran
done_none s room out l f h = record { standing = h; text = sym (append-nil out) }

done_then : (cs ds : List Call) (s t u : State) (room : ℕ) (out mid end : List ℕ) → CallsDone cs s t room out mid → CallsDone ds t u room mid end → CallsDone (cs ++ ds) s u room out end
done_then cs ds s t u room out mid end p q l f h =
    let a : GoneOn l (firm.ran l f cs) t room out (printed (answers l f cs)) mid = p l f h in
    let b : GoneOn l (firm.ran l (firm.ran l f cs) ds) u room mid (printed (answers l (firm.ran l f cs) ds)) end = q l (firm.ran l f cs) a.standing in
    record {
      standing = subst (λ (g : Firm). Standing l g u room) (sym (ran_append l f cs ds)) b.standing;
      text =
          b.text ∙ ap (λ (x : List ℕ). x ++ printed (answers l (firm.ran l f cs) ds)) a.text ∙ append_assoc out (printed (answers l f cs)) (printed (answers l (firm.ran l f cs) ds))
          ∙ ap (λ (x : List ℕ). out ++ x) (sym (printed_append (answers l f cs) (answers l (firm.ran l f cs) ds)) ∙ ap printed (sym (answers_append l f cs ds)));
    }

-- AFTER SOME LINES: their calls are done, and then those of one more
abbrev pub calls_after : List (List ℕ) → List Call
calls_after ls = calls_in (flat_map heard ls)

pub calls_after_more : (ls : List (List ℕ)) (line : List ℕ) → calls_after (ls ++ line ∷ []) ≡ calls_after ls ++ calls_in (heard line)
calls_after_more ls line =
    ap calls_in (flat_map-append heard ls (line ∷ []) ∙ ap (λ (x : List (List ℕ)). flat_map heard ls ++ x) (append-nil (heard line)))
    ∙ map-append call_in_line (flat_map heard ls) (heard line)

pub begins : (s : State) (room : ℕ) (out : List ℕ) → CallsDone (calls_after []) s s room out out
begins = done_none

pub goes_on : (ls : List (List ℕ)) (line : List ℕ) (s t u : State) (room : ℕ) (out mid end : List ℕ) → CallsDone (calls_after ls) s t room out mid → CallsDone (calls_in (heard line)) t u room mid end →
    CallsDone (calls_after (ls ++ line ∷ [])) s u room out end
goes_on ls line s t u room out mid end p q =
    subst (λ (cs : List Call). CallsDone cs s u room out end) (sym (calls_after_more ls line)) (done_then (calls_after ls) (calls_in (heard line)) s t u room out mid end p q)

pub ends : (text : List ℕ) (ls : List (List ℕ)) (s t : State) (room : ℕ) (out end : List ℕ) → ls ≡ lines text → CallsDone (calls_after ls) s t room out end → CallsDone (calls text) s t room out end
ends text ls s t room out end all d = subst (λ (x : List (List ℕ)). CallsDone (calls_after x) s t room out end) all d

-- OPENED MEMORY, of the size that limits ask for, stands for new books
pub opens : (l : layout.Limits) (h : Held) → Fresh l h → Standing (books_limits l) new_firm (words_of h) (room_of h)
unfolding firm.ran
opens l h fresh = record { good = fresh.good; cans = refl; reached = ([], refl); means = means_new l h fresh; enough = omega (arith, fresh.room) }
