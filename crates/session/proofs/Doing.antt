-- Calls of the code as calls of the meaning. Assumes nothing.
use Rattle.std.proofs.Common.{◌≡◌, ℕ, ◌<◌, Bool, true, false, ◌&&◌, leb, List, length, Some, None, refl, sym, ap, ◌∙◌, arith}
use Rattle.std.proofs.lemmas.Bool.{cond-true, cond-false, lt-leb}
use Rattle.firm.specs.Calls.{Call}
use Rattle.layout.specs.Layout.{is_good, wide_need, narrow_need, answer_need}
use Rattle.layout.specs.declared.limits.Limits.{Limits}
use Rattle.memory.specs.Books.{limits_in}
use Rattle.records.specs.State.{State}
use Rattle.wire.specs.Answers.{bytes_of_answer}
use Rattle.session.specs.Calling.{done, Said, holds, suffices, called_of, told_in, called}

-- a call on memory that does not suffice does nothing
pub called_not : (c : Call) (s : State) (old : List ℕ) (l : Limits) → l ≡ limits_in s.narrow → false ≡ holds l (length s.wide) (length s.narrow) (length old) →
    called_of None s old ≡ called c s old
unfolding called
called_not c s old l e few =
    sym (cond-false (suffices s old) _ _ (sym (few ∙ ap (λ (k : Limits). holds k (length s.wide) (length s.narrow) (length old)) e)))

-- memory of fewer words than a head never suffices
pub head_lacks : (l : Limits) (wide narrow out : ℕ) → narrow < 5 → false ≡ holds l wide narrow out
head_lacks l wide narrow out few = by (is_good l) (leb (wide_need l) wide) (leb (narrow_need l) narrow) (leb (answer_need l) out) (lt-leb (narrow_need l) narrow (omega (arith, few)))
  where
    by : (a b c d : Bool) → c ≡ false → false ≡ a && (b && (c && d))
    by false b c d e = refl
    by true false c d e = refl
    by true true c d e = ap (λ (x : Bool). x && d) (sym e)

-- on memory that suffices it does what the call does, and its answer is written
pub called_does : (c d : Call) (s t : State) (old new : List ℕ) (l : Limits) (n : ℕ) → l ≡ limits_in s.narrow →
    true ≡ holds l (length s.wide) (length s.narrow) (length old) → d ≡ c → t ≡ (done l d s).left → Said (done l d s).answer n old new →
    called_of (Some n) t new ≡ called c s old
unfolding called
called_does c d s t old new l n e room is left said =
    ap (λ (u : State). called_of (Some n) u new) left
    ∙ ap (λ (m : ℕ). called_of (Some m) (done l d s).left new) said.long
    ∙ ap (λ (bs : List ℕ). called_of (Some (length (bytes_of_answer (done l d s).answer))) (done l d s).left bs) said.bytes
    ∙ ap (λ (k : Limits). told_in old (done k d s)) e
    ∙ ap (λ (b : Call). told_in old (done (limits_in s.narrow) b s)) is
    ∙ sym (cond-true (suffices s old) _ _ (sym (room ∙ ap (λ (k : Limits). holds k (length s.wide) (length s.narrow) (length old)) e)))
