-- One call on memory that means a firm: what `call` returns and leaves, said by the meaning. Assumes nothing.
use Rattle.std.proofs.Common.{◌≡◌, ℕ, ◌≤◌, true, ◌&&◌, leb, List, length, Some, sym, ap, subst}
use Rattle.std.proofs.lemmas.Bool.{cond-true, and_from, le-leb}
use Rattle.fields.specs.Written.{over}
use Rattle.firm.specs.Firm.{Firm}
use Rattle.firm.specs.Calls.{Call, Limits}
use Rattle.firm.specs.Answers.{after, answer}
use Rattle.firm.specs.Statements.{Reached}
use Rattle.layout.specs.Layout.{Good, is_good, wide_need, narrow_need, answer_need}
use Rattle.layout.specs.declared.limits.Limits as memory
use Rattle.memory.specs.Books.{limits_in}
use Rattle.records.specs.State.{State}
use Rattle.wire.specs.Answers.{bytes_of_answer}
use Rattle.session.specs.Calling.{done, suffices, Called, told_in, called}
use Rattle.session.specs.Means.{limits_of, Means}
use Rattle.firm.specs.Promise.{whole}
use Rattle.session.proofs.Keeping.{done_means}
use Rattle.session.proofs.Turning.{Done}

-- what came of the call c on memory that means f
pub record Answered (l : Limits) (f : Firm) (c : Call) (old : List ℕ) (k : Called) : Type 0 where
  pub came : k.came ≡ Some (length (bytes_of_answer (answer l f c)))
  pub bytes : k.bytes ≡ over (bytes_of_answer (answer l f c)) old
  pub means : Means (limits_of l) k.left (after l f c)

pub good_tested : (l : memory.Limits) → Good l → is_good l ≡ true
good_tested l g =
    and_from (leb l.items 4096) _ (le-leb _ _ g.items) (and_from (leb l.orders 65536) _ (le-leb _ _ g.orders) (and_from (leb l.lots 65536) _ (le-leb _ _ g.lots)
    (and_from (leb l.parts 65536) (leb l.entries 1000000) (le-leb _ _ g.parts) (le-leb _ _ g.entries))))

pub called_means : (l : Limits) (s : State) (f : Firm) (c : Call) (old : List ℕ) → Good (limits_of l) → l.calls_can ≡ whole → Reached l f → Means (limits_of l) s f →
    answer_need (limits_of l) ≤ length old → Answered l f c old (called c s old)
unfolding called
called_means l s f c old good cans r h room =
    subst (Answered l f c old) (sym (cond-true (suffices s old) (told_in old (done (limits_in s.narrow) c s)) _ enough))
    (subst (λ (k : memory.Limits). Answered l f c old (told_in old (done k c s))) (sym h.stands.frame.limits) (record {
      came = ap (λ a. Some (length (bytes_of_answer a))) one.says;
      bytes = ap (λ a. over (bytes_of_answer a) old) one.says;
      means = one.means;
    }))
  where
    one : Done l s f c (done (limits_of l) c s)
    one = done_means l s f good cans r h c

    enough : suffices s old ≡ true
    enough =
        subst (λ (k : memory.Limits). (is_good k && (leb (wide_need k) (length s.wide) && (leb (narrow_need k) (length s.narrow) && leb (answer_need k) (length old)))) ≡ true) (sym h.stands.frame.limits)
        (and_from (is_good (limits_of l)) _ (good_tested (limits_of l) good) (and_from (leb (wide_need (limits_of l)) (length s.wide)) _ (le-leb _ _ h.stands.frame.roomy.wide)
        (and_from (leb (narrow_need (limits_of l)) (length s.narrow)) (leb (answer_need (limits_of l)) (length old)) (le-leb _ _ h.stands.frame.roomy.narrow) (le-leb _ _ room))))
