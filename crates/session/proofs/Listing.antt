-- Entries from a number on, at any stage that answers that question, and that what is written of them is the answer. Assumes nothing.
use Rattle.std.proofs.Common.{◌≡◌, ℕ, zero, suc, ◌+◌, ◌-◌, ◌*◌, ◌<◌, ◌≤◌, min, Bool, true, ◌&&◌, ◌||◌, eqb, leb, List, [], ◌∷◌, map, length, get_or, Some, Option, sym, refl, ap, ◌∙◌, subst, arith}
use Rattle.std.specs.List.{range_with_len}
use Rattle.std.proofs.lemmas.List.{length-map, get_or-map}
use Rattle.std.proofs.lemmas.Bool.{cond_both, cond-true, leb-true, le-leb}
use Rattle.fields.specs.Written.{wrote}
use Rattle.firm.specs.Ledger as ledger
use Rattle.firm.specs.Ledger.{some_from}
use Rattle.firm.specs.Firm.{Firm}
use Rattle.firm.specs.Calls.{Call, Answer, refused, Limits, call_number, entries}
use Rattle.firm.specs.Calls as calls
use Rattle.firm.specs.Changes.{changed}
use Rattle.firm.specs.Refusals.{good_fields, good_call, turned_by, fits, place}
use Rattle.firm.specs.Answers.{told}
use Rattle.firm.specs.Statements.{Reached}
use Rattle.firm.proofs.Bounds.{reached_fits}
use Rattle.firm.proofs.Turned.{turned_bad, turned_not}
use Rattle.layout.specs.Layout.{answer_need}
use Rattle.layout.specs.declared.head.Counter.TheVariants.{Entries}
use Rattle.layout.specs.declared.limits.Limits as memory
use Rattle.memory.specs.Books.{count_of, entry_record}
use Rattle.questions.specs.Entries.{entry_of, entries_met, entries_written}
use Rattle.questions.proofs.CountedDown.{entries_few}
use Rattle.records.specs.Kinds.{entry_kind}
use Rattle.records.specs.State.{State}
use Rattle.rules.specs.Checks.{if}
use Rattle.rules.specs.Outcome.{outcome}
use Rattle.store.specs.View.{Kept}
use Rattle.wire.specs.Answers.{bytes_of_answer}
use Rattle.wire.specs.Statements.{lot_count, entry_count}
use Rattle.wire.proofs.ListLaws.{answers_fit}
use Rattle.session.specs.Calling.{entries_told, Said, taken}
use Rattle.session.specs.Means.{Means, limits_of}
use Rattle.session.proofs.Saying.{said_by, some_item}
use Rattle.session.proofs.Turning.{Done, refuses, goes}

-- those behind the first, by number
behind : (g : ℕ → ledger.Entry) (d e : ledger.Entry) (es : List ledger.Entry) (a : ℕ) → ((i : ℕ) → i < length (e ∷ es) → g (a + i) ≡ get_or (e ∷ es) i d) → (i : ℕ) → i < length es → g (a + 1 + i) ≡ get_or es i d
behind g d e es a h i lt = let on : a + 1 + i ≡ a + suc i = omega arith in ap g on ∙ h (suc i) (omega arith)

-- elements by number, from the n-th on as many as there are of k, where the first has the number a
some_by : (g : ℕ → ledger.Entry) (d : ledger.Entry) (es : List ledger.Entry) (a n k : ℕ) → ((i : ℕ) → i < length es → g (a + i) ≡ get_or es i d) →
    map g (range_with_len (a + n) (min k (length es - n))) ≡ some_from es n k
unfolding some_from
some_by g d [] a n k h = let none : min k (0 - n) ≡ 0 = omega arith in ap (λ (j : ℕ). map g (range_with_len (a + n) j)) none
some_by g d (e ∷ es) a (suc n) k h =
    let on : a + suc n ≡ a + 1 + n = omega arith in
    let many : min k (suc (length es) - suc n) ≡ min k (length es - n) = omega arith in
    ap (λ (j : ℕ). map g (range_with_len j (min k (suc (length es) - suc n)))) on
    ∙ ap (λ (j : ℕ). map g (range_with_len (a + 1 + n) j)) many
    ∙ some_by g d es (a + 1) n k (behind g d e es a h)
some_by g d (e ∷ es) a zero zero h = let none : min 0 (suc (length es) - 0) ≡ 0 = omega arith in ap (λ (j : ℕ). map g (range_with_len (a + 0) j)) none
some_by g d (e ∷ es) a zero (suc k) h =
    let on : a + 0 + 1 ≡ a + 1 + 0 = omega arith in
    let many : min (suc k) (suc (length es) - 0) ≡ suc (min k (length es - 0)) = omega arith in
    ap (λ (j : ℕ). map g (range_with_len (a + 0) j)) many
    ∙ ap (λ (x : ledger.Entry). x ∷ map g (range_with_len (a + 0 + 1) (min k (length es - 0)))) (h 0 (omega arith))
    ∙ ap (λ (j : ℕ). e ∷ map g (range_with_len j (min k (length es - 0)))) on
    ∙ ap (λ (xs : List ledger.Entry). e ∷ xs) (some_by g d es (a + 1) 0 k (behind g d e es a h))

module _ (l : Limits) (s : State) (f : Firm) (n k : ℕ) (can : ℕ → Bool) (can_ask : can 15 ≡ true) (cans : l.calls_can ≡ can) (r : Reached l f) (h : Means (limits_of l) s f) where
  abbrev c : Call
  c = calls.entries_from n k

  abbrev m : Kept
  m = h.kept

  good_is : good_call l c ≡ leb k 256
  unfolding call_number good_fields
  good_is = ap (λ (b : Bool). (eqb 15 255 || b) && leb k 256) (ap (λ (g : ℕ → Bool). g 15) cans ∙ can_ask)

  by_0 : turned_by f c ≡ 0
  unfolding turned_by
  by_0 = refl

  changed_is : changed f c ≡ f
  unfolding changed
  changed_is = refl

  at_2 : place c 2 ≡ 0
  unfolding place call_number
  at_2 = refl

  entries_are : length m.all_entries ≡ length f.entries
  entries_are = sym (length-map m.all_entries entry_of) ∙ ap length h.entries

  -- each entry of memory is that of the books
  each_is : (i : ℕ) → i < length f.entries → entry_of (entry_record (limits_of l) (0 + i) s) ≡ get_or f.entries i (entry_of entry_kind.nothing)
  each_is i lt =
      let few : i < length m.all_entries = omega (arith, entries_are) in
      let at : 0 + i ≡ i = omega arith in
      ap (λ (j : ℕ). entry_of (entry_record (limits_of l) j s)) at ∙ ap entry_of (h.stands.entries.each i few) ∙ sym (get_or-map entry_of m.all_entries i entry_kind.nothing (entry_of entry_kind.nothing) few)
      ∙ ap (λ (es : List ledger.Entry). get_or es i (entry_of entry_kind.nothing)) h.entries

  met_are : entries_met (limits_of l) n k s ≡ some_from f.entries n k
  unfolding entries_met
  met_are =
      let count : count_of Entries s.narrow ≡ length f.entries = h.stands.entries.count ∙ entries_are in
      let first : n ≡ 0 + n = omega arith in
      ap (λ (j : ℕ). map (λ e. entry_of (entry_record (limits_of l) e s)) (range_with_len n (min k (j - n)))) count
      ∙ ap (λ (j : ℕ). map (λ e. entry_of (entry_record (limits_of l) e s)) (range_with_len j (min k (length f.entries - n)))) first
      ∙ some_by (λ e. entry_of (entry_record (limits_of l) e s)) (entry_of entry_kind.nothing) f.entries 0 n k each_is

  says : entries (entries_met (limits_of l) n k s) ≡ told f c
  unfolding told
  says = ap entries met_are

  pub entries_done : Done l s f c (outcome (entries_told (limits_of l) n k s) s)
  entries_done =
      cond_both (leb k 256) (entries (entries_met (limits_of l) n k s)) (refused 2 0) (λ (a : Answer). Done l s f c (outcome a s))
      (λ few. goes l s f c _ s (turned_not l f c (good_is ∙ few) by_0 (ap (fits l) changed_is ∙ reached_fits l f r)) says (subst (Means (limits_of l) s) (sym changed_is) h))
      (λ many. refuses l s f c 2 0 (turned_bad l f c (good_is ∙ many)) (omega arith) at_2 h)

-- WHAT IS WRITTEN is the answer: so many were asked for as the check hands on
pub asked_few : (k m : ℕ) → Some m ≡ if (leb k 256) k → m ≤ 256
asked_few k m e = let asked = some_item (leb k 256) k m e in omega (arith, asked.1, leb-true k 256 asked.0)

pub entries_said : (l : memory.Limits) (s : State) (n k m t : ℕ) (r : Option ℕ) (old now : List ℕ) → answer_need l ≤ length old → Some m ≡ if (leb k 256) k →
    wrote r now ≡ entries_written l n m s old → t ≡ taken r → Said (entries_told l n k s) t old now
unfolding lot_count entry_count
entries_said l s n k m t r old now room e w is =
    let asked = some_item (leb k 256) k m e in
    let es = entries_met l n m s in
    let few : length es ≤ 256 = omega (arith, entries_few l s n m, asked_few k m e) in
    let long : length (bytes_of_answer (entries es)) ≤ 32 * l.lots + 8208 = (answers_fit (entries es)).1 l.lots (omega arith) few in
    let said : Said (entries es) t old now = said_by (entries es) r t old now (omega (arith, long, room)) (w ∙ cond-true (leb (answer_need l) (length old)) _ _ (le-leb _ _ room)) is in
    subst (λ (a : Answer). Said a t old now) (ap (λ (j : ℕ). entries (entries_met l n j s)) asked.1 ∙ sym (cond-true (leb k 256) _ _ asked.0)) said
