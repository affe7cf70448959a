-- Entries that are told of memory of small words have numbers that an answer's bytes can carry. Assumes nothing.
use Rattle.std.proofs.Common.{◌≡◌, ℕ, zero, suc, ◌+◌, ◌-◌, ◌^◌, ◌<◌, min, true, leb, length, refl, arith}
use Rattle.std.proofs.lemmas.Bool.{cond_both, and_from, leb-true, lt-ltb}
use Rattle.firm.specs.Calls.{Answer, refused, entries, field}
use Rattle.layout.specs.declared.head.Counter.TheVariants.{Entries}
use Rattle.layout.specs.declared.limits.Limits.{Limits}
use Rattle.memory.specs.Books.{count_of, entry_record}
use Rattle.questions.specs.Entries.{entry_of, entries_on, entries_met}
use Rattle.questions.proofs.CountedDown.{entries_few}
use Rattle.records.specs.State.{State}
use Rattle.records.specs.declared.entry.Entry.{Entry}
use Rattle.session.specs.Calling.{entries_told}
use Rattle.session.specs.Means.{Sized}
use Rattle.session.proofs.Small.{SmallEntry, entry_small}
use Rattle.wire.specs.Answers.{carries, each, entry_fits}

small : (n : ℕ) → n < 2 ^ 64 → field n ≡ true
small n h = lt-ltb n 18446744073709551616 (omega arith)

entry_carried : (x : Entry) → SmallEntry x → entry_fits (entry_of x) ≡ true
entry_carried x q =
    and_from (field x.left) _ (small _ (omega (arith, q.left)))
    (and_from (field x.right) _ (small _ (omega (arith, q.right))) (and_from (field x.amount) (field x.«document») (small _ q.amount) (small _ q.«document»)))

module _ (l : Limits) (s : State) (z : Sized l s) where
  on_carried : (n m : ℕ) → each entry_fits (entries_on l n m s) ≡ true
  unfolding each
  on_carried n zero = refl
  on_carried n (suc m) = and_from (entry_fits (entry_of (entry_record l n s))) _ (entry_carried (entry_record l n s) (entry_small l n s z)) (on_carried (n + 1) m)

  met_carried : (n k : ℕ) → each entry_fits (entries_met l n k s) ≡ true
  unfolding entries_met
  met_carried n k = on_carried n (min k (count_of Entries s.narrow - n))

  -- EVERY ANSWER to the question for entries
  pub entries_carried : (n k : ℕ) → carries (entries_told l n k s) ≡ true
  entries_carried n k =
      cond_both (leb k 256) (entries (entries_met l n k s)) (refused 2 0) (λ (a : Answer). carries a ≡ true)
      (λ few. and_from (field (length (entries_met l n k s))) (each entry_fits (entries_met l n k s)) (small _ (omega (arith, entries_few l s n k, leb-true k 256 few))) (met_carried n k))
      (λ _. refl)
