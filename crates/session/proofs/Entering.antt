-- An amount that is entered: the entries are the meaning's with it, and so are both sides of each account. Assumes nothing.
use Rattle.std.proofs.Common.{◌≡◌, ℕ, ◌+◌, ◌^◌, ◌<◌, ◌≤◌, true, false, cond, eqb, List, [], ◌∷◌, ◌++◌, map, length, sym, ap, ◌∙◌, subst, append-nil, arith}
use Rattle.std.proofs.lemmas.List.{map-append}
use Rattle.std.proofs.lemmas.Bool.{cond_both, cond-false}
use Rattle.firm.specs.Ledger.{entry, sum_of}
use Rattle.firm.specs.Ledger as ledger
use Rattle.firm.proofs.Picks.{pick_true, pick_false}
use Rattle.layout.specs.Layout.{Good}
use Rattle.layout.specs.declared.head.Counter.TheVariants.{Entries}
use Rattle.layout.specs.declared.limits.Limits.{Limits}
use Rattle.memory.specs.Books.{count_of}
use Rattle.questions.specs.Entries.{entry_of}
use Rattle.records.specs.State.{State, state}
use Rattle.records.specs.declared.balance.Balance.{Balance}
use Rattle.records.specs.declared.entry.Entry.{Entry}
use Rattle.rules.specs.Entering.{kept_posted, entered}
use Rattle.store.specs.Laws.{with_entries, with_balances}
use Rattle.store.specs.Steps.{After, entry_placed, post}
use Rattle.store.specs.View.{Kept, Stands}
use Rattle.store.proofs.EntryLaws.{adds_entry}
use Rattle.store.proofs.SumLaws.{posts}
use Rattle.session.specs.Means.{account_sums, Sized}
use Rattle.session.proofs.Counting.{balance_more}
use Rattle.session.proofs.Small.{SmallEntry, sized_entry_placed, sized_post}

-- memory that kept k keeps entries and sides of accounts that are those of es, and else what it kept
pub record Entered (l : Limits) (t : State) (k : Kept) (es : List ledger.Entry) : Type 0 where
  pub all : List Entry
  pub sides : ℕ → Balance
  pub stands : Stands l t (with_balances sides (with_entries all k))
  pub sized : Sized l t
  pub entries : map entry_of all ≡ es
  pub balances : (a : ℕ) → a < 9 → sides a ≡ account_sums es a

module _ (l : Limits) (s : State) (k : Kept) (es : List ledger.Entry) (y : Entry) (good : Good l) (was : Entered l s k es) (small : SmallEntry y) (il : y.left < 16) (ir : y.right < 16)
    (room : count_of Entries s.narrow + cond (eqb y.amount 0) 0 1 ≤ l.entries) (few : sum_of es + y.amount < 2 ^ 64) where
  abbrev more : List ledger.Entry
  more = es ++ entry y.left y.right y.amount y.«document»

  nothing_more : eqb y.amount 0 ≡ true → more ≡ es
  unfolding entry
  nothing_more e = ap (λ (xs : List ledger.Entry). es ++ xs) (pick_true (eqb y.amount 0) [] (entry_of y ∷ []) e) ∙ append-nil es

  one_more : eqb y.amount 0 ≡ false → more ≡ es ++ (entry_of y ∷ [])
  unfolding entry
  one_more e = ap (λ (xs : List ledger.Entry). es ++ xs) (pick_false (eqb y.amount 0) [] (entry_of y ∷ []) e)

  abbrev k₁ : Kept
  k₁ = with_balances was.sides (with_entries was.all k)

  posted : eqb y.amount 0 ≡ false → Entered l (kept_posted l y s) k (es ++ (entry_of y ∷ []))
  posted e =
      let free : length was.all < l.entries = omega (arith, room, cond-false {A = ℕ} (eqb y.amount 0) 0 1 e, was.stands.entries.count) in
      let adds = adds_entry l s k₁ y good was.stands il ir free in
      subst (λ (n : After ℕ State). Entered l (state (post y n.left.wide) n.left.narrow) k (es ++ (entry_of y ∷ []))) (sym adds.0) (record {
        all = was.all ++ (y ∷ []);
        sides = _;
        stands = posts l (entry_placed l y s) (with_entries (was.all ++ (y ∷ [])) k₁) y good adds.1 il ir;
        sized = sized_post l y (entry_placed l y s) (sized_entry_placed l y s small (omega (arith, was.stands.entries.count, free, good.entries)) was.sized);
        entries = map-append entry_of was.all (y ∷ []) ∙ ap (λ (xs : List ledger.Entry). xs ++ (entry_of y ∷ [])) was.entries;
        balances = λ a lt. balance_more es y a (was.sides a) (was.balances a lt) few;
      })

  pub enters : Entered l (entered l y s) k more
  unfolding entered
  enters =
      cond_both (eqb y.amount 0) s (kept_posted l y s) (λ (t : State). Entered l t k more)
      (λ none. subst (Entered l s k) (sym (nothing_more none)) was)
      (λ some. subst (Entered l (kept_posted l y s) k) (sym (one_more some)) (posted some))
