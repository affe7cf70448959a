-- What memory itself says after any list of calls, from what it means. Assumes nothing.
use Rattle.std.proofs.Common.{◌≡◌, ℕ, zero, suc, ◌+◌, ◌<◌, true, List, [], ◌∷◌, ◌++◌, map, length, get_or, sym, refl, ap, ◌∙◌, subst, ap₂, append_assoc, append-nil, arith}
use Rattle.std.specs.List.{range_with_len}
use Rattle.std.proofs.lemmas.Bool.{and_parts, and_from}
use Rattle.firm.specs.Ledger as ledger
use Rattle.firm.specs.Ledger.{left_side, right_side}
use Rattle.firm.specs.Firm.{Firm, new_firm}
use Rattle.firm.specs.Calls.{Call, Limits, readable, all_readable}
use Rattle.firm.specs.Answers.{after, ran}
use Rattle.firm.specs.Promise.{GoodLimits, Memory, left_by}
use Rattle.firm.specs.Statements.{over, not_billed, billed_sales, orders_fine}
use Rattle.firm.specs.Stock.{all_worth}
use Rattle.firm.proofs.Balance.{balanced}
use Rattle.firm.proofs.Keeping.{left_right}
use Rattle.firm.proofs.Orders.{in_three_ways, open_orders}
use Rattle.firm.proofs.Staying.{entries_stay}
use Rattle.layout.specs.declared.head.Counter.TheVariants.{Orders, Entries}
use Rattle.layout.specs.declared.head.Total.TheVariants.{Worth}
use Rattle.memory.specs.Books.{count_of, total_of, balance_of, order_record, entry_record}
use Rattle.questions.specs.Entries.{entry_of}
use Rattle.records.specs.Kinds.{order_kind, entry_kind}
use Rattle.records.specs.State.{State}
use Rattle.store.specs.View.{Table}
use Rattle.session.specs.Agreeing.{orders_in, entries_in, Agrees, memory_after, LedgerAgrees, EntriesKept}
use Rattle.session.specs.Keeper.{keeper, state_of, Standing, for_all_calls}
use Rattle.session.specs.Means.{limits_of, order_of, Means}
use Rattle.session.proofs.Keeping.{all_steps, split_back}

-- what is read by number, from the number a on, is what stands in a list
by_number : {X Y : Type 0} (read : X → Y) (g : ℕ → X) (d : X) (xs : List X) (a : ℕ) → ((i : ℕ) → i < length xs → g (a + i) ≡ get_or xs i d) →
    map (λ k. read (g k)) (range_with_len a (length xs)) ≡ map read xs
by_number read g d [] a h = refl
by_number {X} {Y} read g d (x ∷ xs) a h =
    let here : a + 0 ≡ a = omega arith in
    let first : g a ≡ x = sym (ap g here) ∙ h 0 (omega arith) in
    let behind : (i : ℕ) → i < length xs → g (a + 1 + i) ≡ get_or xs i d =
    λ i lt. let on : a + 1 + i ≡ a + suc i = omega arith in ap g on ∙ h (suc i) (omega arith) in
    ap₂ (λ (y : Y) (ys : List Y). y ∷ ys) (ap read first) (by_number read g d xs (a + 1) behind)

all_by_number : {X Y : Type 0} (read : X → Y) (g : ℕ → X) (d : X) (xs : List X) (n : ℕ) → n ≡ length xs → Table g d xs →
    map (λ k. read (g k)) (range_with_len 0 n) ≡ map read xs
all_by_number read g d xs n e h =
    ap (λ (j : ℕ). map (λ k. read (g k)) (range_with_len 0 j)) e
    ∙ by_number read g d xs 0 (λ i lt. let here : 0 + i ≡ i = omega arith in ap g here ∙ h i lt)

-- WHAT MEANS A FIRM has its orders, entries and sums
module _ (l : Limits) (s : State) (f : Firm) (h : Means (limits_of l) s f) where
  orders_are : orders_in (limits_of l) s ≡ f.orders
  orders_are =
      let o = h.stands.orders in
      all_by_number order_of (λ k. order_record (limits_of l) k s.narrow) order_kind.nothing h.kept.all_orders (count_of Orders s.narrow) o.count o.each ∙ h.orders

  entries_are : entries_in (limits_of l) s ≡ f.entries
  entries_are =
      let e = h.stands.entries in
      all_by_number entry_of (λ k. entry_record (limits_of l) k s) entry_kind.nothing h.kept.all_entries (count_of Entries s.narrow) e.count e.each ∙ h.entries

  left_is : (a : ℕ) → a < 9 → (balance_of a s.wide).left ≡ left_side f.entries a
  left_is a lt = ap (λ b. b.left) (h.stands.sums.balances a (omega (arith, lt)) ∙ h.balances a lt)

  right_is : (a : ℕ) → a < 9 → (balance_of a s.wide).right ≡ right_side f.entries a
  right_is a lt = ap (λ b. b.right) (h.stands.sums.balances a (omega (arith, lt)) ∙ h.balances a lt)

  worth_is : total_of Worth s.wide ≡ all_worth f.lots
  worth_is = h.stands.frame.totals Worth ∙ h.worth

-- sums over as many numbers of what is the same below that
over_same : (g k : ℕ → ℕ) (n : ℕ) → ((a : ℕ) → a < n → g a ≡ k a) → over g n ≡ over k n
unfolding over
over_same g k zero h = refl
over_same g k (suc n) h = ap₂ (λ (x y : ℕ). x + y) (h n (omega arith)) (over_same g k n (λ a lt. h a (omega (arith, lt))))

-- what stands for a firm that calls reach agrees
agrees : (l : Limits) (m : Memory) (f : Firm) → GoodLimits l → Standing l m f → Agrees (limits_of l) (state_of m)
agrees l m f g e =
    let s = e.slices in
    let h = e.means in
    let even = balanced l f e.reached in
    let three = in_three_ways l f e.reached in
    let billed = open_orders l f e.reached in
    let left : (a : ℕ) → a < 9 → (balance_of a s.wide).left ≡ left_side f.entries a = left_is l s f h in
    let right : (a : ℕ) → a < 9 → (balance_of a s.wide).right ≡ right_side f.entries a = right_is l s f h in
    let os = sym (orders_are l s f h) in
    subst (Agrees (limits_of l)) (sym (ap state_of e.words ∙ split_back l s f h))
    (record {
      balanced = over_same _ _ 9 left ∙ even.0 ∙ sym (over_same _ _ 9 right);
      stock = omega (arith, left 0 (omega arith), right 0 (omega arith), worth_is l s f h, even.1);
      received = omega (arith, left 1 (omega arith), right 1 (omega arith), billed.0, ap not_billed os);
      paid = omega (arith, left 2 (omega arith), right 2 (omega arith), three.1);
      customers = left 3 (omega arith) ∙ billed.1 ∙ ap billed_sales os;
      in_three_ways = sym (ap orders_fine os) ∙ three.0;
    })

-- the books after some calls
after_calls : (l : Limits) (cs : List Call) → GoodLimits l → all_readable cs ≡ true → Standing (for_all_calls l) (left_by keeper (keeper.opened l) cs) (ran (for_all_calls l) new_firm cs)
after_calls l cs g h =
    let s = all_steps (for_all_calls l) g refl in
    left_right keeper (for_all_calls l) (Standing (for_all_calls l)) s cs (keeper.opened l) new_firm h s.opens

pub ledger_agrees : LedgerAgrees
unfolding LedgerAgrees
ledger_agrees l cs g h = agrees (for_all_calls l) (left_by keeper (keeper.opened l) cs) (ran (for_all_calls l) new_firm cs) g (after_calls l cs g h)

-- ENTRIES of what some calls leave, after further ones
readable_before : (cs ds : List Call) → all_readable (cs ++ ds) ≡ true → all_readable cs ≡ true
unfolding all_readable
readable_before [] ds h = refl
readable_before (c ∷ cs) ds h =
    let p = and_parts (readable c) (all_readable (cs ++ ds)) h in
    and_from (readable c) (all_readable cs) p.0 (readable_before cs ds p.1)

more_entries : (l : Limits) (f : Firm) (ds : List Call) → (es : List ledger.Entry) × ((ran l f ds).entries ≡ f.entries ++ es)
unfolding ran
more_entries l f [] = ([], sym (append-nil f.entries))
more_entries l f (d ∷ ds) =
    let one = entries_stay l f d in
    let on = more_entries l (after l f d) ds in
    (one.0 ++ on.0, on.1 ∙ ap (λ (es : List ledger.Entry). es ++ on.0) one.1 ∙ append_assoc f.entries one.0 on.0)

ran_on : (l : Limits) (f : Firm) (cs ds : List Call) → ran l f (cs ++ ds) ≡ ran l (ran l f cs) ds
unfolding ran
ran_on l f [] ds = refl
ran_on l f (c ∷ cs) ds = ran_on l (after l f c) cs ds

entries_there : (l : Limits) (cs : List Call) → GoodLimits l → all_readable cs ≡ true → entries_in (limits_of l) (memory_after l cs) ≡ (ran (for_all_calls l) new_firm cs).entries
entries_there l cs g h =
    let e = after_calls l cs g h in
    ap (λ (m : Memory). entries_in (limits_of l) (state_of m)) e.words
    ∙ ap (entries_in (limits_of l)) (split_back (for_all_calls l) e.slices (ran (for_all_calls l) new_firm cs) e.means)
    ∙ entries_are (for_all_calls l) e.slices (ran (for_all_calls l) new_firm cs) e.means

pub entries_kept : EntriesKept
unfolding EntriesKept
entries_kept l cs ds g h =
    let f = ran (for_all_calls l) new_firm cs in
    let more = more_entries (for_all_calls l) f ds in (
      more.0,
      entries_there l (cs ++ ds) g h ∙ ap (λ (x : Firm). x.entries) (ran_on (for_all_calls l) new_firm cs ds) ∙ more.1
          ∙ ap (λ (es : List ledger.Entry). es ++ more.0) (sym (entries_there l cs g (readable_before cs ds h))),
    )
