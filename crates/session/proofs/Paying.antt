-- Payments to suppliers and by customers, at any stage that does those calls. Assumes nothing.
use Rattle.std.proofs.Common.{◌≡◌, ℕ, suc, ◌+◌, ◌-◌, ◌^◌, ◌<◌, ◌≤◌, min, Bool, true, false, cond, ◌&&◌, ◌||◌, eqb, leb, ◌++◌, length, sym, refl, ap, ◌∙◌, subst, arith}
use Rattle.std.proofs.lemmas.List.{length-map}
use Rattle.std.proofs.lemmas.Bool.{cond_both, and_parts, leb-true, ltb-true}
use Rattle.firm.specs.Stock.{pick}
use Rattle.firm.specs.Ledger.{entry}
use Rattle.firm.specs.Firm.{Firm}
use Rattle.firm.specs.Calls.{Call, number, Limits, call_number}
use Rattle.firm.specs.Calls as calls
use Rattle.firm.specs.Changes.{next, changed}
use Rattle.firm.specs.Refusals.{some_money, good_fields, good_call, turned_by, fits, place}
use Rattle.firm.specs.Answers.{told}
use Rattle.firm.specs.Statements.{Reached}
use Rattle.firm.proofs.Bounds.{reached_parts}
use Rattle.firm.proofs.Fitting.{fits_by, length_entry, sum_entry}
use Rattle.firm.proofs.Picks.{pick_true, pick_false}
use Rattle.firm.proofs.Turned.{turned_bad, turned_known, turned_full, turned_not}
use Rattle.layout.specs.Layout.{Good}
use Rattle.layout.specs.declared.head.Counter.TheVariants.{Entries}
use Rattle.layout.specs.declared.head.Total.TheVariants.{Documents, Booked}
use Rattle.memory.specs.Books.{count_of, total_of, balance_of}
use Rattle.questions.specs.Entries.{entry_of}
use Rattle.records.specs.State.{State, state}
use Rattle.records.specs.declared.balance.Balance.{Balance}
use Rattle.records.specs.declared.entry.Entry.{Entry}
use Rattle.rules.specs.Checks.{owed, document_fits, enters as entering}
use Rattle.rules.specs.Entering.{entered}
use Rattle.rules.specs.Outcome.{refuse, outcome}
use Rattle.rules.specs.Paying.{paid, pays_fits, pays, pays_out, pays_in}
use Rattle.rules.specs.Totals.{raised, booked}
use Rattle.store.specs.Laws.{with_entries, with_total, with_balances}
use Rattle.store.specs.View.{Kept}
use Rattle.session.specs.Means.{Means, account_sums, limits_of}
use Rattle.session.proofs.Entering.{Entered, enters}
use Rattle.session.proofs.Steps.{raised_stands}
use Rattle.session.proofs.Small.{sized_raised}
use Rattle.session.proofs.Turning.{Done, refuses, goes}

-- A PAYMENT of x that nothing else stands against, on the left of account a and on the right of account b
module _ (l : Limits) (s : State) (f : Firm) (c : Call) (a b x : ℕ) (left_known : a < 16) (right_known : b < 16) (good : Good (limits_of l)) (r : Reached l f) (h : Means (limits_of l) s f)
    (good_is : good_call l c ≡ true) (by_0 : turned_by f c ≡ 0) (at_9 : place c 9 ≡ 0)
    (changes : changed f c ≡ next f f.lots f.orders f.recipes (entry a b x f.documents)) (tells : told f c ≡ number f.documents) where
  abbrev m : Kept
  m = h.kept

  abbrev d : ℕ
  d = total_of Documents s.wide

  documents_are : d ≡ f.documents
  documents_are = h.stands.frame.totals Documents ∙ h.documents

  entries_are : length m.all_entries ≡ length f.entries
  entries_are = sym (length-map m.all_entries entry_of) ∙ ap length h.entries

  -- WHETHER IT FITS: the firm afterwards, by the document
  abbrev target : ℕ → Firm
  target n = next f f.lots f.orders f.recipes (entry a b x n)

  changed_is : changed f c ≡ target d
  changed_is = changes ∙ ap target (sym documents_are)

  fits_are : fits l (changed f c) ≡ pays_fits (limits_of l) x s
  fits_are =
      let fit = reached_parts l f r in
      ap (fits l) changed_is
      ∙ fits_by l (target d) true true true (leb (count_of Entries s.narrow + cond (eqb x 0) 0 1) l.entries) (leb (total_of Booked s.wide + x) 1000000000000000) true (document_fits s)
      fit.orders fit.lots fit.parts
      (ap (λ (n : ℕ). leb n l.entries) (length_entry f.entries a b x d ∙ ap (λ (n : ℕ). n + cond (eqb x 0) 0 1) (sym (h.stands.entries.count ∙ entries_are))))
      (ap (λ (n : ℕ). leb n 1000000000000000) (sum_entry f.entries a b x d ∙ ap (λ (n : ℕ). n + x) (sym (h.stands.frame.totals Booked ∙ h.booked))))
      fit.worth
      (ap (λ (n : ℕ). leb (suc n) 1099511627776) (sym documents_are))
      ∙ both (leb (count_of Entries s.narrow + cond (eqb x 0) 0 1) l.entries) (leb (total_of Booked s.wide + x) 1000000000000000) (document_fits s)
    where
      both : (u v g : Bool) → ((true && true) && ((true && u) && (v && (true && g)))) ≡ ((u && v) && g)
      both true true g = refl
      both true false g = refl
      both false v g = refl

  -- IT IS DONE
  module _ (fit : pays_fits (limits_of l) x s ≡ true) where
    abbrev tests : Type 0
    tests = (count_of Entries s.narrow + cond (eqb x 0) 0 1 ≤ l.entries) × (total_of Booked s.wide + x ≤ 1000000000000000) × (d < 1099511627776)

    tested : tests
    tested =
        let u = and_parts (entering (limits_of l) x s) (document_fits s) fit in
        let v = and_parts (leb (count_of Entries s.narrow + cond (eqb x 0) 0 1) l.entries) (leb (total_of Booked s.wide + x) 1000000000000000) u.0 in
        (leb-true _ _ v.0, leb-true _ _ v.1, ltb-true _ _ u.1)

    -- the entry
    abbrev y : Entry
    y = record { left = a; right = b; amount = x; «document» = d }

    enters_it : Entered (limits_of l) (entered (limits_of l) y s) m (f.entries ++ entry a b x d)
    enters_it =
        enters (limits_of l) s m f.entries y good
        (record { all = m.all_entries; sides = m.balances; stands = h.stands; sized = h.sized; entries = h.entries; balances = h.balances })
        (record { left = omega (arith, left_known); right = omega (arith, right_known); amount = omega (arith, tested.1); «document» = omega (arith, tested.2) }) left_known right_known
        (omega (arith, tested.0)) (omega (arith, tested.1, h.stands.frame.totals Booked, h.booked))

    -- the totals, and what all of it stands for
    paid_means : Means (limits_of l) (paid (limits_of l) a b x d s) (changed f c)
    unfolding paid
    paid_means =
        subst (Means (limits_of l) (booked x s₁)) (sym changed_is) (record {
          kept = k₃;
          stands = raised_stands (limits_of l) s₂ k₂ Documents 1 good (raised_stands (limits_of l) s₁ k₁ Booked x good enters_it.stands);
          documents = omega (arith, tested.2, h.documents, documents_are);
          booked = omega (arith, tested.1, h.booked, h.stands.frame.totals Booked, sum_entry f.entries a b x d);
          worth = h.worth;
          lots = h.lots;
          used = h.used;
          orders = h.orders;
          entries = enters_it.entries;
          stocks = h.stocks;
          balances = enters_it.balances;
          recipes = h.recipes;
          sized = sized_raised (limits_of l) Documents 1 s₂ (sized_raised (limits_of l) Booked x s₁ enters_it.sized);
        })
      where
        s₁ : State
        s₁ = entered (limits_of l) y s

        k₁ : Kept
        k₁ = with_balances enters_it.sides (with_entries enters_it.all m)

        s₂ : State
        s₂ = state (raised Booked x s₁.wide) s₁.narrow

        k₂ : Kept
        k₂ = with_total Booked (min (2 ^ 64 - 1) (k₁.totals Booked + x)) k₁

        k₃ : Kept
        k₃ = with_total Documents (min (2 ^ 64 - 1) (k₂.totals Documents + 1)) k₂

    says : number d ≡ told f c
    says = ap number documents_are ∙ sym tells

  pays_done : Done l s f c (pays (limits_of l) a b x s)
  pays_done =
      cond_both (pays_fits (limits_of l) x s) (outcome (number d) (paid (limits_of l) a b x d s)) (refuse 9 0 s) (Done l s f c)
      (λ fit. goes l s f c _ _ (turned_not l f c good_is by_0 (fits_are ∙ fit)) (says fit) (paid_means fit))
      (λ over. refuses l s f c 9 0 (turned_full l f c good_is by_0 (fits_are ∙ over)) (omega arith) at_9 h)

-- TO SUPPLIERS
module _ (l : Limits) (s : State) (f : Firm) (x : ℕ) (can : ℕ → Bool) (can_pay : can 6 ≡ true) (good : Good (limits_of l)) (cans : l.calls_can ≡ can) (r : Reached l f) (h : Means (limits_of l) s f) where
  abbrev payment : Call
  payment = calls.pays_out x

  out_good : good_call l payment ≡ some_money x
  unfolding call_number good_fields
  out_good = ap (λ (b : Bool). (eqb 6 255 || b) && some_money x) (ap (λ (g : ℕ → Bool). g 6) cans ∙ can_pay)

  out_at_2 : place payment 2 ≡ 0
  unfolding place call_number
  out_at_2 = refl

  out_at_6 : place payment 6 ≡ 0
  unfolding place call_number
  out_at_6 = refl

  out_at_9 : place payment 9 ≡ 0
  unfolding place call_number
  out_at_9 = refl

  out_changed : changed f payment ≡ next f f.lots f.orders f.recipes (entry 2 4 x f.documents)
  unfolding changed
  out_changed = refl

  out_told : told f payment ≡ number f.documents
  unfolding told
  out_told = refl

  -- what is owed, by the sums that are kept
  owes : balance_of 2 s.wide ≡ account_sums f.entries 2
  owes = h.stands.sums.balances 2 (omega arith) ∙ h.balances 2 (omega arith)

  out_by : turned_by f payment ≡ pick (owed x s.wide) 0 6
  unfolding turned_by
  out_by = ap (λ (b : Balance). pick (leb (b.left + x) b.right) 0 6) (sym owes)

  pub pays_out_done : Done l s f payment (pays_out (limits_of l) x s)
  pays_out_done =
      cond_both (some_money x) _ (refuse 2 0 s) (Done l s f payment)
      (λ g. cond_both (owed x s.wide) (pays (limits_of l) 2 4 x s) (refuse 6 0 s) (Done l s f payment)
      (λ owing. pays_done l s f payment 2 4 x (omega arith) (omega arith) good r h (out_good ∙ g) (out_by ∙ pick_true (owed x s.wide) 0 6 owing) out_at_9 out_changed out_told)
      (λ more. refuses l s f payment 6 0 (turned_known l f payment 6 (out_good ∙ g) (out_by ∙ pick_false (owed x s.wide) 0 6 more) (omega arith)) (omega arith) out_at_6 h))
      (λ bad. refuses l s f payment 2 0 (turned_bad l f payment (out_good ∙ bad)) (omega arith) out_at_2 h)

-- BY CUSTOMERS
module _ (l : Limits) (s : State) (f : Firm) (x : ℕ) (can : ℕ → Bool) (can_pay : can 7 ≡ true) (good : Good (limits_of l)) (cans : l.calls_can ≡ can) (r : Reached l f) (h : Means (limits_of l) s f) where
  abbrev receipt : Call
  receipt = calls.pays_in x

  in_good : good_call l receipt ≡ some_money x
  unfolding call_number good_fields
  in_good = ap (λ (b : Bool). (eqb 7 255 || b) && some_money x) (ap (λ (g : ℕ → Bool). g 7) cans ∙ can_pay)

  in_at_2 : place receipt 2 ≡ 0
  unfolding place call_number
  in_at_2 = refl

  in_at_9 : place receipt 9 ≡ 0
  unfolding place call_number
  in_at_9 = refl

  in_by : turned_by f receipt ≡ 0
  unfolding turned_by
  in_by = refl

  in_changed : changed f receipt ≡ next f f.lots f.orders f.recipes (entry 4 3 x f.documents)
  unfolding changed
  in_changed = refl

  in_told : told f receipt ≡ number f.documents
  unfolding told
  in_told = refl

  pub pays_in_done : Done l s f receipt (pays_in (limits_of l) x s)
  pays_in_done =
      cond_both (some_money x) (pays (limits_of l) 4 3 x s) (refuse 2 0 s) (Done l s f receipt)
      (λ g. pays_done l s f receipt 4 3 x (omega arith) (omega arith) good r h (in_good ∙ g) in_by in_at_9 in_changed in_told)
      (λ bad. refuses l s f receipt 2 0 (turned_bad l f receipt (in_good ∙ bad)) (omega arith) in_at_2 h)
