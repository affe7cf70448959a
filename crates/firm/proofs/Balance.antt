-- Statement 1: the books balance, and the stock account is what the lots cost. Assumes nothing.
use Rattle.std.proofs.Common.{◌≡◌, ℕ, zero, suc, ◌+◌, ◌-◌, ◌<◌, ◌≤◌, T, eqb, ltb, List, [], ◌++◌, sym, refl, ap, ◌∙◌, subst, inl, inr, append-nil, arith, lit<}
use mathlib.Core.Path.{fun_ext}
use Rattle.std.proofs.lemmas.Bool.{cases_eq}
use Rattle.firm.specs.Stock.{pick, Lot, on_hand, all_worth}
use Rattle.firm.specs.Ledger.{Entry, entry, left_side, right_side}
use Rattle.firm.specs.Firm.{Firm, recipe, the_order}
use Rattle.firm.specs.Calls.{Call, buys, sells, comes, goes, billed_by, bills, pays_out, pays_in, made_of, makes, counted, stock_of, account, order, lots_of, entries_from, garbled}
use Rattle.firm.specs.Changes.{changed}
use Rattle.firm.specs.Statements.{Balanced, over}
use Rattle.firm.proofs.Picks.{counts, counts_not}
use Rattle.firm.proofs.Cases.{counted_cases, reached_keeps}
use Rattle.firm.proofs.Taking.{take_keeps}
use Rattle.firm.proofs.RecipeTaking.{recipe_taking_keeps}
use Rattle.firm.proofs.Ledger.{ledger, left_append, right_append, left_entry, right_entry}

-- over all accounts: sums add up, and x on one of them comes to x
over_add : (g h k : ℕ → ℕ) → ((a : ℕ) → g a ≡ h a + k a) → (n : ℕ) → over g n ≡ over h n + over k n
unfolding over
over_add g h k e zero = refl
over_add g h k e (suc n) = omega (arith, e n, over_add g h k e n)

over_none : (b x n : ℕ) → n ≤ b → over (λ a. pick (eqb b a) x 0) n ≡ 0
unfolding over
over_none b x zero h = refl
over_none b x (suc n) h = omega (arith, over_none b x n (omega arith), counts_not b n x (omega arith))

over_one : (b x n : ℕ) → b < n → over (λ a. pick (eqb b a) x 0) n ≡ x
unfolding over
over_one b x zero h = absurd (omega arith)
over_one b x (suc n) h =
    elim (cases_eq b n) [
      | inl e ↦ omega (arith, over_none b x n (omega arith), counts b n x e)
      | inr e ↦ omega (arith, over_one b x n (omega arith), counts_not b n x e)
    ]

-- as much on the left as on the right of all nine accounts
abbrev Even : List Entry → Type 0
Even es = over (left_side es) 9 ≡ over (right_side es) 9

even_append : (xs ys : List Entry) → Even xs → Even ys → Even (xs ++ ys)
even_append xs ys e d =
    omega (
      arith,
      over_add (left_side (xs ++ ys)) (left_side xs) (left_side ys) (left_append xs ys) 9,
      over_add (right_side (xs ++ ys)) (right_side xs) (right_side ys) (right_append xs ys) 9,
    )

even_entry : (l r x d : ℕ) → l < 9 → r < 9 → Even (entry l r x d)
even_entry l r x d h k =
    ap (λ g. over g 9) (fun_ext (left_entry l r x d)) ∙ (over_one l x 9 h ∙ sym (ap (λ g. over g 9) (fun_ext (right_entry l r x d)) ∙ over_one r x 9 k))

-- books stay even where nothing is booked, and where an entry between two of the accounts is
even_same : (es : List Entry) → Even es → Even (es ++ [])
even_same es h = subst Even (sym (append-nil es)) h

even_more : (es : List Entry) (l r x d : ℕ) → T (ltb l 9) → T (ltb r 9) → Even es → Even (es ++ entry l r x d)
even_more es l r x d h k e = even_append es (entry l r x d) e (even_entry l r x d (lit< h) (lit< k))

abbrev StockIs : List Entry → List Lot → Type 0
StockIs es ls = left_side es 0 ≡ right_side es 0 + all_worth ls

abbrev Balance : Firm → Type 0
Balance f = Even f.entries × StockIs f.entries f.lots

balance_keeps : (f : Firm) (c : Call) → Balance f → Balance (changed f c)
unfolding changed
balance_keeps f (buys i q p) h = (even_same f.entries h.0, simp ledger (omega arith))
balance_keeps f (sells i q p) h = (even_same f.entries h.0, simp ledger (omega arith))
balance_keeps f (comes o q) h = (even_more f.entries 0 1 _ _ tt tt h.0, simp ledger (omega arith))
balance_keeps f (goes o q) h =
    let t = take_keeps f.lots (the_order f o).item q in
    (even_more f.entries 6 0 _ _ tt tt h.0, simp ledger (omega arith))
balance_keeps f (billed_by o q x) h =
    let more = even_append _ _ (even_entry 7 2 _ _ (lit< tt) (lit< tt)) (even_entry 2 7 _ _ (lit< tt) (lit< tt)) in
    (even_append f.entries _ h.0 (even_append _ _ (even_entry 1 2 _ _ (lit< tt) (lit< tt)) more), simp ledger (omega arith))
balance_keeps f (bills o q) h = (even_more f.entries 3 5 _ _ tt tt h.0, simp ledger (omega arith))
balance_keeps f (pays_out x) h = (even_more f.entries 2 4 _ _ tt tt h.0, simp ledger (omega arith))
balance_keeps f (pays_in x) h = (even_more f.entries 4 3 _ _ tt tt h.0, simp ledger (omega arith))
balance_keeps f (made_of i ps) h = (even_same f.entries h.0, simp ledger (omega arith))
balance_keeps f (makes i q) h =
    let t = (recipe_taking_keeps f.lots (recipe f.recipes i []) q).0 in
    (even_same f.entries h.0, simp ledger (omega arith))
balance_keeps f (counted i q) h =
    counted_cases f i q Balance
    (λ _. (even_same f.entries h.0, simp ledger (omega arith)))
    (λ _. (even_same f.entries h.0, simp ledger (omega arith)))
    (λ _. let t = take_keeps f.lots i (on_hand f.lots i - q) in (even_more f.entries 8 0 _ _ tt tt h.0, simp ledger (omega arith)))
balance_keeps f (stock_of i) h = h
balance_keeps f (account a) h = h
balance_keeps f (order o) h = h
balance_keeps f (lots_of i) h = h
balance_keeps f (entries_from n k) h = h
balance_keeps f (garbled n) h = h

pub balanced : Balanced
unfolding over left_side right_side all_worth
balanced l = reached_keeps l Balance (λ f c _. balance_keeps f c) (refl, refl)
