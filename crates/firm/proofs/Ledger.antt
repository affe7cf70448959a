-- The two sides of the accounts, and what lots cost, over lists put together. Assumes nothing.
use Rattle.std.proofs.Common.{◌≡◌, ℕ, ◌+◌, eqb, List, [], ◌∷◌, ◌++◌, sym, refl, arith}
use Rattle.std.proofs.lemmas.Bool.{eqb-true}
use Rattle.firm.specs.Stock.{pick, Lot, on_hand, worth, all_worth}
use Rattle.firm.specs.Ledger.{Entry, entry, left_side, right_side}
use Rattle.firm.proofs.Picks.{pick-both, pick_same}
use Rattle.firm.proofs.Sums.{Sums, sum_append, sum_push}

left_sums : (a : ℕ) → Sums (λ (e : Entry). pick (eqb e.on_left a) e.amount 0) (λ es. left_side es a)
unfolding left_side
left_sums a = record { none = refl; more = λ e es. refl }

right_sums : (a : ℕ) → Sums (λ (e : Entry). pick (eqb e.on_right a) e.amount 0) (λ es. right_side es a)
unfolding right_side
right_sums a = record { none = refl; more = λ e es. refl }

pub worth_sums : Sums (λ (l : Lot). l.cost) all_worth
unfolding all_worth
worth_sums = record { none = refl; more = λ l ls. refl }

pub on_hand_sums : (i : ℕ) → Sums (λ (l : Lot). pick (eqb l.item i) l.pieces 0) (λ ls. on_hand ls i)
unfolding on_hand
on_hand_sums i = record { none = refl; more = λ l ls. refl }

pub item_worth_sums : (i : ℕ) → Sums (λ (l : Lot). pick (eqb l.item i) l.cost 0) (λ ls. worth ls i)
unfolding worth
item_worth_sums i = record { none = refl; more = λ l ls. refl }

pub left_append : (xs ys : List Entry) (a : ℕ) → left_side (xs ++ ys) a ≡ left_side xs a + left_side ys a
left_append xs ys a = sum_append (left_sums a) xs ys

pub right_append : (xs ys : List Entry) (a : ℕ) → right_side (xs ++ ys) a ≡ right_side xs a + right_side ys a
right_append xs ys a = sum_append (right_sums a) xs ys

pub worth_push : (ls : List Lot) (l : Lot) → all_worth (ls ++ (l ∷ [])) ≡ all_worth ls + l.cost
worth_push ls l = sum_push worth_sums ls l

pub on_hand_push : (ls : List Lot) (l : Lot) (i : ℕ) → on_hand (ls ++ (l ∷ [])) i ≡ on_hand ls i + pick (eqb l.item i) l.pieces 0
on_hand_push ls l i = sum_push (on_hand_sums i) ls l

pub item_worth_push : (ls : List Lot) (l : Lot) (i : ℕ) → worth (ls ++ (l ∷ [])) i ≡ worth ls i + pick (eqb l.item i) l.cost 0
item_worth_push ls l i = sum_push (item_worth_sums i) ls l

-- an entry counts on its accounts alone, also where it is of nothing and not made
pub left_entry : (l r x d a : ℕ) → left_side (entry l r x d) a ≡ pick (eqb l a) x 0
unfolding entry left_side
left_entry l r x d a =
    pick-both (eqb x 0) [] (record { on_left = l; on_right = r; amount = x; document = d } ∷ []) (λ es. left_side es a ≡ pick (eqb l a) x 0)
    (λ z. rw (eqb-true x 0 z) (sym (pick_same (eqb l a) 0))) (λ _. omega arith)

pub right_entry : (l r x d a : ℕ) → right_side (entry l r x d) a ≡ pick (eqb r a) x 0
unfolding entry right_side
right_entry l r x d a =
    pick-both (eqb x 0) [] (record { on_left = l; on_right = r; amount = x; document = d } ∷ []) (λ es. right_side es a ≡ pick (eqb r a) x 0)
    (λ z. rw (eqb-true x 0 z) (sym (pick_same (eqb r a) 0))) (λ _. omega arith)

-- no entry: nothing on either side
pub left_none : (a : ℕ) → left_side [] a ≡ 0
left_none a = (left_sums a).none

pub right_none : (a : ℕ) → right_side [] a ≡ 0
right_none a = (right_sums a).none

-- to compute what a side comes to once more is booked, and what lots cost once more came: `simp ledger (omega arith)`
pub ruleset ledger = (left_append, right_append, left_entry, right_entry, left_none, right_none, worth_push)
