-- Walking along lots while pieces are wanted: a turn, and its ends. Assumes nothing.
use Rattle.std.proofs.Common.{◌≡◌, ℕ, zero, suc, ◌+◌, ◌-◌, ◌<◌, ◌≤◌, cond, eqb, leb, List, [], ◌∷◌, length, Some, None, Option, sym, refl, ap, ◌∙◌, arith, length-append}
use Rattle.std.proofs.lemmas.Bool.{eq-eqb, ne_eqb, cond-true, cond-false, cond_both, leb-true, le-leb}
use Rattle.layout.specs.declared.limits.Limits.{Limits}
use Rattle.memory.specs.Books.{lot_record, put_lot}
use Rattle.questions.specs.Listing.{lot_of}
use Rattle.store.specs.Steps.{sum}
use Rattle.records.specs.State.{State, state}
use Rattle.records.specs.declared.lot.Lot.{Lot}
use Rattle.store.specs.Steps.{first_lot, lot_after, lot_freed}
use Rattle.taking.specs.Parts.{part_of, rest_of}
use Rattle.taking.specs.Takes.{cost_on, Gave, gave, given, on_oldest, take_oldest, Taking, taking, behind, taken_on, most_lines, taken_each}
use Rattle.taking.specs.declared.wants.Want.{Want}

-- a part has no more pieces than are wanted
pub part_few : (x : Lot) (q : ℕ) → (part_of x q).pieces ≤ q
unfolding part_of
part_few x q = cond_both (leb x.pieces q) x _ (λ (p : Lot). p.pieces ≤ q) (λ e. leb-true _ _ e) (λ _. omega arith)

-- WHAT THE OLDEST LOT GIVES: nothing where there is none, itself where no more is wanted, or a part
pub none_gave : (l : Limits) (i q : ℕ) (s : State) → first_lot l i s.narrow ≡ None → gave None s ≡ take_oldest l i q s
unfolding take_oldest
none_gave l i q s e = ap (on_oldest l i q s) (sym e)

pub whole_gave : (l : Limits) (i q c : ℕ) (s t : State) → first_lot l i s.narrow ≡ Some c → (lot_record l c s).pieces ≤ q →
    t ≡ state s.wide (lot_freed l i c s.narrow) → gave (Some (lot_record l c s)) t ≡ take_oldest l i q s
unfolding take_oldest given part_of
whole_gave l i q c s t first le is =
    let x : Lot = lot_record l c s in
    let whole : part_of x q ≡ x = cond-true (leb x.pieces q) x _ (le-leb x.pieces q le) in
    let freed : given l i c x x s ≡ t = cond-true (eqb x.pieces x.pieces) _ _ (eq-eqb x.pieces x.pieces refl) ∙ sym is in
    sym (ap (on_oldest l i q s) first ∙ ap (λ (p : Lot). gave (Some p) (given l i c x p s)) whole ∙ ap (gave (Some x)) freed)

pub part_gave : (l : Limits) (i q c : ℕ) (s t : State) → first_lot l i s.narrow ≡ Some c → q < (lot_record l c s).pieces →
    t ≡ put_lot l c (rest_of (lot_record l c s) (part_of (lot_record l c s) q)) s → gave (Some (part_of (lot_record l c s) q)) t ≡ take_oldest l i q s
unfolding take_oldest given
part_gave l i q c s t first lt is =
    let x : Lot = lot_record l c s in
    let p : Lot = part_of x q in
    let rest : given l i c x p s ≡ t = cond-false (eqb p.pieces x.pieces) _ _ (ne_eqb p.pieces x.pieces (λ e. omega (arith, part_few x q))) ∙ sym is in
    sym (ap (on_oldest l i q s) first ∙ ap (gave (Some p)) rest)

-- all that is wanted comes of a lot that has more
pub part_all : (x : Lot) (q : ℕ) → q < x.pieces → q - (part_of x q).pieces ≡ 0
unfolding part_of
part_all x q lt =
    cond_both (leb x.pieces q) x _ (λ (p : Lot). q - p.pieces ≡ 0) (λ e. omega (arith, leb-true _ _ e)) (λ _. omega arith)

-- WHAT IT WOULD COST
pub cost_enough : (k : ℕ) (l : Limits) (s : State) (o : Option ℕ) (q x : ℕ) → q ≡ 0 → cost_on k l s o q x ≡ x
cost_enough zero l s o q x e = refl
cost_enough (suc k) l s None q x e = refl
cost_enough (suc k) l s (Some c) q x e = cond-true (eqb q 0) x _ (eq-eqb q 0 e)

pub cost_ends : (k : ℕ) (l : Limits) (s : State) (o : Option ℕ) (q x : ℕ) → o ≡ None → cost_on k l s o q x ≡ x
cost_ends zero l s o q x e = refl
cost_ends (suc k) l s o q x e = ap (λ (p : Option ℕ). cost_on (suc k) l s p q x) e

pub cost_turns : (n j : ℕ) (l : Limits) (s : State) (o : Option ℕ) (c q x : ℕ) → j < n → (q ≡ 0 → ⊥) → o ≡ Some c →
    cost_on (n - (j + 1)) l s (lot_after l c s.narrow) (q - (part_of (lot_record l c s) q).pieces) (sum x (part_of (lot_record l c s) q).cost) ≡ cost_on (n - j) l s o q x
cost_turns n j l s o c q x lt ne e =
    let d : n - j ≡ suc (n - (j + 1)) = omega arith in
    sym (ap (λ (k : ℕ). cost_on k l s o q x) d ∙ ap (λ (p : Option ℕ). cost_on (suc (n - (j + 1))) l s p q x) e ∙ cond-false (eqb q 0) x _ (ne_eqb q 0 ne))

pub cost_over : (n j : ℕ) (l : Limits) (s : State) (o : Option ℕ) (q x : ℕ) → n ≤ j → cost_on (n - j) l s o q x ≡ x
cost_over n j l s o q x le = let d : n - j ≡ 0 = omega arith in ap (λ (k : ℕ). cost_on k l s o q x) d

-- TAKING, by what the oldest lot gave
abbrev pub on : ℕ → Limits → ℕ → ℕ → State → Gave → Taking
on k l i q s g = elim g.part as (λ _. Taking) [ Some p ↦ behind (lot_of p) (taken_on k l i (q - p.pieces) g.slices) | None ↦ taking s [] ]

pub taken_enough : (k : ℕ) (l : Limits) (i q : ℕ) (s : State) → q ≡ 0 → taken_on k l i q s ≡ taking s []
taken_enough zero l i q s e = refl
taken_enough (suc k) l i q s e = cond-true (eqb q 0) (taking s []) _ (eq-eqb q 0 e)

-- where the item has no lot, nothing is taken
pub taken_ends : (k : ℕ) (l : Limits) (i q : ℕ) (s t : State) → gave None t ≡ take_oldest l i q s → taken_on k l i q s ≡ taking s []
taken_ends zero l i q s t e = refl
taken_ends (suc k) l i q s t e =
    ap (λ (g : Gave). cond (eqb q 0) (taking s []) (on k l i q s g)) (sym e)
    ∙ cond_both (eqb q 0) (taking s []) (taking s []) (λ (u : Taking). u ≡ taking s []) (λ _. refl) (λ _. refl)

pub taken_more : (k : ℕ) (l : Limits) (i q : ℕ) (s : State) (p : Lot) (t : State) → (q ≡ 0 → ⊥) → gave (Some p) t ≡ take_oldest l i q s →
    taken_on (suc k) l i q s ≡ behind (lot_of p) (taken_on k l i (q - p.pieces) t)
taken_more k l i q s p t ne e = cond-false (eqb q 0) (taking s []) _ (ne_eqb q 0 ne) ∙ ap (on k l i q s) (sym e)

pub taken_over : (n j : ℕ) (l : Limits) (i q : ℕ) (s : State) → n ≤ j → taken_on (n - j) l i q s ≡ taking s []
taken_over n j l i q s le = let d : n - j ≡ 0 = omega arith in ap (λ (k : ℕ). taken_on k l i q s) d

-- no more parts than turns
pub on_few : (k : ℕ) (l : Limits) (i q : ℕ) (s : State) → length (taken_on k l i q s).parts ≤ k
on_few zero l i q s = omega arith
on_few (suc k) l i q s =
    cond_both (eqb q 0) (taking s []) (on k l i q s (take_oldest l i q s)) (λ (t : Taking). length t.parts ≤ suc k) (λ _. omega arith) (λ _. by (on_few k l i) (take_oldest l i q s).part (take_oldest l i q s).slices)
  where
    by : ((r : ℕ) (x : State) → length (taken_on k l i r x).parts ≤ k) → (o : Option Lot) (x : State) → length (on k l i q s (gave o x)).parts ≤ suc k
    by rec None x = omega arith
    by rec (Some p) x = omega (arith, rec (q - p.pieces) x)

pub each_few : (ws : List Want) (l : Limits) (n : ℕ) (s : State) → n ≤ most_lines l → n + length (taken_each ws l n s).parts ≤ most_lines l
each_few [] l n s le = omega arith
each_few (w ∷ ws) l n s le =
    let t : Taking = taken_on (most_lines l - n) l w.item w.pieces s in
    omega (
      arith,
      on_few (most_lines l - n) l w.item w.pieces s,
      each_few ws l (n + length t.parts) t.slices (omega (arith, on_few (most_lines l - n) l w.item w.pieces s)),
      length-append t.parts (taken_each ws l (n + length t.parts) t.slices).parts,
    )
