-- Taking of one item looks at its own lots alone: what is taken of all lots is what is taken of the item's, and others' lots stay. Assumes nothing.
use Rattle.std.proofs.Common.{◌≡◌, ℕ, ◌+◌, ◌-◌, ◌<◌, ◌≤◌, eqb, ◌≢◌, List, [], ◌∷◌, length, sym, refl, ap, ◌∙◌, subst, arith}
use Rattle.std.proofs.lemmas.Bool.{eq-eqb, ne_eqb, eqb-true}
use Rattle.firm.specs.Stock.{pick, Lot, Taken, nothing_of, with_first, take, all_worth, of_item}
use Rattle.firm.specs.Laws.{AllSmall}
use Rattle.firm.proofs.Cases.{whole_of, rest_of, some_of, take_cases}
use Rattle.firm.proofs.Picks.{pick-both, pick_true, pick_false}
use Rattle.taking.specs.Wanted.{SameTaken, OneItem}

of_item_cons : (x : Lot) (ls : List Lot) (i : ℕ) → of_item (x ∷ ls) i ≡ pick (eqb x.item i) (x ∷ of_item ls i) (of_item ls i)
unfolding of_item
of_item_cons x ls i = refl

pub of_item_here : (x : Lot) (ls : List Lot) (i : ℕ) → x.item ≡ i → of_item (x ∷ ls) i ≡ x ∷ of_item ls i
of_item_here x ls i e = of_item_cons x ls i ∙ pick_true (eqb x.item i) _ _ (eq-eqb x.item i e)

pub of_item_other : (x : Lot) (ls : List Lot) (i : ℕ) → x.item ≢ i → of_item (x ∷ ls) i ≡ of_item ls i
of_item_other x ls i ne = of_item_cons x ls i ∙ pick_false (eqb x.item i) _ _ (ne_eqb x.item i ne)

-- TAKING, by what the first lot is
pub take_nothing : (ls : List Lot) (i q : ℕ) → q ≡ 0 → take ls i q ≡ nothing_of ls 0
unfolding take
take_nothing [] i q e = ap (nothing_of []) e
take_nothing (x ∷ ls) i q e = pick_true (eqb q 0) _ _ (eq-eqb q 0 e)

pub take_lacking : (i q : ℕ) → take [] i q ≡ nothing_of [] q
unfolding take
take_lacking i q = refl

pub take_whole : (x : Lot) (ls : List Lot) (i q : ℕ) → 0 < q → x.item ≡ i → x.pieces ≤ q → take (x ∷ ls) i q ≡ whole_of x (take ls i (q - x.pieces))
take_whole x ls i q some e le =
    take_cases x ls i q (λ t. t ≡ whole_of x (take ls i (q - x.pieces))) (λ z. absurd (omega arith)) (λ _ ne. absurd (ne e)) (λ _ _ _. refl) (λ _ _ lt. absurd (omega arith))

pub take_some : (x : Lot) (ls : List Lot) (i q : ℕ) → 0 < q → x.item ≡ i → q < x.pieces → take (x ∷ ls) i q ≡ some_of x ls i q
take_some x ls i q some e lt =
    take_cases x ls i q (λ t. t ≡ some_of x ls i q) (λ z. absurd (omega arith)) (λ _ ne. absurd (ne e)) (λ _ _ le. absurd (omega arith)) (λ _ _ _. refl)

module _ (x : Lot) (ls : List Lot) (i q : ℕ) where
  abbrev own : Taken
  own = take (of_item (x ∷ ls) i) i q

  apart : {j : ℕ} → x.item ≡ i → j ≢ i → x.item ≢ j
  apart e ne d = ne (sym d ∙ e)

  passed : x.item ≢ i → SameTaken ls i (take ls i q) (take (of_item ls i) i q) → SameTaken (x ∷ ls) i (with_first x (take ls i q)) own
  passed ne h =
      subst (SameTaken (x ∷ ls) i (with_first x (take ls i q))) (sym (ap (λ (zs : List Lot). take zs i q) (of_item_other x ls i ne)))
      (record {
        left = of_item_other x (take ls i q).left i ne ∙ h.left;
        others = λ j n. of_item_cons x (take ls i q).left j ∙ ap (λ (zs : List Lot). pick (eqb x.item j) (x ∷ zs) zs) (h.others j n) ∙ sym (of_item_cons x ls j);
        many = omega (arith, h.many, ap length (of_item_other x ls i ne));
        cost = h.cost;
        lacking = h.lacking;
        parts = h.parts;
      })

  whole : 0 < q → x.item ≡ i → x.pieces ≤ q → SameTaken ls i (take ls i (q - x.pieces)) (take (of_item ls i) i (q - x.pieces)) →
      SameTaken (x ∷ ls) i (whole_of x (take ls i (q - x.pieces))) own
  whole some e le h =
      subst (SameTaken (x ∷ ls) i (whole_of x (take ls i (q - x.pieces))))
      (sym (ap (λ (zs : List Lot). take zs i q) (of_item_here x ls i e) ∙ take_whole x (of_item ls i) i q some e le))
      (record {
        left = h.left;
        others = λ j n. h.others j n ∙ sym (of_item_other x ls j (apart e n));
        many = omega (arith, h.many, ap length (of_item_here x ls i e));
        cost = ap (λ (c : ℕ). x.cost + c) h.cost;
        lacking = h.lacking;
        parts = ap (λ (zs : List Lot). x ∷ zs) h.parts;
      })

  part : 0 < q → x.item ≡ i → q < x.pieces → SameTaken (x ∷ ls) i (some_of x ls i q) own
  part some e lt =
      subst (SameTaken (x ∷ ls) i (some_of x ls i q)) (sym (ap (λ (zs : List Lot). take zs i q) (of_item_here x ls i e) ∙ take_some x (of_item ls i) i q some e lt))
      (record {
        left = of_item_here (rest_of x i q) ls i refl;
        others = λ j n. of_item_other (rest_of x i q) ls j (λ d. n (sym d)) ∙ sym (of_item_other x ls j (apart e n));
        many = omega (arith, ap length (of_item_here x ls i e));
        cost = refl;
        lacking = refl;
        parts = refl;
      })

no_lots : (i q : ℕ) → SameTaken [] i (take [] i q) (take (of_item [] i) i q)
unfolding take of_item
no_lots i q = record { left = refl; others = λ j ne. refl; many = refl; cost = refl; lacking = refl; parts = refl }

pub one_item : OneItem
one_item [] i q = no_lots i q
one_item (x ∷ ls) i q =
    take_cases x ls i q (λ t. SameTaken (x ∷ ls) i t (take (of_item (x ∷ ls) i) i q))
    (λ z. subst (SameTaken (x ∷ ls) i (nothing_of (x ∷ ls) 0)) (sym (take_nothing (of_item (x ∷ ls) i) i q z))
    (record { left = refl; others = λ j ne. refl; many = refl; cost = refl; lacking = refl; parts = refl }))
    (λ _ ne. passed x ls i q ne (one_item ls i q))
    (λ some e le. whole x ls i q some e le (one_item ls i (q - x.pieces)))
    (part x ls i q)

-- AN ITEM'S LOTS, by whether the first is one of them
of_item_cases : (x : Lot) (ls : List Lot) (i : ℕ) (P : List Lot → Type 0) → (x.item ≡ i → P (x ∷ of_item ls i)) → P (of_item ls i) → P (of_item (x ∷ ls) i)
unfolding of_item
of_item_cases x ls i P here other = pick-both (eqb x.item i) (x ∷ of_item ls i) (of_item ls i) P (λ e. here (eqb-true x.item i e)) (λ _. other)

-- they are no more than all, cost no more, and are small where all are
pub of_item_few : (ls : List Lot) (i : ℕ) → length (of_item ls i) ≤ length ls
unfolding of_item
of_item_few [] i = omega arith
of_item_few (x ∷ ls) i = of_item_cases x ls i (λ zs. length zs ≤ length (x ∷ ls)) (λ _. omega (arith, of_item_few ls i)) (omega (arith, of_item_few ls i))

pub of_item_worth : (ls : List Lot) (i : ℕ) → all_worth (of_item ls i) ≤ all_worth ls
unfolding of_item all_worth
of_item_worth [] i = omega arith
of_item_worth (x ∷ ls) i = of_item_cases x ls i (λ zs. all_worth zs ≤ all_worth (x ∷ ls)) (λ _. omega (arith, of_item_worth ls i)) (omega (arith, of_item_worth ls i))

pub of_item_small : (ls : List Lot) (i : ℕ) → AllSmall ls → AllSmall (of_item ls i)
unfolding of_item
of_item_small [] i h = tt
of_item_small (x ∷ ls) i h = of_item_cases x ls i AllSmall (λ _. (h.0, of_item_small ls i h.1)) (of_item_small ls i h.1)

-- and each is of the item
abbrev pub AllOf : ℕ → List Lot → Type 0
AllOf i [] = Unit
AllOf i (x ∷ xs) = (x.item ≡ i) × AllOf i xs

pub all_of_item : (ls : List Lot) (i : ℕ) → AllOf i (of_item ls i)
unfolding of_item
all_of_item [] i = tt
all_of_item (x ∷ ls) i = of_item_cases x ls i (AllOf i) (λ e. (e, all_of_item ls i)) (all_of_item ls i)
