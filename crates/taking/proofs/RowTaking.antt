-- One want along its item's row: memory stands for what taking leaves, and the parts are what was taken. Assumes nothing.
use Rattle.std.proofs.Common.{◌≡◌, ℕ, zero, suc, ◌+◌, ◌-◌, ◌*◌, ◌/◌, ◌<◌, ◌≤◌, cond, eqb, leb, ◌≢◌, List, [], ◌∷◌, map, length, Some, None, Option, sym, refl, ap, ◌∙◌, subst, ap₂, ⊎_elim, le_of_lt, mul-le-mul_left, arith}
use Rattle.std.proofs.lemmas.List.{length-map}
use Rattle.std.proofs.lemmas.Bool.{cases_eq, cases_lt, cond-true, cond-false, eq-eqb, ne_eqb, le-leb, lt-leb}
use Rattle.firm.specs.Stock as firm
use Rattle.firm.specs.Stock.{take, nothing_of, all_worth}
use Rattle.firm.proofs.Bounds.{product_small}
use Rattle.firm.proofs.Cases.{whole_of, some_of}
use Rattle.firm.proofs.Cases as cases
use Rattle.layout.specs.Layout.{Good}
use Rattle.layout.specs.declared.limits.Limits.{Limits}
use Rattle.memory.specs.Books.{lot_record, put_lot}
use Rattle.questions.specs.Listing.{lot_of}
use Rattle.records.specs.State.{State, state}
use Rattle.records.specs.declared.lot.Lot.{Lot}
use Rattle.store.proofs.OldestLot.{Oldest, oldest, no_oldest}
use Rattle.store.proofs.Tables.{at_same, at_other}
use Rattle.store.specs.Steps.{first_lot, lot_freed}
use Rattle.store.specs.View.{Kept, Stands}
use Rattle.taking.specs.Laws.{Priced, with_all_lots}
use Rattle.taking.specs.Parts.{share, part_of, rest_of}
use Rattle.taking.specs.Takes.{given, on_oldest, take_oldest, Taking, taking, behind, taken_on}
use Rattle.taking.proofs.OneItem.{AllOf, take_nothing, take_lacking, take_whole, take_some}
use Rattle.taking.proofs.Turns.{taken_enough, taken_ends, taken_more}

-- A PART OF A LOT: a cost by pieces does not pass a word, so its share is the books'
pub worth_cons : (x : firm.Lot) (xs : List firm.Lot) → all_worth (x ∷ xs) ≡ x.cost + all_worth xs
unfolding all_worth
worth_cons x xs = refl

pub priced_rest : (x : firm.Lot) (xs : List firm.Lot) → Priced (x ∷ xs) → Priced xs
priced_rest x xs h = record { small = h.small.1; worth = omega (arith, worth_cons x xs, h.worth) }

pub share_is : (x : firm.Lot) (xs : List firm.Lot) (q : ℕ) → Priced (x ∷ xs) → q < x.pieces → share x.cost q x.pieces ≡ x.cost * q / x.pieces
share_is x xs q h lt =
    let most : x.cost * q ≤ 1000000000000000000 =
    omega (arith, product_small x h.small.0 (omega (arith, worth_cons x xs, h.worth)), mul-le-mul_left x.cost (le_of_lt lt)) in
    ap (λ (n : ℕ). n / x.pieces) (omega arith)

-- the part of the books, of a lot of item i that has more pieces than are wanted
abbrev some_part : firm.Lot → ℕ → ℕ → firm.Lot
some_part x i q = record { item = i; pieces = q; cost = x.cost * q / x.pieces; from = x.from }

pub part_whole : (x : Lot) (q : ℕ) → x.pieces ≤ q → part_of x q ≡ x
unfolding part_of
part_whole x q le = cond-true (leb x.pieces q) x _ (le-leb x.pieces q le)

pub part_less : (x : Lot) (q : ℕ) → q < x.pieces → part_of x q ≡ record { item = x.item; pieces = q; cost = share x.cost q x.pieces; «document» = x.«document» }
unfolding part_of
part_less x q lt = cond-false (leb x.pieces q) x _ (lt-leb x.pieces q lt)

abbrev lot : ℕ → ℕ → ℕ → ℕ → firm.Lot
lot a b c d = record { item = a; pieces = b; cost = c; from = d }

module _ (x : Lot) (xs : List firm.Lot) (i q : ℕ) (own : x.item ≡ i) (priced : Priced (lot_of x ∷ xs)) (lt : q < x.pieces) where
  part_means : lot_of (part_of x q) ≡ some_part (lot_of x) i q
  part_means =
      ap lot_of (part_less x q lt) ∙ ap₂ (λ (a c : ℕ). lot a q c x.«document») own (share_is (lot_of x) xs q priced lt)

  rest_means : lot_of (rest_of x (part_of x q)) ≡ cases.rest_of (lot_of x) i q
  rest_means =
      ap (λ (p : Lot). lot_of (rest_of x p)) (part_less x q lt)
      ∙ ap₂ (λ (a c : ℕ). lot a (x.pieces - q) (x.cost - c) x.«document») own (share_is (lot_of x) xs q priced lt)

-- WHAT THE OLDEST LOT GIVES, in the cell c
oldest_at : (l : Limits) (i q : ℕ) (s : State) (o : Option ℕ) → first_lot l i s.narrow ≡ o → on_oldest l i q s o ≡ take_oldest l i q s
unfolding take_oldest
oldest_at l i q s o e = ap (on_oldest l i q s) (sym e)

given_whole : (l : Limits) (i c : ℕ) (x p : Lot) (s : State) → p.pieces ≡ x.pieces → given l i c x p s ≡ state s.wide (lot_freed l i c s.narrow)
unfolding given
given_whole l i c x p s e = cond-true (eqb p.pieces x.pieces) _ _ (eq-eqb _ _ e)

given_less : (l : Limits) (i c : ℕ) (x p : Lot) (s : State) → p.pieces ≢ x.pieces → given l i c x p s ≡ put_lot l c (rest_of x p) s
unfolding given
given_less l i c x p s ne = cond-false (eqb p.pieces x.pieces) _ _ (ne_eqb _ _ ne)

-- THE ROW of item i: its lots, at most k, all of the item, and not too dear
pub record Ready (l : Limits) (b : Kept) (i k : ℕ) (s : State) (of : ℕ → List Lot) (many : ℕ) : Type 0 where
  pub stands : Stands l s (with_all_lots of many b)
  pub few : length (of i) ≤ k
  pub own : AllOf i (map lot_of (of i))
  pub priced : Priced (map lot_of (of i))

-- what stands afterwards, where r was taken
pub record RowTaken (l : Limits) (b : Kept) (i : ℕ) (of : ℕ → List Lot) (many : ℕ) (u : Taking) (r : firm.Taken) : Type 0 where
  pub after : ℕ → List Lot
  pub now_many : ℕ
  pub stands : Stands l u.slices (with_all_lots after now_many b)
  pub left : map lot_of (after i) ≡ r.left
  pub others : (j : ℕ) → j ≢ i → after j ≡ of j
  pub fewer : now_many + length (of i) ≡ many + length r.left
  pub parts : u.parts ≡ r.parts

module _ (l : Limits) (b : Kept) (i : ℕ) (good : Good l) (it : i < l.items) where
  nothing : (q : ℕ) (s : State) (u : Taking) (of : ℕ → List Lot) (many : ℕ) (r : firm.Taken) → u ≡ taking s [] → r ≡ nothing_of (map lot_of (of i)) q → Stands l s (with_all_lots of many b) →
      RowTaken l b i of many u r
  nothing q s u of many r same e st =
      subst (λ (v : Taking). RowTaken l b i of many v r) (sym same)
      (subst (RowTaken l b i of many (taking s [])) (sym e)
      (record { after = of; now_many = many; stands = st; left = refl; others = λ j ne. refl; fewer = omega (arith, length-map (of i) lot_of); parts = refl }))

  abbrev Rest : ℕ → Type 0
  Rest k = (q : ℕ) (s : State) (of : ℕ → List Lot) (many : ℕ) → Ready l b i k s of many → RowTaken l b i of many (taken_on k l i q s) (take (map lot_of (of i)) i q)

  -- the oldest lot lies in the cell c
  module _ (k q : ℕ) (s : State) (of : ℕ → List Lot) (many : ℕ) (h : Ready l b i (suc k) s of many) (some : 0 < q) (c : ℕ) (is : first_lot l i s.narrow ≡ Some c) where
    o : Oldest l s (with_all_lots of many b) i c
    o = oldest l s (with_all_lots of many b) i good h.stands it c is

    abbrev x : Lot
    x = lot_record l c s

    abbrev xs : List Lot
    xs = o.others

    lots : map lot_of (of i) ≡ lot_of x ∷ map lot_of xs
    lots = ap (map lot_of) o.lots

    own : AllOf i (lot_of x ∷ map lot_of xs)
    own = subst (AllOf i) lots h.own

    priced : Priced (lot_of x ∷ map lot_of xs)
    priced = subst Priced lots h.priced

    turn : taken_on (suc k) l i q s ≡ behind (lot_of (part_of x q)) (taken_on k l i (q - (part_of x q).pieces) (given l i c x (part_of x q) s))
    turn = taken_more k l i q s (part_of x q) (given l i c x (part_of x q) s) (λ z. omega arith) (oldest_at l i q s (Some c) is)

    whole : x.pieces ≤ q → Rest k → RowTaken l b i of many (taken_on (suc k) l i q s) (take (map lot_of (of i)) i q)
    whole le rec =
        let s₁ : State = state s.wide (lot_freed l i c s.narrow) in
        let of₁ : ℕ → List Lot = λ j. cond (eqb j i) xs (of j) in
        let at : of₁ i ≡ xs = at_same of i i xs refl in
        let runs : taken_on (suc k) l i q s ≡ behind (lot_of x) (taken_on k l i (q - x.pieces) s₁) =
        turn ∙ ap (λ (p : Lot). behind (lot_of p) (taken_on k l i (q - p.pieces) (given l i c x p s))) (part_whole x q le)
        ∙ ap (λ (t : State). behind (lot_of x) (taken_on k l i (q - x.pieces) t)) (given_whole l i c x x s refl) in
        let says : take (map lot_of (of i)) i q ≡ whole_of (lot_of x) (take (map lot_of (of₁ i)) i (q - x.pieces)) =
        ap (λ (zs : List firm.Lot). take zs i q) lots ∙ take_whole (lot_of x) (map lot_of xs) i q some own.0 le
        ∙ ap (λ (zs : List Lot). whole_of (lot_of x) (take (map lot_of zs) i (q - x.pieces))) (sym at) in
        let r = rec (q - x.pieces) s₁ of₁ (many - 1) (record {
          stands = o.goes;
          few = omega (arith, h.few, ap length at, ap length o.lots);
          own = subst (λ (zs : List Lot). AllOf i (map lot_of zs)) (sym at) own.1;
          priced = subst (λ (zs : List Lot). Priced (map lot_of zs)) (sym at) (priced_rest (lot_of x) (map lot_of xs) priced);
        }) in
        subst (λ (v : Taking). RowTaken l b i of many v (take (map lot_of (of i)) i q)) (sym runs)
        (subst (RowTaken l b i of many (behind (lot_of x) (taken_on k l i (q - x.pieces) s₁))) (sym says)
        (record {
          after = r.after;
          now_many = r.now_many;
          stands = r.stands;
          left = r.left;
          others = λ j ne. r.others j ne ∙ at_other of i j xs ne;
          fewer = omega (arith, r.fewer, o.used, ap length at, ap length o.lots);
          parts = ap (λ (zs : List firm.Lot). lot_of x ∷ zs) r.parts;
        }))

    part : q < x.pieces → RowTaken l b i of many (taken_on (suc k) l i q s) (take (map lot_of (of i)) i q)
    part lt =
        let p : Lot = part_of x q in
        let y : Lot = rest_of x p in
        let all : p.pieces ≡ q = ap (λ (z : Lot). z.pieces) (part_less x q lt) in
        let of₁ : ℕ → List Lot = λ j. cond (eqb j i) (y ∷ xs) (of j) in
        let u : Taking = taking (put_lot l c y s) (lot_of p ∷ []) in
        let runs : taken_on (suc k) l i q s ≡ u =
        turn ∙ ap (λ (t : State). behind (lot_of p) (taken_on k l i (q - p.pieces) t)) (given_less l i c x p s (λ e. omega arith))
        ∙ ap (behind (lot_of p)) (taken_enough k l i (q - p.pieces) (put_lot l c y s) (omega arith)) in
        let says : take (map lot_of (of i)) i q ≡ some_of (lot_of x) (map lot_of xs) i q =
        ap (λ (zs : List firm.Lot). take zs i q) lots ∙ take_some (lot_of x) (map lot_of xs) i q some own.0 lt in
        subst (λ (v : Taking). RowTaken l b i of many v (take (map lot_of (of i)) i q)) (sym runs)
        (subst (RowTaken l b i of many u) (sym says)
        (record {
          after = of₁;
          now_many = many;
          stands = o.stays y;
          left = ap (map lot_of) (at_same of i i (y ∷ xs) refl) ∙ ap (λ (z : firm.Lot). z ∷ map lot_of xs) (rest_means x (map lot_of xs) i q own.0 priced lt);
          others = λ j ne. at_other of i j (y ∷ xs) ne;
          fewer = omega (arith, ap length o.lots, length-map xs lot_of);
          parts = ap (λ (z : firm.Lot). z ∷ []) (part_means x (map lot_of xs) i q own.0 priced lt);
        }))

  lacks : (q : ℕ) (ys : List Lot) → ys ≡ [] → take (map lot_of ys) i q ≡ nothing_of (map lot_of ys) q
  lacks q ys e =
      ap (λ (zs : List Lot). take (map lot_of zs) i q) e ∙ take_lacking i q ∙ ap (λ (zs : List Lot). nothing_of (map lot_of zs) q) (sym e)

  empty : (ys : List Lot) → length ys ≤ 0 → ys ≡ []
  empty [] le = refl
  empty (y ∷ ys) le = absurd (omega arith)

  pub row_taken : (k : ℕ) → Rest k
  row_taken zero q s of many h = nothing q s (taking s []) of many _ refl (lacks q (of i) (empty (of i) h.few)) h.stands
  row_taken (suc k) q s of many h =
      ⊎_elim (λ (z : q ≡ 0). nothing 0 s (taken_on (suc k) l i q s) of many _ (taken_enough (suc k) l i q s z) (take_nothing (map lot_of (of i)) i q z) h.stands)
      (λ (ne : q ≡ 0 → ⊥). by (row_taken k) (omega arith) (first_lot l i s.narrow) refl) (cases_eq q 0)
    where
      by : Rest k → 0 < q → (o : Option ℕ) → first_lot l i s.narrow ≡ o → RowTaken l b i of many (taken_on (suc k) l i q s) (take (map lot_of (of i)) i q)
      by rec some None is =
          nothing q s (taken_on (suc k) l i q s) of many _ (taken_ends (suc k) l i q s s (oldest_at l i q s None is))
          (lacks q (of i) (no_oldest l s (with_all_lots of many b) i good h.stands it is)) h.stands
      by rec some (Some c) is =
          ⊎_elim (λ (lt : q < (lot_record l c s).pieces). part k q s of many h some c is lt) (λ (le : (lot_record l c s).pieces ≤ q). whole k q s of many h some c is le rec)
          (cases_lt q (lot_record l c s).pieces)
