-- The cases of the definitions in specs/, each under what its tests say, and the induction over all firms that are reached.
-- Every statement about `take`, `changed` and `Reached` is proved through these. Assumes nothing.
use Rattle.std.proofs.Common.{◌≡◌, ℕ, ◌+◌, ◌-◌, ◌*◌, ◌/◌, ◌<◌, ◌≤◌, true, not, eqb, leb, ◌≢◌, List, [], ◌∷◌, ◌++◌, subst, arith}
use Rattle.std.proofs.lemmas.Bool.{leb-true, leb-false, eqb-true, eqb-false, not-true, not-false}
use Rattle.firm.specs.Stock.{pick, Lot, Taken, take, nothing_of, with_first, on_hand}
use Rattle.firm.specs.Ledger.{entry}
use Rattle.firm.specs.Firm.{Firm, new_firm}
use Rattle.firm.specs.Calls.{Call, counted, Limits}
use Rattle.firm.specs.Changes.{changed, next}
use Rattle.firm.specs.Refusals.{good_call, turned_by, fits, turned}
use Rattle.firm.specs.Answers.{after, ran}
use Rattle.firm.specs.Statements.{Reached}
use Rattle.firm.proofs.Picks.{pick-both, pick_zero}

-- a lot l taken whole, and t from the lots after it
abbrev pub whole_of : Lot → Taken → Taken
whole_of l t = record { left = t.left; cost = l.cost + t.cost; lacking = t.lacking; parts = l ∷ t.parts }

-- q pieces of a lot l of the item i that has more, and what stays of it
abbrev pub rest_of : Lot → ℕ → ℕ → Lot
rest_of l i q = record { item = i; pieces = l.pieces - q; cost = l.cost - l.cost * q / l.pieces; from = l.from }

abbrev pub some_of : Lot → List Lot → ℕ → ℕ → Taken
some_of l ls i q =
    record {
      left = rest_of l i q ∷ ls;
      cost = l.cost * q / l.pieces;
      lacking = 0;
      parts = record { item = i; pieces = q; cost = l.cost * q / l.pieces; from = l.from } ∷ [];
    }

-- the four ways in which `take` meets a lot
pub take_cases : (l : Lot) (ls : List Lot) (i q : ℕ) (P : Taken → Type 0) →
    (q ≡ 0 → P (nothing_of (l ∷ ls) 0)) →
    (0 < q → l.item ≢ i → P (with_first l (take ls i q))) →
    (0 < q → l.item ≡ i → l.pieces ≤ q → P (whole_of l (take ls i (q - l.pieces)))) →
    (0 < q → l.item ≡ i → q < l.pieces → P (some_of l ls i q)) →
    P (take (l ∷ ls) i q)
unfolding take
take_cases l ls i q P none other whole some =
    pick-both (eqb q 0) (nothing_of (l ∷ ls) 0) wanted P (λ e. none (eqb-true q 0 e)) (λ e. rest (positive (eqb-false q 0 e)))
  where
    this : Taken
    this = pick (leb l.pieces q) (whole_of l (take ls i (q - l.pieces))) (some_of l ls i q)

    wanted : Taken
    wanted = pick (not (eqb l.item i)) (with_first l (take ls i q)) this

    positive : (q ≡ 0 → ⊥) → 0 < q
    positive h = omega arith

    rest : 0 < q → P wanted
    rest h =
        pick-both (not (eqb l.item i)) (with_first l (take ls i q)) this P
        (λ e. other h (eqb-false l.item i (not-true (eqb l.item i) e)))
        (λ e. let same : l.item ≡ i = eqb-true l.item i (not-false (eqb l.item i) e) in
        pick-both (leb l.pieces q) (whole_of l (take ls i (q - l.pieces))) (some_of l ls i q) P
        (λ d. whole h same (leb-true l.pieces q d)) (λ d. some h same (leb-false l.pieces q d)))

-- the three ways of a count: as many as are known, more, fewer
abbrev pub counted_more : Firm → ℕ → ℕ → Firm
counted_more f i q =
    next f (f.lots ++ (record { item = i; pieces = q - on_hand f.lots i; cost = 0; from = f.documents } ∷ [])) f.orders f.recipes []

abbrev pub counted_fewer : Firm → ℕ → ℕ → Firm
counted_fewer f i q =
    let t : Taken = take f.lots i (on_hand f.lots i - q) in
    next f t.left f.orders f.recipes (entry 8 0 t.cost f.documents)

pub counted_cases : (f : Firm) (i q : ℕ) (P : Firm → Type 0) →
    (on_hand f.lots i ≡ q → P (next f f.lots f.orders f.recipes [])) →
    (on_hand f.lots i < q → P (counted_more f i q)) →
    (q < on_hand f.lots i → P (counted_fewer f i q)) →
    P (changed f (counted i q))
unfolding changed
counted_cases f i q P same more fewer =
    pick-both (leb (on_hand f.lots i) q) as_many (counted_fewer f i q) P
    (λ d. pick-both (eqb (on_hand f.lots i) q) (next f f.lots f.orders f.recipes []) (counted_more f i q) P
    (λ e. same (eqb-true (on_hand f.lots i) q e))
    (λ e. more (below (leb-true (on_hand f.lots i) q d) (eqb-false (on_hand f.lots i) q e))))
    (λ d. fewer (leb-false (on_hand f.lots i) q d))
  where
    as_many : Firm
    as_many = pick (eqb (on_hand f.lots i) q) (next f f.lots f.orders f.recipes []) (counted_more f i q)

    below : {a b : ℕ} → a ≤ b → (a ≡ b → ⊥) → a < b
    below h k = omega arith

-- a call goes through only if its fields are good, nothing that is there turns it away, and what becomes of the books fits
pub record GoesThrough (l : Limits) (f : Firm) (c : Call) : Type 0 where
  pub good : good_call l c ≡ true
  pub known : turned_by f c ≡ 0
  pub fitting : fits l (changed f c) ≡ true

pub goes_through : (l : Limits) (f : Firm) (c : Call) → turned l f c ≡ 0 → GoesThrough l f c
goes_through l f c =
    pick-both (good_call l c) (pick (eqb (turned_by f c) 0) (pick (fits l (changed f c)) 0 9) (turned_by f c)) 2 (λ n. n ≡ 0 → GoesThrough l f c)
    (λ g. pick-both (eqb (turned_by f c) 0) (pick (fits l (changed f c)) 0 9) (turned_by f c) (λ n. n ≡ 0 → GoesThrough l f c)
    (λ k e. record { good = g; known = eqb-true (turned_by f c) 0 k; fitting = pick_zero (fits l (changed f c)) 0 9 (omega arith) e })
    (λ k e. absurd (eqb-false (turned_by f c) 0 k e)))
    (λ _ e. absurd (omega arith))

-- what holds of f, and of what a call that goes through makes of it, holds afterwards
pub after_cases : (l : Limits) (f : Firm) (c : Call) (P : Firm → Type 0) → (GoesThrough l f c → P (changed f c)) → P f → P (after l f c)
after_cases l f c P through kept =
    pick-both (eqb (turned l f c) 0) (changed f c) f P (λ e. through (goes_through l f c (eqb-true (turned l f c) 0 e))) (λ _. kept)

-- AN INVARIANT: what holds of new books, and is kept by each call that goes through, holds of all that is reached
module _ (l : Limits) (P : Firm → Type 0) (kept : (f : Firm) (c : Call) → GoesThrough l f c → P f → P (changed f c)) where
  pub ran_keeps : (cs : List Call) (f : Firm) → P f → P (ran l f cs)
  unfolding ran
  ran_keeps [] f h = h
  ran_keeps (c ∷ cs) f h = ran_keeps cs (after l f c) (after_cases l f c P (λ g. kept f c g h) h)

  pub reached_keeps : P new_firm → (f : Firm) → Reached l f → P f
  reached_keeps h f r = subst P r.1 (ran_keeps r.0 new_firm h)
