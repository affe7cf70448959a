-- Tables by number: one more record at the end, and one changed; the element of a map.
use Rattle.std.proofs.Common.{◌≡◌, ℕ, ◌<◌, ◌≤◌, cond, eqb, ltb, ◌≢◌, List, [], ◌∷◌, ◌++◌, length, get_or, set, sym, ap, ◌∙◌, ⊎_elim, arith, length-set, get_or-set_other, get_or-set_same}
use Rattle.std.proofs.lemmas.List.{length_push, get_or_push, get_or_append_left}
use Rattle.std.proofs.lemmas.Bool.{cases_eq, cond-true, cond-false, eq-eqb, ne_eqb, lt-ltb, le-ltb}
use Rattle.store.specs.View.{Table}

pub table_push : {X : Type 0} (get get' : ℕ → X) (d x : X) (xs : List X) → get' (length xs) ≡ x → ((k : ℕ) → k < length xs → get' k ≡ get k) → Table get d xs → Table get' d (xs ++ x ∷ [])
table_push get get' d x xs new old was k lt =
    ⊎_elim (λ (e : k ≡ length xs). ap get' e ∙ new ∙ sym (get_or_push xs x d k (sym e)))
    (λ (ne : k ≡ length xs → ⊥).
    let here : k < length xs = omega (arith, length_push xs x) in
    old k here ∙ was k here ∙ sym (get_or_append_left xs (x ∷ []) d k here))
    (cases_eq k (length xs))

pub table_set : {X : Type 0} (get get' : ℕ → X) (d : X) (xs : List X) (j : ℕ) (x : X) → get' j ≡ x → ((k : ℕ) → k < length xs → k ≢ j → get' k ≡ get k) → Table get d xs → Table get' d (set xs j x)
table_set get get' d xs j x new old was k lt =
    let here : k < length xs = omega (arith, length-set xs j x) in
    ⊎_elim (λ (e : k ≡ j). ap get' e ∙ new ∙ sym (ap (λ (i : ℕ). get_or (set xs j x) i d) e ∙ get_or-set_same xs j x d (omega arith)))
    (λ (ne : k ≡ j → ⊥). old k here ne ∙ was k here ∙ sym (get_or-set_other xs j k x d ne)) (cases_eq k j)

-- a list that changes at i
pub at_same : {X : Type 0} (f : ℕ → X) (i j : ℕ) (x : X) → j ≡ i → cond (eqb j i) x (f j) ≡ x
at_same f i j x e = cond-true (eqb j i) x (f j) (eq-eqb j i e)

pub at_other : {X : Type 0} (f : ℕ → X) (i j : ℕ) (x : X) → (j ≡ i → ⊥) → cond (eqb j i) x (f j) ≡ f j
at_other f i j x ne = cond-false (eqb j i) x (f j) (ne_eqb j i ne)

-- a test that goes one way
pub when_lt : {X : Type 0} (a b : ℕ) (x y : X) → a < b → cond (ltb a b) x y ≡ x
when_lt a b x y lt = cond-true (ltb a b) x y (lt-ltb a b lt)

pub when_ge : {X : Type 0} (a b : ℕ) (x y : X) → b ≤ a → cond (ltb a b) x y ≡ y
when_ge a b x y ge = cond-false (ltb a b) x y (le-ltb a b ge)
