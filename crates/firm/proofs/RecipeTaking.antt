-- Taking what a recipe asks for: no piece and no cent is lost, of any item, and all that is taken is of the recipe's items. Assumes nothing.
use Rattle.std.proofs.Common.{◌≡◌, ℕ, ◌+◌, ◌-◌, ◌*◌, ◌/◌, Bool, true, false, ◌||◌, eqb, ◌≢◌, List, [], ◌∷◌, ◌++◌, sym, refl, ◌∙◌, subst, inl, inr, arith}
use Rattle.std.proofs.lemmas.Bool.{cases_eq, and_parts, and_from, eq-eqb}
use Rattle.firm.specs.Stock.{Lot, Taken, take, on_hand, worth, all_worth, Part, take_all}
use Rattle.firm.specs.Statements.{all_pieces, asked, in_recipe, all_in_recipe, RecipeTakingKeeps}
use Rattle.firm.proofs.Picks.{counts, counts_not}
use Rattle.firm.proofs.Cases.{take_cases}
use Rattle.firm.proofs.Sums.{Sums, sum_append}
use Rattle.firm.proofs.Taking.{take_keeps, share_le}
use Rattle.firm.proofs.Ledger.{worth_sums, on_hand_sums, item_worth_sums}

pieces_sums : Sums (λ (l : Lot). l.pieces) all_pieces
unfolding all_pieces
pieces_sums = record { none = refl; more = λ l ls. refl }

-- ONE ITEM. What is taken is of it alone
abbrev AllOf : ℕ → List Lot → Type 0
AllOf i [] = Unit
AllOf i (l ∷ ls) = (l.item ≡ i) × AllOf i ls

take_of : (ls : List Lot) (i q : ℕ) → AllOf i (take ls i q).parts
unfolding take
take_of [] i q = tt
take_of (l ∷ ls) i q =
    take_cases l ls i q (λ t. AllOf i t.parts) (λ _. tt) (λ _ _. take_of ls i q) (λ _ e _. (e, take_of ls i (q - l.pieces))) (λ _ _ _. (refl, tt))

-- so all its pieces are of the item, and none of another's
pieces_all : (i : ℕ) (ls : List Lot) → AllOf i ls → all_pieces ls ≡ on_hand ls i
unfolding all_pieces on_hand
pieces_all i [] h = refl
pieces_all i (l ∷ ls) h = omega (arith, pieces_all i ls h.1, counts l.item i l.pieces h.0)

none_other : (i j : ℕ) (ls : List Lot) → j ≢ i → AllOf i ls → on_hand ls j ≡ 0
unfolding on_hand
none_other i j [] n h = refl
none_other i j (l ∷ ls) n h = omega (arith, none_other i j ls n h.1, counts_not l.item j l.pieces (λ e. n (sym e ∙ h.0)))

-- pieces and cents of every item stay
take_pieces : (ls : List Lot) (i q j : ℕ) → on_hand (take ls i q).left j + on_hand (take ls i q).parts j ≡ on_hand ls j
take_pieces ls i q j =
    elim (cases_eq j i) [
      | inl e ↦ subst (λ n. on_hand (take ls i q).left n + on_hand (take ls i q).parts n ≡ on_hand ls n) (sym e) (take_keeps ls i q).3
      | inr n ↦ omega (arith, (take_keeps ls i q).4 j n, none_other i j (take ls i q).parts n (take_of ls i q))
    ]

take_cents : (ls : List Lot) (i q j : ℕ) → worth (take ls i q).left j + worth (take ls i q).parts j ≡ worth ls j
unfolding take worth
take_cents [] i q j = refl
take_cents (l ∷ ls) i q j =
    take_cases l ls i q (λ t. worth t.left j + worth t.parts j ≡ worth (l ∷ ls) j)
    (λ _. omega arith)
    (λ _ _. omega (arith, take_cents ls i q j))
    (λ _ _ _. omega (arith, take_cents ls i (q - l.pieces) j))
    (λ p e w.
    let share = share_le l.cost q l.pieces w in
    elim (cases_eq i j) [
      | inl s ↦ omega (arith, counts l.item j l.cost (e ∙ s), counts i j (l.cost - l.cost * q / l.pieces) s, counts i j (l.cost * q / l.pieces) s)
      | inr n ↦
          omega (
            arith,
            counts_not l.item j l.cost (λ d. n (sym e ∙ d)),
            counts_not i j (l.cost - l.cost * q / l.pieces) n,
            counts_not i j (l.cost * q / l.pieces) n,
          )
    ])

-- A RECIPE. Lots of one of its items are of its items, and so are lots of the parts behind the first
in_first : (p : Part) (ps : List Part) (ls : List Lot) → AllOf p.item ls → all_in_recipe (p ∷ ps) ls ≡ true
unfolding all_in_recipe in_recipe
in_first p ps [] h = refl
in_first p ps (l ∷ ls) h =
    and_from (eqb p.item l.item || in_recipe ps l.item) (all_in_recipe (p ∷ ps) ls)
    (subst (λ b. (b || in_recipe ps l.item) ≡ true) (sym (eq-eqb p.item l.item (sym h.0))) refl) (in_first p ps ls h.1)

or_right : (a b : Bool) → b ≡ true → (a || b) ≡ true
or_right true b h = refl
or_right false b h = h

in_later : (p : Part) (ps : List Part) (ls : List Lot) → all_in_recipe ps ls ≡ true → all_in_recipe (p ∷ ps) ls ≡ true
unfolding all_in_recipe in_recipe
in_later p ps [] h = refl
in_later p ps (l ∷ ls) h =
    let both = and_parts (in_recipe ps l.item) (all_in_recipe ps ls) h in
    and_from (eqb p.item l.item || in_recipe ps l.item) (all_in_recipe (p ∷ ps) ls)
    (or_right (eqb p.item l.item) (in_recipe ps l.item) both.0) (in_later p ps ls both.1)

in_append : (ps : List Part) (xs ys : List Lot) → all_in_recipe ps xs ≡ true → all_in_recipe ps ys ≡ true → all_in_recipe ps (xs ++ ys) ≡ true
unfolding all_in_recipe
in_append ps [] ys h k = k
in_append ps (x ∷ xs) ys h k =
    let both = and_parts (in_recipe ps x.item) (all_in_recipe ps xs) h in
    and_from (in_recipe ps x.item) (all_in_recipe ps (xs ++ ys)) both.0 (in_append ps xs ys both.1 k)

pub recipe_taking_keeps : RecipeTakingKeeps
unfolding take_all all_worth all_pieces asked on_hand worth all_in_recipe
recipe_taking_keeps ls [] q = (omega arith, refl, refl, λ j. omega arith, λ j. omega arith, refl)
recipe_taking_keeps ls (p ∷ ps) q =
    let t : Taken = take ls p.item (p.each * q) in
    let u : Taken = take_all t.left ps q in
    let k = take_keeps ls p.item (p.each * q) in
    let h = recipe_taking_keeps t.left ps q in
    let of = take_of ls p.item (p.each * q) in (
      omega arith,
      omega (arith, sum_append worth_sums t.parts u.parts),
      omega (arith, sum_append pieces_sums t.parts u.parts, pieces_all p.item t.parts of),
      λ j. omega (arith, h.3 j, take_pieces ls p.item (p.each * q) j, sum_append (on_hand_sums j) t.parts u.parts),
      λ j. omega (arith, h.4 j, take_cents ls p.item (p.each * q) j, sum_append (item_worth_sums j) t.parts u.parts),
      in_append (p ∷ ps) t.parts u.parts (in_first p ps t.parts of) (in_later p ps u.parts h.5),
    )
