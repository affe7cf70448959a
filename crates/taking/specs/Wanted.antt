-- What is wanted, taken of the books' lots. Definitions only: nothing is assumed.
use Rattle.std.specs.Prelude.{◌≡◌, ℕ, ◌+◌, ◌*◌, ◌≢◌, List, [], ◌∷◌, ◌++◌, map, length}
use Rattle.firm.specs.Stock.{Lot, Taken, nothing_of, take, all_worth, of_item, Part, take_all}
use Rattle.taking.specs.Takes.{want}
use Rattle.taking.specs.declared.wants.Want.{Want}

-- one after the other
unfoldable pub wanted : List Lot → List Want → Taken
wanted ls [] = nothing_of ls 0
wanted ls (w ∷ ws) =
    let t : Taken = take ls w.item w.pieces in
    let u : Taken = wanted t.left ws in
    record { left = u.left; cost = t.cost + u.cost; lacking = t.lacking + u.lacking; parts = t.parts ++ u.parts }

-- what was taken costs what its parts cost, and what is left costs the rest
abbrev pub WantedCosts : Type 0
WantedCosts = (ls : List Lot) (ws : List Want) → (all_worth (wanted ls ws).parts ≡ (wanted ls ws).cost) × (all_worth (wanted ls ws).left + (wanted ls ws).cost ≡ all_worth ls)

abbrev pub OneWanted : Type 0
OneWanted = (ls : List Lot) (w : Want) → wanted ls (w ∷ []) ≡ take ls w.item w.pieces

-- what a recipe asks for, q times
abbrev pub wants_of : List Part → ℕ → List Want
wants_of ps q = map (λ p. want p.item (p.each * q)) ps

abbrev pub RecipeWanted : Type 0
RecipeWanted = (ls : List Lot) (ps : List Part) (q : ℕ) → wanted ls (wants_of ps q) ≡ take_all ls ps q

-- Taking of one item looks at its own lots alone: t is what was taken of all lots, u what of the item's own, and the lots of others stay
pub record SameTaken (ls : List Lot) (i : ℕ) (t u : Taken) : Type 0 where
  pub left : of_item t.left i ≡ u.left
  pub others : (j : ℕ) → j ≢ i → of_item t.left j ≡ of_item ls j
  pub many : length t.left + length (of_item ls i) ≡ length ls + length u.left
  pub cost : t.cost ≡ u.cost
  pub lacking : t.lacking ≡ u.lacking
  pub parts : t.parts ≡ u.parts

abbrev pub OneItem : Type 0
OneItem = (ls : List Lot) (i q : ℕ) → SameTaken ls i (take ls i q) (take (of_item ls i) i q)
