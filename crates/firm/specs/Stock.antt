-- Lots: what lies in stock, since when and at what cost; pieces are taken from the oldest first. Definitions only: nothing is assumed.
use Rattle.std.specs.Prelude.{ℕ, ◌+◌, ◌-◌, ◌*◌, ◌/◌, Bool, true, false, not, List, [], ◌∷◌, ◌++◌, ◌==◌, nat_le}

-- the first where the test holds, else the second
abbrev pub pick : {A : Type 0} → Bool → A → A → A
pick true a b = a
pick false a b = b

-- so many pieces of an item, what they cost in cents all together, and the number of the document that brought them. A list of lots is in the
-- order in which they came
pub record Lot : Type 0 where
  pub item : ℕ
  pub pieces : ℕ
  pub cost : ℕ
  pub from : ℕ

-- what came of taking: the lots that are left, what the taken pieces cost, how many pieces were lacking, and what was taken of which lots
pub record Taken : Type 0 where
  pub left : List Lot
  pub cost : ℕ
  pub lacking : ℕ
  pub parts : List Lot

-- nothing is taken, and q pieces are lacking
abbrev pub nothing_of : List Lot → ℕ → Taken
nothing_of ls q = record { left = ls; cost = 0; lacking = q; parts = [] }

-- a lot that is passed over
abbrev pub with_first : Lot → Taken → Taken
with_first l t = record { left = l ∷ t.left; cost = t.cost; lacking = t.lacking; parts = t.parts }

-- TAKING q pieces of the item i: from its oldest lots first, whole lots as long as they are wanted whole. Of the last one so many as are still
-- wanted, which cost the lot's cost times them by its pieces, rounded down; what stays keeps the rest of the cost
unfoldable pub take : List Lot → ℕ → ℕ → Taken
take [] i q = nothing_of [] q
take (l ∷ ls) i q =
    pick (q == 0) (nothing_of (l ∷ ls) 0)
    (pick (not (l.item == i)) (with_first l (take ls i q))
    (pick (nat_le l.pieces q)
    (let t : Taken = take ls i (q - l.pieces) in
    record { left = t.left; cost = l.cost + t.cost; lacking = t.lacking; parts = l ∷ t.parts })
    (record {
      left = record { item = i; pieces = l.pieces - q; cost = l.cost - l.cost * q / l.pieces; from = l.from } ∷ ls;
      cost = l.cost * q / l.pieces;
      lacking = 0;
      parts = record { item = i; pieces = q; cost = l.cost * q / l.pieces; from = l.from } ∷ [];
    })))

-- how many pieces of an item lie there
unfoldable pub on_hand : List Lot → ℕ → ℕ
on_hand [] i = 0
on_hand (l ∷ ls) i = pick (l.item == i) l.pieces 0 + on_hand ls i

-- what they cost
unfoldable pub worth : List Lot → ℕ → ℕ
worth [] i = 0
worth (l ∷ ls) i = pick (l.item == i) l.cost 0 + worth ls i

-- what all lots cost
unfoldable pub all_worth : List Lot → ℕ
all_worth [] = 0
all_worth (l ∷ ls) = l.cost + all_worth ls

-- an item's lots, the oldest first
unfoldable pub of_item : List Lot → ℕ → List Lot
of_item [] i = []
of_item (l ∷ ls) i = pick (l.item == i) (l ∷ of_item ls i) (of_item ls i)

-- a part of a recipe: an item, and how many pieces of it go into one piece
pub record Part : Type 0 where
  pub item : ℕ
  pub each : ℕ

-- taking for q pieces what a recipe asks for: its parts one after the other, each so often
unfoldable pub take_all : List Lot → List Part → ℕ → Taken
take_all ls [] q = nothing_of ls 0
take_all ls (p ∷ ps) q =
    let t : Taken = take ls p.item (p.each * q) in
    let u : Taken = take_all t.left ps q in
    record { left = u.left; cost = t.cost + u.cost; lacking = t.lacking + u.lacking; parts = t.parts ++ u.parts }
