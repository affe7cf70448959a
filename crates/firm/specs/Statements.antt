-- What holds of the books: eight statements about the meaning, the second also of a whole recipe; and what a count leaves. Each is a theorem
-- that the contract of a function in src/statements.rt names. Definitions only: nothing is assumed.
use Rattle.std.specs.Prelude.{◌≡◌, ℕ, zero, suc, ◌+◌, ◌-◌, ◌*◌, ◌<◌, ◌≤◌, Bool, true, false, ◌&&◌, ◌||◌, ◌≢◌, List, [], ◌∷◌, ◌++◌, ◌==◌, nat_le}
use Rattle.firm.specs.Stock.{pick, Lot, Taken, take, on_hand, worth, all_worth, Part, take_all}
use Rattle.firm.specs.Ledger.{Entry, left_side, right_side}
use Rattle.firm.specs.Firm.{Order, Firm, new_firm, recipe}
use Rattle.firm.specs.Calls.{Call, makes, counted, Limits}
use Rattle.firm.specs.Refusals.{turned}
use Rattle.firm.specs.Answers.{after, answers, ran}

-- the firm that some list of calls makes of new books
abbrev pub Reached : Limits → Firm → Type 0
Reached l f = (cs : List Call) × (ran l new_firm cs ≡ f)

-- the sum of g over the numbers below n
unfoldable pub over : (ℕ → ℕ) → ℕ → ℕ
over g zero = 0
over g (suc n) = g n + over g n

-- 1. the books balance, and the stock account is what the lots cost
abbrev pub Balanced : Type 0
Balanced =
    (l : Limits) (f : Firm) → Reached l f →
    (over (left_side f.entries) 9 ≡ over (right_side f.entries) 9) × (left_side f.entries 0 ≡ right_side f.entries 0 + all_worth f.lots)

-- 2. taking loses nothing: pieces and cents taken and left are those that were there, and what is said to have been taken is what was taken
abbrev pub TakingKeeps : Type 0
TakingKeeps =
    (ls : List Lot) (i q : ℕ) →
    let t : Taken = take ls i q in
    (all_worth t.left + t.cost ≡ all_worth ls) × (all_worth t.parts ≡ t.cost) × (on_hand t.parts i + t.lacking ≡ q)
    × (on_hand t.left i + on_hand t.parts i ≡ on_hand ls i) × ((j : ℕ) → j ≢ i → on_hand t.left j ≡ on_hand ls j)

-- all pieces of some lots, whatever the item
unfoldable pub all_pieces : List Lot → ℕ
all_pieces [] = 0
all_pieces (l ∷ ls) = l.pieces + all_pieces ls

-- how many pieces the parts of a recipe ask for in all, for q pieces
unfoldable pub asked : List Part → ℕ → ℕ
asked [] q = 0
asked (p ∷ ps) q = p.each * q + asked ps q

-- an item is one of a recipe's; all lots are of its items
unfoldable pub in_recipe : List Part → ℕ → Bool
in_recipe [] i = false
in_recipe (p ∷ ps) i = p.item == i || in_recipe ps i

unfoldable pub all_in_recipe : List Part → List Lot → Bool
all_in_recipe ps [] = true
all_in_recipe ps (l ∷ ls) = in_recipe ps l.item && all_in_recipe ps ls

-- 2, for a recipe: cents taken and left are those that were there, all together and of each item; so are the pieces of each
-- item; what is said to have been taken is what was taken, is all that was asked for but what was lacking, and is of the recipe's items alone
abbrev pub RecipeTakingKeeps : Type 0
RecipeTakingKeeps =
    (ls : List Lot) (ps : List Part) (q : ℕ) →
    let t : Taken = take_all ls ps q in
    (all_worth t.left + t.cost ≡ all_worth ls) × (all_worth t.parts ≡ t.cost) × (all_pieces t.parts + t.lacking ≡ asked ps q)
    × ((j : ℕ) → on_hand t.left j + on_hand t.parts j ≡ on_hand ls j) × ((j : ℕ) → worth t.left j + worth t.parts j ≡ worth ls j)
    × (all_in_recipe ps t.parts ≡ true)

-- 3. the oldest first: as long as an older lot of the item is left, nothing was taken from a younger one
abbrev pub OldestFirst : Type 0
OldestFirst =
    (xs ys : List Lot) (l : Lot) (q : ℕ) → q < l.pieces + on_hand xs l.item →
    let t : Taken = take (xs ++ (l ∷ ys)) l.item q in
    (rest : List Lot) × (t.left ≡ rest ++ ys)

-- of each order no more is billed than moved, and no more moved than ordered
unfoldable pub orders_fine : List Order → Bool
orders_fine [] = true
orders_fine (o ∷ os) = (nat_le o.billed o.moved && nat_le o.moved o.pieces) && orders_fine os

-- 4. nobody is paid for what did not come, or sold what was not ordered: billed, moved and ordered are each at most the next, and suppliers are
-- never paid more than is owed
abbrev pub InThreeWays : Type 0
InThreeWays =
    (l : Limits) (f : Firm) → Reached l f → (orders_fine f.orders ≡ true) × (left_side f.entries 2 ≤ right_side f.entries 2)

-- what came on orders to buy and is not billed, at the orders' prices
unfoldable pub not_billed : List Order → ℕ
not_billed [] = 0
not_billed (o ∷ os) = pick o.sells 0 ((o.moved - o.billed) * o.price) + not_billed os

-- what is billed of orders to sell, at the orders' prices
unfoldable pub billed_sales : List Order → ℕ
billed_sales [] = 0
billed_sales (o ∷ os) = pick o.sells (o.billed * o.price) 0 + billed_sales os

-- 5. the account of goods received and not billed has just what came and was not billed, and the left of the customers' account is what they
-- were billed
abbrev pub OpenOrders : Type 0
OpenOrders =
    (l : Limits) (f : Firm) → Reached l f →
    (right_side f.entries 1 ≡ left_side f.entries 1 + not_billed f.orders) × (left_side f.entries 3 ≡ billed_sales f.orders)

-- 6. what is made costs what went into it, to the cent: its item's lots cost as much more as the parts that were taken, all lots cost what they
-- did, and nothing is entered
abbrev pub MadeCosts : Type 0
MadeCosts =
    (l : Limits) (f : Firm) (i q : ℕ) → Reached l f → turned l f (makes i q) ≡ 0 →
    (all_worth (after l f (makes i q)).lots ≡ all_worth f.lots) × ((after l f (makes i q)).entries ≡ f.entries)
    × (on_hand (after l f (makes i q)).lots i ≡ on_hand f.lots i + q)
    × (worth (after l f (makes i q)).lots i ≡ worth f.lots i + (take_all f.lots (recipe f.recipes i []) q).cost)

-- 7. entries stay as they are: no call changes one or takes one away
abbrev pub EntriesStay : Type 0
EntriesStay = (l : Limits) (f : Firm) (c : Call) → (es : List Entry) × ((after l f c).entries ≡ f.entries ++ es)

-- 8. a call that is turned away changes no later answer
abbrev pub TurnedAway : Type 0
TurnedAway = (l : Limits) (f : Firm) (c : Call) (cs : List Call) → 0 < turned l f c → answers l (after l f c) cs ≡ answers l f cs

-- after a count the books have as many pieces of the item as were counted, and of every other item as many as before
abbrev pub CountedThere : Type 0
CountedThere =
    (l : Limits) (f : Firm) (i q : ℕ) → turned l f (counted i q) ≡ 0 →
    (on_hand (after l f (counted i q)).lots i ≡ q) × ((j : ℕ) → j ≢ i → on_hand (after l f (counted i q)).lots j ≡ on_hand f.lots j)
