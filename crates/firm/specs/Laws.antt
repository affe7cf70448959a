-- What a program that keeps the books in words of 64 bits leans on: what is reached fits, numbers and products stay small, what is lacking is
-- what is not on hand, and an item's lots come to its stock. Each is a theorem that the contract of a function in src/laws.rt names.
-- Definitions only: nothing is assumed.
use Rattle.std.specs.Prelude.{◌≡◌, ℕ, ◌-◌, ◌*◌, ◌^◌, ◌<◌, ◌≤◌, true, ◌⊎◌, List, [], ◌∷◌, ◌++◌, length}
use Rattle.firm.specs.Stock.{Lot, take, on_hand, worth, all_worth, of_item}
use Rattle.firm.specs.Firm.{Order, Firm, the_order}
use Rattle.firm.specs.Calls.{Limits}
use Rattle.firm.specs.Refusals.{fits}
use Rattle.firm.specs.Statements.{Reached}

-- what is lacking is what was wanted less what was on hand
abbrev pub LackingIs : Type 0
LackingIs = (ls : List Lot) (i q : ℕ) → (take ls i q).lacking ≡ q - on_hand ls i

-- the lots that an item is said to have come to what its stock is said to be
abbrev pub LotsComeToStock : Type 0
LotsComeToStock = (ls : List Lot) (i : ℕ) → (on_hand (of_item ls i) i ≡ on_hand ls i) × (all_worth (of_item ls i) ≡ worth ls i)

-- all that is reached is within the limits
abbrev pub ReachedFits : Type 0
ReachedFits = (l : Limits) (f : Firm) → Reached l f → fits l f ≡ true

-- a lot that costs anything has at most 1,000,000 pieces
abbrev pub Small : Lot → Type 0
Small l = (l.cost ≡ 0) ⊎ (l.pieces ≤ 1000000)

abbrev pub AllSmall : List Lot → Type 0
AllSmall [] = Unit
AllSmall (l ∷ ls) = Small l × AllSmall ls

abbrev pub LotsSmall : Type 0
LotsSmall = (l : Limits) (f : Firm) → Reached l f → AllSmall f.lots

-- so a lot's cost times its pieces, and times any fewer, fits 63 bits
abbrev pub ProductsSmall : Type 0
ProductsSmall = (l : Limits) (f : Firm) (xs ys : List Lot) (x : Lot) → Reached l f → f.lots ≡ xs ++ (x ∷ ys) → x.cost * x.pieces < 2 ^ 63

-- an order is of an item that there is, and its numbers are small
pub record Known (l : Limits) (o : Order) : Type 0 where
  pub item : o.item < l.items
  pub pieces : o.pieces ≤ 1000000
  pub price : o.price ≤ 1000000

abbrev pub OrdersKnown : Type 0
OrdersKnown = (l : Limits) (f : Firm) → Reached l f → (n : ℕ) → n < length f.orders → Known l (the_order f n)
