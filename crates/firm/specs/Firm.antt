-- The firm: its orders, lots, recipes and entries. Definitions only: nothing is assumed.
use Rattle.std.specs.Prelude.{ℕ, suc, ◌+◌, Bool, false, List, [], ◌∷◌, length, ◌==◌, slice_index_or}
use Rattle.firm.specs.Stock.{pick, Lot, Part}
use Rattle.firm.specs.Ledger.{Entry}

-- an order, to buy or to sell so many pieces of an item at a price each; how many of them have come or gone, and how many of these are billed
pub record Order : Type 0 where
  pub sells : Bool
  pub item : ℕ
  pub pieces : ℕ
  pub price : ℕ
  pub moved : ℕ
  pub billed : ℕ

-- of what an item is made
pub record Recipe : Type 0 where
  pub makes : ℕ
  pub of_parts : List Part

-- documents: how many calls were taken that are no questions. The number of an order is its place in the list, from 0
pub record Firm : Type 0 where
  pub documents : ℕ
  pub lots : List Lot
  pub orders : List Order
  pub recipes : List Recipe
  pub entries : List Entry

abbrev pub new_firm : Firm
new_firm = record { documents = 0; lots = []; orders = []; recipes = []; entries = [] }

-- what stands where there is no order
abbrev pub no_order : Order
no_order = record { sells = false; item = 0; pieces = 0; price = 0; moved = 0; billed = 0 }

-- the order with this number
abbrev pub the_order : Firm → ℕ → Order
the_order f o = slice_index_or f.orders o no_order

-- an order of which q pieces more have moved, or are billed
abbrev pub moved_by : Order → ℕ → Order
moved_by o q = record { sells = o.sells; item = o.item; pieces = o.pieces; price = o.price; moved = o.moved + q; billed = o.billed }

abbrev pub billed_more : Order → ℕ → Order
billed_more o q = record { sells = o.sells; item = o.item; pieces = o.pieces; price = o.price; moved = o.moved; billed = o.billed + q }

-- the parts of an item's last recipe, or d where it has none
unfoldable pub recipe : List Recipe → ℕ → List Part → List Part
recipe [] i d = d
recipe (r ∷ rs) i d = recipe rs i (pick (r.makes == i) r.of_parts d)

-- how many parts all recipes have, each recipe counting one besides
unfoldable pub recipe_parts : List Recipe → ℕ
recipe_parts [] = 0
recipe_parts (r ∷ rs) = suc (length r.of_parts) + recipe_parts rs
