-- What the words stand for: a firm of the meaning. Said by what is kept, never by addresses; which cell a lot lies in
-- depends on the calls before, and means nothing. Definitions only: nothing is assumed.
use Rattle.std.specs.Prelude.{◌≡◌, ℕ, ◌^◌, ◌<◌, List, [], map, length, take, drop, slice_index}
use Rattle.firm.specs.Stock as stock
use Rattle.firm.specs.Stock.{on_hand, worth, all_worth, of_item}
use Rattle.firm.specs.Ledger as ledger
use Rattle.firm.specs.Ledger.{left_side, right_side, sum_of}
use Rattle.firm.specs.Firm as firm
use Rattle.firm.specs.Firm.{Firm, recipe, recipe_parts}
use Rattle.firm.specs.Calls as calls
use Rattle.layout.specs.Layout.{wide_need, narrow_need}
use Rattle.layout.specs.declared.head.Total.TheVariants.{Documents, Booked, Worth}
use Rattle.layout.specs.declared.limits.Limits.{Limits}
use Rattle.questions.specs.Entries.{entry_of}
use Rattle.questions.specs.Listing.{lot_of}
use Rattle.records.specs.State.{State}
use Rattle.records.specs.declared.balance.Balance.{Balance}
use Rattle.records.specs.declared.order.Order.{Order}
use Rattle.records.specs.declared.part.Part.{Part}
use Rattle.records.specs.declared.recipe.Recipe.{Recipe}
use Rattle.records.specs.declared.stock.Stock.{Stock}
use Rattle.store.specs.View.{Kept, Stands}

-- records of memory as those of the books
abbrev pub order_of : Order → firm.Order
order_of x = record { sells = x.sells; item = x.item; pieces = x.pieces; price = x.price; moved = x.moved; billed = x.billed }

abbrev pub part_of : Part → stock.Part
part_of x = record { item = x.item; each = x.each }

-- the sums of an item over the lots of the books, and of an account over their entries
abbrev pub stock_sums : List stock.Lot → ℕ → Stock
stock_sums ls i = record { pieces = on_hand ls i; worth = worth ls i }

abbrev pub account_sums : List ledger.Entry → ℕ → Balance
account_sums es a = record { left = left_side es a; right = right_side es a }

-- limits of the meaning as those of memory
abbrev pub limits_of : calls.Limits → Limits
limits_of l = record { items = l.items; orders = l.orders; lots = l.lots; parts = l.parts; entries = l.entries }

abbrev pub Below : ℕ → List ℕ → Type 0
Below b xs = (i : ℕ) → slice_index xs i < b

-- n words, each below b
pub record Words (n b : ℕ) (xs : List ℕ) : Type 0 where
  pub long : length xs ≡ n
  pub small : Below b xs

-- memory of just the size that the limits ask for
pub record Sized (l : Limits) (s : State) : Type 0 where
  pub wide : Words (wide_need l) (2 ^ 64) s.wide
  pub narrow : Words (narrow_need l) (2 ^ 32) s.narrow

-- the rows of a recipe that lies there: so many parts, from the first on
abbrev pub rows_of : Recipe → List Part → List Part
rows_of x ps = take x.parts (drop x.first ps)

-- Of each item the rows that lie where its recipe is said to lie are the parts of its last recipe, and as many as that has; none where it has none.
-- Earlier recipes keep their rows: there are as many as all recipes have parts, and one in front of each
pub record RecipesMean (l : Limits) (ps : List Part) (of : ℕ → Recipe) (rs : List firm.Recipe) : Type 0 where
  pub each : (i : ℕ) → i < l.items → map part_of (rows_of (of i) ps) ≡ recipe rs i []
  pub many : (i : ℕ) → i < l.items → (of i).parts ≡ length (recipe rs i [])
  pub rows : length ps ≡ recipe_parts rs

-- Memory means the firm where what it keeps is what the firm has: as many documents, entries and lots that come to as much, each item's lots from
-- the oldest on and what they come to, all orders and entries by number, what these come to on each account, and each item's recipe
pub record Means (l : Limits) (s : State) (f : Firm) : Type 0 where
  pub kept : Kept
  pub stands : Stands l s kept
  pub documents : kept.totals Documents ≡ f.documents
  pub booked : kept.totals Booked ≡ sum_of f.entries
  pub worth : kept.totals Worth ≡ all_worth f.lots
  pub lots : (i : ℕ) → i < l.items → map lot_of (kept.lots_of i) ≡ of_item f.lots i
  pub used : kept.lots_used ≡ length f.lots
  pub orders : map order_of kept.all_orders ≡ f.orders
  pub entries : map entry_of kept.all_entries ≡ f.entries
  pub stocks : (i : ℕ) → i < l.items → kept.stocks i ≡ stock_sums f.lots i
  pub balances : (a : ℕ) → a < 9 → kept.balances a ≡ account_sums f.entries a
  pub recipes : RecipesMean l kept.all_parts kept.recipes f.recipes
  pub sized : Sized l s
