-- Calls and answers: what people enter and ask, and what they are answered. Definitions only: nothing is assumed.
use Rattle.std.specs.Prelude.{ℕ, Bool, true, ◌&&◌, List, [], ◌∷◌, length, nat_lt}
use Rattle.firm.specs.Stock.{Lot, Part}
use Rattle.firm.specs.Ledger.{Entry}

pub data Call : Type 0 where
  buys : ℕ → ℕ → ℕ → Call  -- an order to buy: item, pieces, price each
  sells : ℕ → ℕ → ℕ → Call  -- an order to sell: item, pieces, price each
  comes : ℕ → ℕ → Call  -- of an order to buy so many pieces come: order, pieces
  goes : ℕ → ℕ → Call  -- of an order to sell so many pieces go: order, pieces
  billed_by : ℕ → ℕ → ℕ → Call  -- the supplier's bill: order, pieces, what it asks for all of them
  bills : ℕ → ℕ → Call  -- our bill: order, pieces
  pays_out : ℕ → Call  -- to suppliers: amount
  pays_in : ℕ → Call  -- by customers: amount
  made_of : ℕ → List Part → Call  -- from now on an item is made of these: item, parts
  makes : ℕ → ℕ → Call  -- so many pieces are made by the recipe: item, pieces
  counted : ℕ → ℕ → Call  -- so many pieces are there: item, pieces
  stock_of : ℕ → Call  -- a question: pieces and cost of an item
  account : ℕ → Call  -- a question: both sides of an account
  order : ℕ → Call  -- a question: pieces moved and billed of an order
  lots_of : ℕ → Call  -- a question: an item's lots
  entries_from : ℕ → ℕ → Call  -- a question: the n-th entry on, how many
  garbled : ℕ → Call  -- bytes that are no call, and the place of the first that does not fit

-- an answer: a refusal by its number, at a place; one number; two; lots; entries
pub data Answer : Type 0 where
  refused : ℕ → ℕ → Answer
  number : ℕ → Answer
  two : ℕ → ℕ → Answer
  lots : List Lot → Answer
  entries : List Entry → Answer

-- which calls a stage can do, by their numbers, and what the books are opened with: how many of each there can be
pub record Limits : Type 0 where
  pub calls_can : ℕ → Bool
  pub items : ℕ
  pub orders : ℕ
  pub lots : ℕ
  pub parts : ℕ
  pub entries : ℕ

-- the number of a call is its first byte; 255 stands for bytes that are no call
unfoldable pub call_number : Call → ℕ
call_number (buys i q p) = 0
call_number (sells i q p) = 1
call_number (comes o q) = 2
call_number (goes o q) = 3
call_number (billed_by o q x) = 4
call_number (bills o q) = 5
call_number (pays_out x) = 6
call_number (pays_in x) = 7
call_number (made_of i ps) = 8
call_number (makes i q) = 9
call_number (counted i q) = 10
call_number (stock_of i) = 11
call_number (account a) = 12
call_number (order o) = 13
call_number (lots_of i) = 14
call_number (entries_from n k) = 15
call_number (garbled n) = 255

-- numbers that a field of eight bytes can carry, and calls of such numbers. A recipe's count of parts has one byte
abbrev pub field : ℕ → Bool
field n = nat_lt n 18446744073709551616

unfoldable pub readable_parts : List Part → Bool
readable_parts [] = true
readable_parts (p ∷ ps) = (field p.item && field p.each) && readable_parts ps

unfoldable pub readable : Call → Bool
readable (buys i q p) = field i && (field q && field p)
readable (sells i q p) = field i && (field q && field p)
readable (comes o q) = field o && field q
readable (goes o q) = field o && field q
readable (billed_by o q x) = field o && (field q && field x)
readable (bills o q) = field o && field q
readable (pays_out x) = field x
readable (pays_in x) = field x
readable (made_of i ps) = field i && (readable_parts ps && nat_lt (length ps) 256)
readable (makes i q) = field i && field q
readable (counted i q) = field i && field q
readable (stock_of i) = field i
readable (account a) = field a
readable (order o) = field o
readable (lots_of i) = field i
readable (entries_from n k) = field n && field k
readable (garbled n) = field n

unfoldable pub all_readable : List Call → Bool
all_readable [] = true
all_readable (c ∷ cs) = readable c && all_readable cs
