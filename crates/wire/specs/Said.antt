-- Which call of the meaning a call of the code is. Definitions only: nothing is assumed.
use Rattle.std.specs.Prelude.{ℕ, ◌/◌, ◌%◌, Bool, cond, ◌&&◌, List, length, Ok, Err, Result, ◌==◌, nat_lt}
use Rattle.firm.specs.Stock.{Part}
use Rattle.firm.specs.Calls as firm
use Rattle.wire.specs.declared.lines.RecipePart.{RecipePart}
use Rattle.wire.specs.declared.call.Call.{Call}
use Rattle.wire.specs.declared.call.Call.TheVariants.{Buys, Sells, Comes, Goes, BilledBy, Bills, PaysOut, PaysIn, MadeOf, Makes, Counted, StockOf, Account, Order, LotsOf, EntriesFrom}
use Rattle.wire.specs.declared.call_kind.CallKind.{CallKind}
use Rattle.wire.specs.declared.call_kind.CallKind.TheVariants as kind
use Rattle.wire.specs.Rows.{rows, part_in}

-- THE CALLS' NUMBERS
abbrev pub kind_number : CallKind → ℕ
kind_number kind.Buys = 0
kind_number kind.Sells = 1
kind_number kind.Comes = 2
kind_number kind.Goes = 3
kind_number kind.BilledBy = 4
kind_number kind.Bills = 5
kind_number kind.PaysOut = 6
kind_number kind.PaysIn = 7
kind_number kind.MadeOf = 8
kind_number kind.Makes = 9
kind_number kind.Counted = 10
kind_number kind.StockOf = 11
kind_number kind.Account = 12
kind_number kind.Order = 13
kind_number kind.LotsOf = 14
kind_number kind.EntriesFrom = 15

-- the whole parts that bytes hold
unfoldable pub parts_in : List ℕ → List Part
parts_in bs = rows part_in 16 (length bs / 16) bs

-- which part of the meaning a part is
abbrev pub part_said : RecipePart → Part
part_said p = record { item = p.item; each = p.each }

-- bytes that hold nothing but whole parts, and no more than a recipe can count
abbrev pub are_parts : List ℕ → Bool
are_parts bs = length bs % 16 == 0 && nat_lt (length bs / 16) 256

-- WHICH CALL OF THE MEANING A CALL OF THE CODE IS. A recipe of other bytes than whole parts is no call
abbrev pub said : Call → firm.Call
said (Buys i q p) = firm.buys i q p
said (Sells i q p) = firm.sells i q p
said (Comes o q) = firm.comes o q
said (Goes o q) = firm.goes o q
said (BilledBy o q x) = firm.billed_by o q x
said (Bills o q) = firm.bills o q
said (PaysOut x) = firm.pays_out x
said (PaysIn x) = firm.pays_in x
said (MadeOf i bs) = cond (are_parts bs.now) (firm.made_of i (parts_in bs.now)) (firm.garbled 0)
said (Makes i q) = firm.makes i q
said (Counted i q) = firm.counted i q
said (StockOf i) = firm.stock_of i
said (Account a) = firm.account a
said (Order o) = firm.order o
said (LotsOf i) = firm.lots_of i
said (EntriesFrom n k) = firm.entries_from n k

-- what is read: a call, or the place where the bytes cease to be one
abbrev pub heard : Result Call ℕ → firm.Call
heard (Ok c) = said c
heard (Err n) = firm.garbled n
