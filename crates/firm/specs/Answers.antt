-- What calls are answered, one by one and for a whole list: THE MEANING of the books. Each answer goes through all orders, lots and entries.
-- Definitions only: nothing is assumed.
use Rattle.std.specs.Prelude.{◌*◌, List, [], ◌∷◌, length, ◌==◌}
use Rattle.firm.specs.Stock.{pick, take, on_hand, worth, take_all, of_item}
use Rattle.firm.specs.Ledger.{left_side, right_side, some_from}
use Rattle.firm.specs.Firm.{Firm, recipe, the_order}
use Rattle.firm.specs.Calls.{Call, buys, sells, comes, goes, billed_by, bills, pays_out, pays_in, made_of, makes, counted, stock_of, account, order, lots_of, entries_from, garbled, Answer, refused, number, two, lots, entries, Limits}
use Rattle.firm.specs.Changes.{changed}
use Rattle.firm.specs.Refusals.{turned, place}

-- the firm after a call: a call that is turned away changes nothing
abbrev pub after : Limits → Firm → Call → Firm
after l f c = pick (turned l f c == 0) (changed f c) f

-- what a call that is taken is answered; bytes that are no call are never taken, and what stands for them here is never said
unfoldable pub told : Firm → Call → Answer
told f (buys i q p) = number (length f.orders)
told f (sells i q p) = number (length f.orders)
told f (comes o q) = number f.documents
told f (goes o q) = lots (take f.lots (the_order f o).item q).parts
told f (billed_by o q x) = number f.documents
told f (bills o q) = number (q * (the_order f o).price)
told f (pays_out x) = number f.documents
told f (pays_in x) = number f.documents
told f (made_of i ps) = number f.documents
told f (makes i q) = lots (take_all f.lots (recipe f.recipes i []) q).parts
told f (counted i q) = two (on_hand f.lots i) (worth f.lots i)
told f (stock_of i) = two (on_hand f.lots i) (worth f.lots i)
told f (account a) = two (left_side f.entries a) (right_side f.entries a)
told f (order o) = two (the_order f o).moved (the_order f o).billed
told f (lots_of i) = lots (of_item f.lots i)
told f (entries_from n k) = entries (some_from f.entries n k)
told f (garbled n) = number 0

-- what a call is answered
abbrev pub answer : Limits → Firm → Call → Answer
answer l f c = pick (turned l f c == 0) (told f c) (refused (turned l f c) (place c (turned l f c)))

-- what a list of calls is answered, one after the other
unfoldable pub answers : Limits → Firm → List Call → List Answer
answers l f [] = []
answers l f (c ∷ cs) = answer l f c ∷ answers l (after l f c) cs

-- the firm after them
unfoldable pub ran : Limits → Firm → List Call → Firm
ran l f [] = f
ran l f (c ∷ cs) = ran l (after l f c) cs
