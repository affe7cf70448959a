-- Why a call is turned away, and at which place. The checks run in this order, and the first that fails counts: 1 bytes that are no call, 2 fields
-- or a call that the stage cannot do, 4 no such order, 5 an order of the other kind, 6 more than was ordered, moved or is owed, 7 not enough on hand,
-- 8 no recipe, 9 more than the limits afterwards. 3 is for opening, before there are books. Definitions only: nothing is assumed.
use Rattle.std.specs.Prelude.{ℕ, ◌+◌, Bool, true, false, ◌&&◌, ◌||◌, List, [], ◌∷◌, length, ◌==◌, nat_le, nat_lt}
use Rattle.firm.specs.Stock.{pick, Part, on_hand, all_worth, take_all}
use Rattle.firm.specs.Ledger.{left_side, right_side, sum_of}
use Rattle.firm.specs.Firm.{Firm, recipe, recipe_parts, the_order}
use Rattle.firm.specs.Calls.{Call, buys, sells, comes, goes, billed_by, bills, pays_out, pays_in, made_of, makes, counted, stock_of, account, order, lots_of, entries_from, garbled, Limits, call_number}
use Rattle.firm.specs.Changes.{changed}

-- the most pieces of a call, the most that are counted, the most cents for a piece, and that are paid or asked at once
abbrev pub most_pieces : ℕ
most_pieces = 1000000

abbrev pub most_counted : ℕ
most_counted = 1000000000

abbrev pub most_price : ℕ
most_price = 1000000

abbrev pub most_money : ℕ
most_money = 1000000000000

-- the most entries that are asked for at once
abbrev pub most_asked : ℕ
most_asked = 256

-- the most parts of a recipe, and the most pieces of one part that go into one piece
abbrev pub most_parts : ℕ
most_parts = 16

abbrev pub most_each : ℕ
most_each = 1000

-- how many accounts there are
abbrev pub account_count : ℕ
account_count = 9

-- the most that all lots cost, that all entries come to, and documents
abbrev pub most_worth : ℕ
most_worth = 1000000000000

abbrev pub most_booked : ℕ
most_booked = 1000000000000000

abbrev pub most_documents : ℕ
most_documents = 1099511627776

-- pieces of a call: 1 to 1,000,000
abbrev pub some_pieces : ℕ → Bool
some_pieces q = nat_le 1 q && nat_le q most_pieces

-- an amount that is paid: 1 to 10^12 cents
abbrev pub some_money : ℕ → Bool
some_money x = nat_le 1 x && nat_le x most_money

-- each part is of an item with a smaller number, 1 to 1,000 times
unfoldable pub good_parts : List Part → ℕ → Bool
good_parts [] i = true
good_parts (p ∷ ps) i = (nat_lt p.item i && (nat_le 1 p.each && nat_le p.each most_each)) && good_parts ps i

-- 2: each number of a call is in its range; account and items are among those that there are
unfoldable pub good_fields : Limits → Call → Bool
good_fields l (buys i q p) = nat_lt i l.items && (some_pieces q && nat_le p most_price)
good_fields l (sells i q p) = nat_lt i l.items && (some_pieces q && nat_le p most_price)
good_fields l (comes o q) = some_pieces q
good_fields l (goes o q) = some_pieces q
good_fields l (billed_by o q x) = some_pieces q && nat_le x most_money
good_fields l (bills o q) = some_pieces q
good_fields l (pays_out x) = some_money x
good_fields l (pays_in x) = some_money x
good_fields l (made_of i ps) = nat_lt i l.items && (good_parts ps i && (nat_le 1 (length ps) && nat_le (length ps) most_parts))
good_fields l (makes i q) = nat_lt i l.items && some_pieces q
good_fields l (counted i q) = nat_lt i l.items && nat_le q most_counted
good_fields l (stock_of i) = nat_lt i l.items
good_fields l (account a) = nat_lt a account_count
good_fields l (order o) = true
good_fields l (lots_of i) = nat_lt i l.items
good_fields l (entries_from n k) = nat_le k most_asked
good_fields l (garbled n) = true

-- 2: bytes that are no call pass here, and are turned away by 1
abbrev pub good_call : Limits → Call → Bool
good_call l c = (call_number c == 255 || l.calls_can (call_number c)) && good_fields l c

-- 4 or 5 where the order is not there or of the other kind (s: one to sell is wanted), else n
abbrev pub kind_is : Firm → ℕ → Bool → ℕ → ℕ
kind_is f o s n = pick (nat_lt o (length f.orders)) (pick (the_order f o).sells (pick s n 5) (pick s 5 n)) 4

-- 1 and 4 to 8, or 0 where nothing that is there stands against the call
unfoldable pub turned_by : Firm → Call → ℕ
turned_by f (comes o q) = kind_is f o false (pick (nat_le ((the_order f o).moved + q) (the_order f o).pieces) 0 6)
turned_by f (goes o q) =
    kind_is f o true (pick (nat_le ((the_order f o).moved + q) (the_order f o).pieces) (pick (nat_le q (on_hand f.lots (the_order f o).item)) 0 7) 6)
turned_by f (billed_by o q x) = kind_is f o false (pick (nat_le ((the_order f o).billed + q) (the_order f o).moved) 0 6)
turned_by f (bills o q) = kind_is f o true (pick (nat_le ((the_order f o).billed + q) (the_order f o).moved) 0 6)
turned_by f (makes i q) =
    pick (length (recipe f.recipes i []) == 0) 8 (pick ((take_all f.lots (recipe f.recipes i []) q).lacking == 0) 0 7)
turned_by f (order o) = pick (nat_lt o (length f.orders)) 0 4
turned_by f (buys i q p) = 0
turned_by f (sells i q p) = 0
turned_by f (pays_out x) = pick (nat_le (left_side f.entries 2 + x) (right_side f.entries 2)) 0 6
turned_by f (pays_in x) = 0
turned_by f (made_of i ps) = 0
turned_by f (counted i q) = 0
turned_by f (stock_of i) = 0
turned_by f (account a) = 0
turned_by f (lots_of i) = 0
turned_by f (entries_from n k) = 0
turned_by f (garbled n) = 1

-- within the limits, what lies there costs at most 10^12, all entries come to at most 10^15, and there are at most 2^40 documents
abbrev pub fits : Limits → Firm → Bool
fits l f =
    (nat_le (length f.orders) l.orders && nat_le (length f.lots) l.lots)
    && ((nat_le (recipe_parts f.recipes) l.parts && nat_le (length f.entries) l.entries) && (nat_le (sum_of f.entries) most_booked && (nat_le (all_worth f.lots) most_worth && nat_le f.documents most_documents)))

-- the number of the check that turns a call away, or 0 where it is taken
abbrev pub turned : Limits → Firm → Call → ℕ
turned l f c = pick (good_call l c) (pick (turned_by f c == 0) (pick (fits l (changed f c)) 0 9) (turned_by f c)) 2

-- where bytes cease to be a call
unfoldable pub garbled_at : Call → ℕ
garbled_at (buys i q p) = 0
garbled_at (sells i q p) = 0
garbled_at (comes o q) = 0
garbled_at (goes o q) = 0
garbled_at (billed_by o q x) = 0
garbled_at (bills o q) = 0
garbled_at (pays_out x) = 0
garbled_at (pays_in x) = 0
garbled_at (made_of i ps) = 0
garbled_at (makes i q) = 0
garbled_at (counted i q) = 0
garbled_at (stock_of i) = 0
garbled_at (account a) = 0
garbled_at (order o) = 0
garbled_at (lots_of i) = 0
garbled_at (entries_from n k) = 0
garbled_at (garbled k) = k

-- the place that is named: of 1 the byte, of 6 and 7 the field of the pieces, which is 1 (call 6 pays out, and has its amount at 0), else 0
unfoldable pub place : Call → ℕ → ℕ
place c n = pick (n == 1) (garbled_at c) (pick (call_number c == 6) 0 (pick (n == 6 || n == 7) 1 0))
