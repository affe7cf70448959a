-- What a call that is taken makes of the firm. Definitions only: nothing is assumed.
use Rattle.std.specs.Prelude.{suc, ◌-◌, ◌*◌, true, false, List, [], ◌∷◌, ◌++◌, ◌==◌, nat_le, slice_set}
use Rattle.firm.specs.Stock.{pick, Lot, Taken, take, on_hand, take_all}
use Rattle.firm.specs.Ledger.{Entry, entry}
use Rattle.firm.specs.Firm.{Order, Recipe, Firm, recipe, the_order, moved_by, billed_more}
use Rattle.firm.specs.Calls.{Call, buys, sells, comes, goes, billed_by, bills, pays_out, pays_in, made_of, makes, counted, stock_of, account, order, lots_of, entries_from, garbled}

-- one document more, with these lots, orders and recipes, and these entries added
abbrev pub next : Firm → List Lot → List Order → List Recipe → List Entry → Firm
next f ls os rs es = record { documents = suc f.documents; lots = ls; orders = os; recipes = rs; entries = f.entries ++ es }

-- Orders are added at the end and have moved and billed nothing yet. What comes is a new lot at its order's price. What goes is taken, and
-- entered at its cost. A bill of a supplier's is entered at the order's price, and what its sum is more or less as a difference of price.
-- What is made is a new lot that costs what its parts cost. A count takes what is less, and what is more is a new lot that costs nothing.
-- Questions, and bytes that are no call, change nothing
unfoldable pub changed : Firm → Call → Firm
changed f (buys i q p) = next f f.lots (f.orders ++ (record { sells = false; item = i; pieces = q; price = p; moved = 0; billed = 0 } ∷ [])) f.recipes []
changed f (sells i q p) = next f f.lots (f.orders ++ (record { sells = true; item = i; pieces = q; price = p; moved = 0; billed = 0 } ∷ [])) f.recipes []
changed f (comes o q) =
    let a : Order = the_order f o in
    next f (f.lots ++ (record { item = a.item; pieces = q; cost = q * a.price; from = f.documents } ∷ [])) (slice_set f.orders o (moved_by a q)) f.recipes
    (entry 0 1 (q * a.price) f.documents)
changed f (goes o q) =
    let a : Order = the_order f o in
    let t : Taken = take f.lots a.item q in
    next f t.left (slice_set f.orders o (moved_by a q)) f.recipes (entry 6 0 t.cost f.documents)
changed f (billed_by o q x) =
    let a : Order = the_order f o in
    next f f.lots (slice_set f.orders o (billed_more a q)) f.recipes
    (entry 1 2 (q * a.price) f.documents ++ (entry 7 2 (x - q * a.price) f.documents ++ entry 2 7 (q * a.price - x) f.documents))
changed f (bills o q) =
    let a : Order = the_order f o in
    next f f.lots (slice_set f.orders o (billed_more a q)) f.recipes (entry 3 5 (q * a.price) f.documents)
changed f (pays_out x) = next f f.lots f.orders f.recipes (entry 2 4 x f.documents)
changed f (pays_in x) = next f f.lots f.orders f.recipes (entry 4 3 x f.documents)
changed f (made_of i ps) = next f f.lots f.orders (f.recipes ++ (record { makes = i; of_parts = ps } ∷ [])) []
changed f (makes i q) =
    let t : Taken = take_all f.lots (recipe f.recipes i []) q in
    next f (t.left ++ (record { item = i; pieces = q; cost = t.cost; from = f.documents } ∷ [])) f.orders f.recipes []
changed f (counted i q) =
    pick (nat_le (on_hand f.lots i) q)
    (pick (on_hand f.lots i == q) (next f f.lots f.orders f.recipes [])
    (next f (f.lots ++ (record { item = i; pieces = q - on_hand f.lots i; cost = 0; from = f.documents } ∷ [])) f.orders f.recipes []))
    (let t : Taken = take f.lots i (on_hand f.lots i - q) in
    next f t.left f.orders f.recipes (entry 8 0 t.cost f.documents))
changed f (stock_of i) = f
changed f (account a) = f
changed f (order o) = f
changed f (lots_of i) = f
changed f (entries_from n k) = f
changed f (garbled n) = f
