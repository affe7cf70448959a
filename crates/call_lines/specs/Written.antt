-- HOW A CALL IS WRITTEN as a line. Definitions only: nothing is assumed.
use Rattle.std.specs.Prelude.{ℕ, List, [], ◌∷◌, ◌++◌, codes, decimal}
use Rattle.std.specs.List.{flat_map}
use Rattle.firm.specs.Stock.{Part}
use Rattle.firm.specs.Calls.{Call, buys, sells, comes, goes, billed_by, bills, pays_out, pays_in, made_of, makes, counted, stock_of, account, order, lots_of, entries_from, garbled}

-- two numbers, and three, with spaces between
abbrev pub written_two : ℕ → ℕ → List ℕ
written_two a b = decimal a ++ (codes " " ++ decimal b)

abbrev pub written_three : ℕ → ℕ → ℕ → List ℕ
written_three a b c = decimal a ++ (codes " " ++ written_two b c)

abbrev pub written_part : Part → List ℕ
written_part p = codes " item " ++ (decimal p.item ++ (codes ", " ++ (decimal p.each ++ codes " each")))

-- parts with commas between
abbrev pub another_part : Part → List ℕ
another_part p = codes "," ++ written_part p

abbrev pub written_parts : List Part → List ℕ
written_parts [] = []
written_parts (p ∷ ps) = written_part p ++ flat_map another_part ps

-- what is no call has no line
abbrev pub line_of_call : Call → List ℕ
line_of_call (buys i q p) = codes "buys " ++ written_three i q p
line_of_call (sells i q p) = codes "sells " ++ written_three i q p
line_of_call (comes o q) = codes "comes " ++ written_two o q
line_of_call (goes o q) = codes "goes " ++ written_two o q
line_of_call (billed_by o q x) = codes "billed by " ++ written_three o q x
line_of_call (bills o q) = codes "bills " ++ written_two o q
line_of_call (pays_out x) = codes "pays out " ++ decimal x
line_of_call (pays_in x) = codes "pays in " ++ decimal x
line_of_call (made_of i ps) = codes "made of " ++ (decimal i ++ (codes ":" ++ written_parts ps))
line_of_call (makes i q) = codes "makes " ++ written_two i q
line_of_call (counted i q) = codes "counted " ++ written_two i q
line_of_call (stock_of i) = codes "stock of " ++ decimal i
line_of_call (account a) = codes "account " ++ decimal a
line_of_call (order o) = codes "order " ++ decimal o
line_of_call (lots_of i) = codes "lots of " ++ decimal i
line_of_call (entries_from n k) = codes "entries from " ++ written_two n k
line_of_call (garbled n) = []
