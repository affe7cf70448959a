-- WHICH CALL A LINE IS, or where it ceases to be one. Definitions only: nothing is assumed.
use Rattle.std.specs.Prelude.{ℕ, ◌-◌, List, [], length, Ok, Result}
use Rattle.std.specs.Result.{result_map_both}
use Rattle.words.specs.Readers.{Read, then}
use Rattle.wire.specs.Calls.{bytes_of_call, or_garbled}
use Rattle.firm.specs.Calls.{Call, buys, sells, comes, goes, billed_by, bills, pays_out, pays_in, made_of, makes, counted, stock_of, account, order, lots_of, entries_from}
use Rattle.wire.specs.declared.call_kind.CallKind.{CallKind}
use Rattle.wire.specs.declared.call_kind.CallKind.TheVariants.{Buys, Sells, Comes, Goes, BilledBy, Bills, PaysOut, PaysIn, MadeOf, Makes, Counted, StockOf, Account, Order, LotsOf, EntriesFrom}
use Rattle.openings.specs.Openings.{opening}
use Rattle.call_lines.specs.Numbers.{one, two, three}
use Rattle.call_lines.specs.Recipes.{head, parts}

-- a call of one, two or three numbers
abbrev pub of_one : (ℕ → Call) → List ℕ → Read Call
of_one f s = then (one s) (λ a. Ok (f a))

abbrev pub of_two : (ℕ → ℕ → Call) → List ℕ → Read Call
of_two f s = then (two s) (λ p. Ok (f p.0 p.1))

abbrev pub of_three : (ℕ → ℕ → ℕ → Call) → List ℕ → Read Call
of_three f s = then (three s) (λ p. Ok (f p.0 p.1 p.2))

-- a recipe of 255 parts at most
abbrev pub recipe : List ℕ → Read Call
recipe s = then (head s) (λ h. then (parts 255 [] h.1) (λ ps. Ok (made_of h.0 ps)))

-- what stands after the words that begin a call
unfoldable pub call_after : CallKind → List ℕ → Read Call
call_after Buys s = of_three buys s
call_after Sells s = of_three sells s
call_after Comes s = of_two comes s
call_after Goes s = of_two goes s
call_after BilledBy s = of_three billed_by s
call_after Bills s = of_two bills s
call_after PaysOut s = of_one pays_out s
call_after PaysIn s = of_one pays_in s
call_after MadeOf s = recipe s
call_after Makes s = of_two makes s
call_after Counted s = of_two counted s
call_after StockOf s = of_one stock_of s
call_after Account s = of_one account s
call_after Order s = of_one order s
call_after LotsOf s = of_one lots_of s
call_after EntriesFrom s = of_two entries_from s

-- its bytes, or what is left of the line from the word that does not fit on
abbrev pub bytes_or_rest : Read Call → Read (List ℕ)
bytes_or_rest r = result_map_both bytes_of_call (λ rest. rest) r

-- the call, or what is left of the line from the word that does not fit on
unfoldable pub call_or_rest : List ℕ → Read Call
call_or_rest line = then (opening line) (λ p. call_after p.0 p.1)

-- the call, or the offset of the first word that does not fit, which is the line's length where a word is missing
unfoldable pub call_or_place : List ℕ → Result Call ℕ
call_or_place line = result_map_both (λ c. c) (λ rest. length line - length rest) (call_or_rest line)

abbrev pub call_in_line : List ℕ → Call
call_in_line line = or_garbled (call_or_place line)
