-- A recipe from now on, on any memory. Definitions only: nothing is assumed.
use Rattle.std.specs.Prelude.{ℕ, ◌+◌, Bool, cond, ◌&&◌, List, [], ◌∷◌, length, Some, None, Option, nat_le, nat_lt}
use Rattle.firm.specs.Calls.{number}
use Rattle.firm.specs.Refusals.{good_parts}
use Rattle.firm.specs.Stock as stock
use Rattle.layout.specs.declared.head.Counter.TheVariants.{Parts}
use Rattle.layout.specs.declared.head.Total.TheVariants.{Documents}
use Rattle.layout.specs.declared.limits.Limits.{Limits}
use Rattle.memory.specs.Books.{count_of, total_of}
use Rattle.records.specs.State.{State, state}
use Rattle.records.specs.declared.part.Part.{Part}
use Rattle.store.specs.Steps.{add_part, add_recipe}
use Rattle.wire.specs.Said.{are_parts, parts_in}
use Rattle.rules.specs.Checks.{if, document_fits}
use Rattle.rules.specs.Outcome.{Outcome, outcome, refuse}
use Rattle.rules.specs.Totals.{raised}

-- a part is of an item with a smaller number, 1 to 1,000 times
abbrev pub good_part : stock.Part → ℕ → Bool
good_part p i = nat_lt p.item i && (nat_le 1 p.each && nat_le p.each 1000)

abbrev pub row_of : stock.Part → Part
row_of p = record { item = p.item; each = p.each }

-- the row of a part that is there, if it is a good one
abbrev pub good_row : ℕ → Option stock.Part → Option Part
good_row i None = None
good_row i (Some p) = if (good_part p i) (row_of p)

-- 1 to 16 parts, each a good one
abbrev pub some_parts : List stock.Part → ℕ → Bool
some_parts ps i = good_parts ps i && (nat_le 1 (length ps) && nat_le (length ps) 16)

-- there is room for a row for each of n parts and one in front of them, and for a document more
abbrev pub recipe_fits : Limits → ℕ → State → Bool
recipe_fits l n s = nat_le (count_of Parts s.narrow + (1 + n)) l.parts && document_fits s

-- each part comes behind those that are there
unfoldable pub parts_added : Limits → List stock.Part → List ℕ → List ℕ
parts_added l [] n = n
parts_added l (p ∷ ps) n = parts_added l ps (add_part l (row_of p) n).left

-- the row in front and the parts behind it, and a document more
unfoldable pub recipe_kept : Limits → ℕ → List stock.Part → State → State
recipe_kept l i ps s = state (raised Documents 1 s.wide) (parts_added l ps (add_recipe l i (length ps) s.narrow).left)

-- the answer is the document's number
abbrev pub made_of : Limits → ℕ → List stock.Part → State → Outcome
made_of l i ps s =
    cond (nat_lt i l.items && some_parts ps i)
    (cond (recipe_fits l (length ps) s) (outcome (number (total_of Documents s.wide)) (recipe_kept l i ps s)) (refuse 9 0 s))
    (refuse 2 0 s)

-- by the bytes of the parts: others than those of whole parts are no call
abbrev pub made_of_bytes : Limits → ℕ → List ℕ → State → Outcome
made_of_bytes l i bs s = cond (are_parts bs) (made_of l i (parts_in bs) s) (refuse 1 0 s)
