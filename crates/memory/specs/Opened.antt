-- Opening: what is refused, and the empty books that are left otherwise.
use Rattle.std.specs.Prelude.{ℕ, cond, ◌||◌, List, Ok, Err, Result, ◌++◌, length, drop, replicate, nat_lt, slice_set, codes}
use Rattle.layout.specs.Layout.{is_good, wide_need, narrow_need, lot_rows, order_rows, entry_rows}
use Rattle.layout.specs.declared.limits.Limits.{Limits}
use Rattle.links.specs.Area.{emptied, filled}
use Rattle.links.specs.declared.shape.Shape.{Shape}
use Rattle.records.specs.State.{State, state}
use Rattle.memory.specs.declared.error.OpenError.{OpenError}
use Rattle.memory.specs.declared.error.OpenError.TheVariants.{LimitsOutOfRange, MemoryTooSmall}

-- the first k words are 0, and those beyond are as they were
unfoldable pub zeroed : ℕ → List ℕ → List ℕ
zeroed k s = replicate k 0 ++ drop k s

unfoldable pub with_limits : Limits → List ℕ → List ℕ
with_limits l n = slice_set (slice_set (slice_set (slice_set (slice_set n 0 l.items) 1 l.orders) 2 l.lots) 3 l.parts) 4 l.entries

abbrev pub all_empty : Shape → List ℕ → List ℕ
all_empty h n = emptied h.rows h 0 n

-- every lot is free, and no row has anything else
unfoldable pub with_rows : Limits → List ℕ → List ℕ
with_rows l n = all_empty (entry_rows l) (all_empty (order_rows l) (filled (lot_rows l) l.items (all_empty (lot_rows l) n)))

-- the memory that opening leaves: zeros, the limits, and rows in which every lot is free
unfoldable pub opened : Limits → State → State
opened l s = state (zeroed (wide_need l) s.wide) (with_rows l (with_limits l (zeroed (narrow_need l) s.narrow)))

-- whether books may have such limits, and slices of so many words have room for them
abbrev pub room : Limits → ℕ → ℕ → Result (Unit {0}) OpenError
room l w n = cond (is_good l) (cond (nat_lt w (wide_need l) || nat_lt n (narrow_need l)) (Err MemoryTooSmall) (Ok tt)) (Err LimitsOutOfRange)

-- what came of opening, and what it left
pub record Opened : Type 0 where
  pub came : Result (Unit {0}) OpenError
  pub left : State

abbrev pub opening_of : Result (Unit {0}) OpenError → State → Opened
opening_of o s = record { came = o; left = s }

abbrev pub opening : Limits → State → Opened
opening l s =
    cond (is_good l)
    (cond (nat_lt (length s.wide) (wide_need l)) (opening_of (Err MemoryTooSmall) s)
    (cond (nat_lt (length s.narrow) (narrow_need l)) (opening_of (Err MemoryTooSmall) s) (opening_of (Ok tt) (opened l s))))
    (opening_of (Err LimitsOutOfRange) s)

-- why not, in words
abbrev pub error_text : OpenError → List ℕ
error_text LimitsOutOfRange = codes "limits out of range"
error_text MemoryTooSmall = codes "memory too small"
