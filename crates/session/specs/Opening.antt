-- Opening by a list of limits, and the numbers that opening and a call return to other languages. Definitions only: nothing is assumed.
use Rattle.std.specs.Prelude.{ℕ, ℤ, pos, Some, None, Option, Ok, Err, Result}
use Rattle.layout.specs.declared.limits.Limits.{Limits}
use Rattle.memory.specs.Opened.{Opened, opening_of, opening}
use Rattle.memory.specs.declared.error.OpenError.{OpenError}
use Rattle.memory.specs.declared.error.OpenError.TheVariants.{LimitsOutOfRange, MemoryTooSmall}
use Rattle.records.specs.State.{State}
use Rattle.session.specs.Boundary.{minus}

-- limits that cannot be read are out of range, and leave memory as it was
abbrev pub opened_by : Option Limits → State → Opened
opened_by None s = opening_of (Err LimitsOutOfRange) s
opened_by (Some l) s = opening l s

-- what opening returns to other languages
abbrev pub opening_number : Result (Unit {0}) OpenError → ℤ
opening_number (Ok u) = pos 0
opening_number (Err LimitsOutOfRange) = minus 3 1
opening_number (Err MemoryTooSmall) = minus 3 0

-- what a call returns to other languages: the answer's length, or that memory does not suffice
abbrev pub call_number : Option ℕ → ℤ
call_number (Some n) = pos n
call_number None = minus 3 0
