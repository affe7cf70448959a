-- What is answered to a line that is read. Definitions only: nothing is assumed.
use Rattle.std.specs.Prelude.{◌≡◌, ℕ, List, ◌++◌, Ok, Err, Result, codes, decimal}
use Rattle.words.specs.Readers.{Read}
use Rattle.firm.specs.Calls.{Call}
use Rattle.call_lines.specs.declared.stop.Stop.{Stop}
use Rattle.call_lines.specs.declared.stop.Stop.TheVariants as stop
use Rattle.call_lines.specs.declared.error.LineError.{LineError}
use Rattle.call_lines.specs.declared.error.LineError.TheVariants.{Misfit, OutOfMemory}

-- a reader gives what it is to read, f of what it answers, or stops where the line does not fit; where memory runs out nothing is said
abbrev pub Gives : {T X : Type 0} → (T → X) → Result T Stop → Read X → Type 0
Gives f (Ok x) r = Ok (f x) ≡ r
Gives f (Err (stop.At rest)) r = Err rest.now ≡ r
Gives f (Err (stop.OutOfMemory e)) r = Unit {0}

-- a call, or the place where the line ceases to be one
abbrev pub reading_of : Result Call ℕ → Result (Unit {0}) LineError
reading_of (Ok c) = Ok tt
reading_of (Err n) = Err (Misfit n)

-- where memory suffices
abbrev pub OnMemory : Result (Unit {0}) LineError → Type 0 → Type 0
OnMemory (Ok u) P = P
OnMemory (Err (Misfit n)) P = P
OnMemory (Err (OutOfMemory e)) P = Unit {0}

-- how it is told why there is no call
abbrev pub error_text : LineError → List ℕ
error_text (Misfit n) = codes "no call from byte " ++ (decimal n ++ codes " on")
error_text (OutOfMemory e) = codes "out of memory"
