-- What holds of the calls that lines are. Each is a theorem that the contract of a function in src/ names. Definitions only: nothing is assumed.
use Rattle.std.specs.Prelude.{◌≡◌, ℕ, ◌^◌, ◌<◌, ◌≤◌, true, List, length, drop, Ok, Err}
use Rattle.words.specs.Words.{trimmed}
use Rattle.wire.specs.Calls.{Sendable}
use Rattle.firm.specs.Calls.{Call, readable}
use Rattle.call_lines.specs.Lines.{call_or_place, call_in_line}
use Rattle.call_lines.specs.Written.{line_of_call}

-- 1. reading the line that a call is written as gives the same call
abbrev pub LineComesBack : Type 0
LineComesBack = (c : Call) → Sendable c → call_or_place (line_of_call c) ≡ Ok c

-- 2. what a line is, a call or the place where it ceases to be one, has numbers that fields of eight bytes can carry
abbrev pub LinesReadable : Type 0
LinesReadable = (line : List ℕ) → length line < 2 ^ 64 → readable (call_in_line line) ≡ true

-- 3. the place is where a word begins, or the line's end: there is no blank there
abbrev pub PlacesAtWords : Type 0
PlacesAtWords = (line : List ℕ) (n : ℕ) → call_or_place line ≡ Err n → (n ≤ length line) × (trimmed (drop n line) ≡ drop n line)
