-- What answering a line does to the tally, on whatever firm memory stands for. Definitions only: nothing is assumed.
use Rattle.std.specs.Prelude.{◌≡◌, ℕ, List}
use Rattle.firm.specs.Firm.{Firm}
use Rattle.firm.specs.Calls.{Call, Limits}
use Rattle.firm.specs.Answers.{answer, answers}
use Rattle.records.specs.State.{State}
use Rattle.wire.specs.Calls.{Sendable, bytes_of_call}
use Rattle.text.specs.Standing.{Standing}
use Rattle.text.specs.Tallies.{noted, tallied}
use Rattle.text.specs.declared.tally.Tally.{Tally}

-- the answer to the bytes of a call is counted
abbrev pub CallNoted : List ℕ → State → ℕ → Tally → Tally → Type 0
CallNoted row s room before after = (l : Limits) (f : Firm) (c : Call) → Standing l f s room → Sendable c → row ≡ bytes_of_call c → after ≡ noted before (answer l f c)

-- the answers to some calls are counted
abbrev pub CallsNoted : List Call → State → ℕ → Tally → Tally → Type 0
CallsNoted cs s room before after = (l : Limits) (f : Firm) → Standing l f s room → after ≡ tallied before (answers l f cs)
