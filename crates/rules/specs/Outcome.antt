-- What comes of a call on any memory: its answer, and what it leaves. Definitions only: nothing is assumed.
use Rattle.std.specs.Prelude.{ℕ, Ok, Err, Result}
use Rattle.firm.specs.Calls.{Answer, refused, number, two}
use Rattle.records.specs.State.{State}
use Rattle.wire.specs.Told.{refusal_number}
use Rattle.rules.specs.declared.refused.Refused.{Refused}

pub record Outcome : Type 0 where
  pub answer : Answer
  pub left : State

abbrev pub outcome : Answer → State → Outcome
outcome a s = record { answer = a; left = s }

-- a refusal leaves all as it was
abbrev pub refuse : ℕ → ℕ → State → Outcome
refuse n p s = outcome (refused n p) s

-- the answers that the code's results are
abbrev pub refusing : Refused → Answer
refusing r = refused (refusal_number r.by) r.place

-- what is told of a value where a call is taken, or why it is turned away
abbrev pub told_by : {A : Type 0} → (A → Answer) → Result A Refused → Answer
told_by told (Ok x) = told x
told_by told (Err r) = refusing r

abbrev pub numbered : Result ℕ Refused → Answer
numbered = told_by number

abbrev pub paired : Result (ℕ × ℕ) Refused → Answer
paired = told_by (λ p. two p.0 p.1)
