-- What becomes of a line, by what its call is answered. Definitions only: nothing is assumed.
use Rattle.std.specs.Prelude.{◌≡◌, ◌≢◌, ℕ, List, [], ◌∷◌, Some, Option}
use Rattle.firm.specs.Firm.{Firm}
use Rattle.firm.specs.Calls.{Call, Limits, Answer, refused}
use Rattle.firm.specs.Answers.{answer, answers}
use Rattle.records.specs.State.{State}
use Rattle.wire.specs.Calls.{Sendable, bytes_of_call}
use Rattle.wire.specs.Told.{refusal_number}
use Rattle.text.specs.Standing.{Standing}
use Rattle.text.specs.declared.fate.Fate.{Fate}
use Rattle.text.specs.declared.fate.Fate.TheVariants.{Quiet, Refused, Taken}

-- an answer that is no refusal
abbrev pub NoRefusal : Answer → Type 0
NoRefusal a = (n p : ℕ) → a ≢ refused n p

-- of a call, by what its bytes are answered
abbrev pub Tells : Fate → Option Answer → Type 0
Tells Quiet o = ⊥
Tells (Refused r p) o = o ≡ Some (refused (refusal_number r) p)
Tells Taken o = (a : Answer) → o ≡ Some a → NoRefusal a

-- of a line, by the answers to its calls, of which there is one at most
abbrev pub TellsLine : Fate → List Answer → Type 0
TellsLine Quiet told = told ≡ []
TellsLine (Refused r p) told = told ≡ refused (refusal_number r) p ∷ []
TellsLine Taken told = (a : Answer) × (told ≡ a ∷ []) × NoRefusal a

-- on whatever firm memory stands for
abbrev pub CallFated : List ℕ → State → ℕ → Fate → Type 0
CallFated row s room fate = (l : Limits) (f : Firm) (c : Call) → Standing l f s room → Sendable c → row ≡ bytes_of_call c → Tells fate (Some (answer l f c))

abbrev pub CallsFated : List Call → State → ℕ → Fate → Type 0
CallsFated cs s room fate = (l : Limits) (f : Firm) → Standing l f s room → TellsLine fate (answers l f cs)

-- where a line's call was taken, its bytes are at hand
abbrev pub AtHand : List Call → List ℕ → Fate → Type 0
AtHand cs row fate = fate ≡ Taken → (c : Call) × (cs ≡ c ∷ []) × Sendable c × (row ≡ bytes_of_call c)
