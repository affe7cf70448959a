-- Books in memory of their own. Definitions only: nothing is assumed.
use Rattle.std.specs.Prelude.{◌≡◌, ℕ, cond, List, length, take, Option, option_map, codes}
use Rattle.layout.specs.Layout.{Good, is_good, wide_need, narrow_need, answer_need}
use Rattle.layout.specs.declared.limits.Limits.{Limits}
use Rattle.memory.specs.Opened.{opened}
use Rattle.records.specs.State.{State, state}
use Rattle.session.specs.Calling.{Called, called}
use Rattle.session.specs.declared.error.RunError.{RunError}
use Rattle.session.specs.declared.error.RunError.TheVariants.{LimitsOutOfRange, OutOfMemory}
use Rattle.session.specs.declared.held.Held.{Held}
use Rattle.wire.specs.Calls.{call_of}

abbrev pub words_of : Held → State
words_of h = state h.wide.items h.narrow.items

-- how many bytes there are for an answer
abbrev pub room_of : Held → ℕ
room_of h = length h.answer.items

-- what the call that bytes are does on books
abbrev pub call_on : Held → List ℕ → Called
call_on h row = called (call_of row) (words_of h) h.answer.items

-- the bytes of the answer: as many of the first as it has
abbrev pub answer_in : Called → Option (List ℕ)
answer_in k = option_map (λ n. take n k.bytes) k.came

-- what that call leaves in memory and in the bytes for its answer
pub record HasLeft (old : Held) (row : List ℕ) (h : Held) : Type 0 where
  pub memory : words_of h ≡ (call_on old row).left
  pub bytes : h.answer.items ≡ (call_on old row).bytes
  pub room : room_of h ≡ room_of old

-- memory of just the size that limits ask for, opened, whatever it held
pub record Fresh (l : Limits) (h : Held) : Type 0 where
  pub good : Good l
  pub before : State
  pub wide : length before.wide ≡ wide_need l
  pub narrow : length before.narrow ≡ narrow_need l
  pub opens : words_of h ≡ opened l before
  pub room : room_of h ≡ answer_need l

-- why books could not be opened: limits out of range, and else nothing but want of memory
abbrev pub unheld : Limits → RunError
unheld l = cond (is_good l) OutOfMemory LimitsOutOfRange

-- the same in words
abbrev pub failure_text : RunError → List ℕ
failure_text LimitsOutOfRange = codes "limits out of range"
failure_text OutOfMemory = codes "not enough memory"
