-- The keeper: what the contracts of `open` and `call` say of memory and of the answer, over one list of words. Definitions only: nothing is assumed.
use Rattle.std.specs.Prelude.{◌≡◌, ◌++◌, take, drop, replicate}
use Rattle.firm.specs.Firm.{Firm}
use Rattle.firm.specs.Calls.{Limits}
use Rattle.firm.specs.Promise.{Memory, Keeper}
use Rattle.firm.specs.Statements.{Reached}
use Rattle.layout.specs.Layout.{wide_need, narrow_need}
use Rattle.layout.specs.declared.limits.Limits as memory
use Rattle.memory.specs.Books.{limits_in}
use Rattle.memory.specs.Opened.{opened}
use Rattle.records.specs.State.{State, state}
use Rattle.session.specs.Calling.{done}
use Rattle.session.specs.Means.{limits_of, Means}
use Rattle.firm.specs.Promise.{whole}

-- the words of both slices, one behind the other; the limits in front say where the narrow one ends
abbrev pub memory_of : State → Memory
memory_of s = record { words = s.narrow ++ s.wide }

abbrev pub state_of : Memory → State
state_of m = state (drop (narrow_need (limits_in m.words)) m.words) (take (narrow_need (limits_in m.words)) m.words)

-- memory of just the size that limits ask for, before it is opened
abbrev pub blank : memory.Limits → State
blank l = state (replicate (wide_need l) 0) (replicate (narrow_need l) 0)

abbrev pub keeper : Keeper
keeper =
    record {
      opened = λ l. memory_of (opened (limits_of l) (blank (limits_of l)));
      next = λ m c. memory_of (done (limits_in m.words) c (state_of m)).left;
      says = λ m c. (done (limits_in m.words) c (state_of m)).answer;
    }

-- what the keeper's words stand for, and that the firm is one that calls reach
pub record Standing (l : Limits) (m : Memory) (f : Firm) : Type 0 where
  pub slices : State
  pub words : m ≡ memory_of slices
  pub means : Means (limits_of l) slices f
  pub reached : Reached l f
  pub cans : l.calls_can ≡ whole

-- the same limits where every call can be done: the keeper does not look at which calls they name
abbrev pub for_all_calls : Limits → Limits
for_all_calls l = record { calls_can = whole; items = l.items; orders = l.orders; lots = l.lots; parts = l.parts; entries = l.entries }

-- the words stand for some firm
abbrev pub Sound : Limits → Memory → Type 0
Sound l m = (f : Firm) × Standing (for_all_calls l) m f
