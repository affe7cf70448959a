-- The totals in the head: what is added to one of them, or taken from it. On any memory a total stops at the largest word, and at 0. Definitions only: nothing is assumed.
use Rattle.std.specs.Prelude.{ℕ, ◌+◌, ◌-◌, ◌^◌, min, List}
use Rattle.layout.specs.declared.head.Total.{Total}
use Rattle.layout.specs.declared.head.Total.TheVariants.{Documents, Booked}
use Rattle.memory.specs.Books.{total_of, put_total}
use Rattle.records.specs.State.{State, state}

unfoldable pub raised : Total → ℕ → List ℕ → List ℕ
raised t x w = put_total t (min (2 ^ 64 - 1) (total_of t w + x)) w

unfoldable pub lowered : Total → ℕ → List ℕ → List ℕ
lowered t x w = put_total t (total_of t w - x) w

-- there is a document more
abbrev pub document_more : State → State
document_more s = state (raised Documents 1 s.wide) s.narrow

-- all entries come to x more, and there is a document more
abbrev pub booked : ℕ → State → State
booked x s = document_more (state (raised Booked x s.wide) s.narrow)
