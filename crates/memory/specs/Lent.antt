-- The words of lent memory, and what a function leaves as it was.
use Rattle.std.specs.Prelude.{◌≡◌}
use Rattle.memory.specs.declared.lent.Memory.{Memory}
use Rattle.memory.specs.declared.lent.View.{View}
use Rattle.records.specs.State.{State, state}

-- the words that are read, and those that are written
abbrev pub seen : View → State
seen v = state v.wide.now v.narrow.now

abbrev pub words : Memory → State
words m = state m.wide.now m.narrow.now

-- the same two slices are held, and the same limits
abbrev pub Same : Memory → Memory → Type 0
Same a b = (b.wide.ghost_name ≡ a.wide.ghost_name) × (b.narrow.ghost_name ≡ a.narrow.ghost_name) × (b.limits ≡ a.limits)

-- that, and of the words those of one slice at most have changed
abbrev pub NarrowAlone : Memory → Memory → Type 0
NarrowAlone a b = Same a b × (b.wide.now ≡ a.wide.now)

abbrev pub WideAlone : Memory → Memory → Type 0
WideAlone a b = Same a b × (b.narrow.now ≡ a.narrow.now)
