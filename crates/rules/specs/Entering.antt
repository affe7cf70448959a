-- An amount that is entered, on any memory. Definitions only: nothing is assumed.
use Rattle.std.specs.Prelude.{cond, ◌==◌}
use Rattle.layout.specs.declared.limits.Limits.{Limits}
use Rattle.records.specs.State.{State, state}
use Rattle.records.specs.declared.entry.Entry.{Entry}
use Rattle.store.specs.Steps.{add_entry, post}

-- the entry is kept, and posted on both its accounts
abbrev pub kept_posted : Limits → Entry → State → State
kept_posted l x s =
    let t : State = (add_entry l x s).left in
    state (post x t.wide) t.narrow

-- nothing is entered for an amount of 0
unfoldable pub entered : Limits → Entry → State → State
entered l x s = cond (x.amount == 0) s (kept_posted l x s)
