-- Entries from a number on, and the answer that they make. Definitions only: nothing is assumed.
use Rattle.std.specs.Prelude.{ℕ, ◌-◌, min, cond, List, map, length, None, nat_le}
use Rattle.std.specs.List.{range_with_len}
use Rattle.fields.specs.Written.{Written, wrote, written}
use Rattle.firm.specs.Ledger as firm
use Rattle.firm.specs.Calls.{entries}
use Rattle.layout.specs.Layout.{answer_need}
use Rattle.layout.specs.declared.head.Counter.TheVariants.{Entries}
use Rattle.layout.specs.declared.limits.Limits.{Limits}
use Rattle.memory.specs.Books.{count_of, entry_record}
use Rattle.records.specs.State.{State}
use Rattle.records.specs.declared.entry.Entry.{Entry}
use Rattle.wire.specs.Answers.{bytes_of_answer}

-- an entry of memory as one of the books
abbrev pub entry_of : Entry → firm.Entry
entry_of x = record { on_left = x.left; on_right = x.right; amount = x.amount; document = x.«document» }

-- those of m numbers, from n on
abbrev pub entries_on : Limits → ℕ → ℕ → State → List firm.Entry
entries_on l n m s = map (λ e. entry_of (entry_record l e s)) (range_with_len n m)

-- of those that there are from n on, the first k
unfoldable pub entries_met : Limits → ℕ → ℕ → State → List firm.Entry
entries_met l n k s = entries_on l n (min k (count_of Entries s.narrow - n)) s

-- they are written as an answer, unless the bytes are fewer than the limits ask for
abbrev pub entries_written : Limits → ℕ → ℕ → State → List ℕ → Written
entries_written l n k s old = cond (nat_le (answer_need l) (length old)) (written (bytes_of_answer (entries (entries_met l n k s))) old) (wrote None old)
