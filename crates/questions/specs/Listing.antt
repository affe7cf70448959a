-- The lots of an item, met along its row, and the answer that they make. Definitions only: nothing is assumed.
use Rattle.std.specs.Prelude.{ℕ, cond, List, [], ◌∷◌, ◌++◌, length, None, nat_le}
use Rattle.fields.specs.Written.{Written, wrote, written}
use Rattle.firm.specs.Stock as firm
use Rattle.firm.specs.Calls.{lots}
use Rattle.layout.specs.Layout.{lot_rows, answer_need}
use Rattle.layout.specs.declared.limits.Limits.{Limits}
use Rattle.memory.specs.Books.{lot_record}
use Rattle.records.specs.State.{State}
use Rattle.records.specs.declared.lot.Lot.{Lot}
use Rattle.wire.specs.Answers.{bytes_of_answer}
use Rattle.questions.specs.Walk.{walked}

-- a lot of memory as one of the books
abbrev pub lot_of : Lot → firm.Lot
lot_of x = record { item = x.item; pieces = x.pieces; cost = x.cost; from = x.«document» }

-- one lot more
abbrev pub lots_step : Limits → State → List firm.Lot → ℕ → List firm.Lot
lots_step l s xs c = xs ++ (lot_of (lot_record l c s) ∷ [])

unfoldable pub lots_met : Limits → ℕ → State → List firm.Lot
lots_met l i s = walked (lots_step l s) (lot_rows l) s.narrow i []

-- they are written as an answer, unless the bytes are fewer than the limits ask for
abbrev pub lots_written : Limits → ℕ → State → List ℕ → Written
lots_written l i s old = cond (nat_le (answer_need l) (length old)) (written (bytes_of_answer (lots (lots_met l i s))) old) (wrote None old)
