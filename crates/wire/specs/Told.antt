-- Which answer of the meaning an answer of the code is, and the refusals' numbers. Definitions only: nothing is assumed.
use Rattle.std.specs.Prelude.{ℕ, ◌/◌, ◌%◌, cond, List, [], length, Some, None, Option, ◌==◌}
use Rattle.firm.specs.Stock.{Lot}
use Rattle.firm.specs.Ledger.{Entry}
use Rattle.firm.specs.Calls as firm
use Rattle.wire.specs.declared.refusal.Refusal.{Refusal}
use Rattle.wire.specs.declared.refusal.Refusal.TheVariants.{Unreadable, BadField, NoRoom, NoSuchOrder, OtherKind, TooMany, NotOnHand, NoRecipe, OverLimits}
use Rattle.wire.specs.declared.answer_kind.AnswerKind.{AnswerKind}
use Rattle.wire.specs.declared.answer_kind.AnswerKind.TheVariants as kind
use Rattle.wire.specs.declared.lines.LotLine.{LotLine}
use Rattle.wire.specs.declared.lines.EntryLine.{EntryLine}
use Rattle.wire.specs.declared.answer.Answer.{Answer}
use Rattle.wire.specs.declared.answer.Answer.TheVariants.{Refused, Number, Two, Lots, Entries}
use Rattle.wire.specs.Rows.{rows, lot_in, entry_in}
use Rattle.wire.specs.Answers.{bytes_of_answer}

-- THE REFUSALS' NUMBERS
abbrev pub refusal_number : Refusal → ℕ
refusal_number Unreadable = 1
refusal_number BadField = 2
refusal_number NoRoom = 3
refusal_number NoSuchOrder = 4
refusal_number OtherKind = 5
refusal_number TooMany = 6
refusal_number NotOnHand = 7
refusal_number NoRecipe = 8
refusal_number OverLimits = 9

-- THE ANSWERS' KINDS
abbrev pub answer_number : AnswerKind → ℕ
answer_number kind.Refused = 0
answer_number kind.Number = 1
answer_number kind.Two = 2
answer_number kind.Lots = 3
answer_number kind.Entries = 4

-- which lot of the meaning, and which entry, a line is
abbrev pub lot_told : LotLine → Lot
lot_told l = record { item = l.item; pieces = l.pieces; cost = l.cost; from = l.document }

abbrev pub entry_told : EntryLine → Entry
entry_told e = record { on_left = e.left; on_right = e.right; amount = e.amount; document = e.document }

-- the whole lots and entries that bytes hold
unfoldable pub lots_in : List ℕ → List Lot
lots_in bs = rows lot_in 32 (length bs / 32) bs

unfoldable pub entries_in : List ℕ → List Entry
entries_in bs = rows entry_in 32 (length bs / 32) bs

-- what bytes that hold nothing but whole lines stand for; other bytes are no answer
abbrev pub if_lines : List ℕ → firm.Answer → Option firm.Answer
if_lines bs a = cond (length bs % 32 == 0) (Some a) None

-- WHICH ANSWER OF THE MEANING AN ANSWER OF THE CODE IS, if it is one
abbrev pub told : Answer → Option firm.Answer
told (Refused r p) = Some (firm.refused (refusal_number r) p)
told (Number n) = Some (firm.number n)
told (Two a b) = Some (firm.two a b)
told (Lots bs) = if_lines bs.now (firm.lots (lots_in bs.now))
told (Entries bs) = if_lines bs.now (firm.entries (entries_in bs.now))

-- what is read
abbrev pub answered : Option Answer → Option firm.Answer
answered None = None
answered (Some a) = told a

-- the bytes of an answer, none where it is none
abbrev pub answer_row : Option firm.Answer → List ℕ
answer_row None = []
answer_row (Some a) = bytes_of_answer a
