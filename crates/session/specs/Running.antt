-- A whole list of calls as bytes: each call behind its length in a field of eight bytes, and each answer likewise. Definitions only: nothing is assumed.
use Rattle.std.specs.Prelude.{◌≡◌, ℕ, zero, suc, ◌^◌, true, List, [], ◌∷◌, ◌++◌, map, length, take, drop, Some, None, Option, nat_lt}
use Rattle.std.specs.List.{flat_map, list_all}
use Rattle.fields.specs.Bytes.{field_bytes, field_at}
use Rattle.firm.specs.Firm.{Firm, new_firm}
use Rattle.firm.specs.Calls as calls
use Rattle.firm.specs.Answers.{answers}
use Rattle.layout.specs.declared.limits.Limits.{Limits}
use Rattle.records.specs.State.{State}
use Rattle.wire.specs.Answers.{bytes_of_answer}
use Rattle.wire.specs.Calls.{call_of}
use Rattle.session.specs.Calling.{Called, called}
use Rattle.firm.specs.Promise.{whole}
use Rattle.session.specs.declared.error.RunError.{RunError}
use Rattle.session.specs.declared.error.RunError.TheVariants.{LimitsOutOfRange, OutOfMemory}

-- the first row, as many bytes behind its length as there are, and what comes after it
abbrev pub first_row : List ℕ → List ℕ
first_row bs = take (field_at 0 bs) (drop 8 bs)

abbrev pub rest_rows : List ℕ → List ℕ
rest_rows bs = drop (field_at 0 bs) (drop 8 bs)

-- the rows of bytes, at most k: until no byte is left
abbrev pub rows_on : ℕ → List ℕ → List (List ℕ)
rows_on zero bs = []
rows_on (suc k) [] = []
rows_on (suc k) (b ∷ bs) = first_row (b ∷ bs) ∷ rows_on k (rest_rows (b ∷ bs))

-- all of them: each takes a byte at the least
unfoldable pub rows_of : List ℕ → List (List ℕ)
rows_of bs = rows_on (length bs) bs

-- a row behind its length
abbrev pub framed : List ℕ → List ℕ
framed row = field_bytes (length row) ++ row

-- rows that were framed come back, each of fewer bytes than a length can say
abbrev pub RowsComeBack : Type 0
RowsComeBack = (rows : List (List ℕ)) → list_all (λ row. nat_lt (length row) (2 ^ 64)) rows ≡ true → rows_of (flat_map framed rows) ≡ rows

-- limits of memory as those of the meaning, for this stage
abbrev pub books_limits : Limits → calls.Limits
books_limits l = record { calls_can = whole; items = l.items; orders = l.orders; lots = l.lots; parts = l.parts; entries = l.entries }

-- what is answered to some rows, from a firm on
unfoldable pub answered_rows : Limits → Firm → List (List ℕ) → List ℕ
answered_rows l f rows = flat_map framed (map bytes_of_answer (answers (books_limits l) f (map call_of rows)))

-- THE WHOLE RUN: what the meaning answers to the calls that the bytes are, from new books
abbrev pub ran : Limits → List ℕ → List ℕ
ran l bs = answered_rows l new_firm (rows_of bs)

-- ONE ROW on any memory: what is left there, in the bytes for its answer, and behind what was written before
pub record RowDone : Type 0 where
  pub left : State
  pub bytes : List ℕ
  pub written : List ℕ

abbrev pub row_done : State → List ℕ → List ℕ → RowDone
row_done s bs out = record { left = s; bytes = bs; written = out }

-- an answer is written as a row; memory that does not suffice writes none
abbrev pub answer_row : Option ℕ → List ℕ → List ℕ
answer_row (Some n) bs = framed (take n bs)
answer_row None bs = []

abbrev pub row_from : List ℕ → Called → RowDone
row_from out k = row_done k.left k.bytes (out ++ answer_row k.came k.bytes)

abbrev pub row_answered : List ℕ → State → List ℕ → List ℕ → RowDone
row_answered row s old out = row_from out (called (call_of row) s old)

-- why there is no answer: limits out of range, or else the want of memory
abbrev pub failure : Option Limits → RunError
failure (Some l) = OutOfMemory
failure None = LimitsOutOfRange

-- what a run answers where it does
pub record RanOf (l : Option Limits) (calls out : List ℕ) : Type 0 where
  pub limits : Limits
  pub read : l ≡ Some limits
  pub answers : out ≡ ran limits calls
