-- THE FORMAT OF ANSWERS: the bytes of each answer, and which answer a row of bytes is. Its kind is in one byte, everything after it in eight,
-- counts too: 0, refusal and place; 1 and a number; 2 and two numbers; 3, a count and lots; 4, a count and entries. Definitions only: nothing is assumed.
use Rattle.std.specs.Prelude.{ℕ, ◌+◌, ◌*◌, Bool, true, cond, ◌&&◌, List, [], ◌∷◌, ◌++◌, length, drop, Some, None, Option, ◌==◌, nat_le, slice_index, slice_index_or}
use Rattle.std.specs.List.{flat_map}
use Rattle.fields.specs.Bytes.{field_at, all_fields}
use Rattle.firm.specs.Stock.{Lot}
use Rattle.firm.specs.Ledger.{Entry}
use Rattle.firm.specs.Calls as firm
use Rattle.wire.specs.Rows.{rows, lot_in, lot_bytes, entry_in, entry_bytes}

-- a list begins with its kind and its count
abbrev pub list_head : ℕ → ℕ → List ℕ
list_head kind n = kind ∷ all_fields (n ∷ [])

-- the bytes of an answer
abbrev pub bytes_of_answer : firm.Answer → List ℕ
bytes_of_answer (firm.refused n p) = 0 ∷ all_fields (n ∷ (p ∷ []))
bytes_of_answer (firm.number n) = 1 ∷ all_fields (n ∷ [])
bytes_of_answer (firm.two a b) = 2 ∷ all_fields (a ∷ (b ∷ []))
bytes_of_answer (firm.lots ls) = list_head 3 (length ls) ++ flat_map lot_bytes ls
bytes_of_answer (firm.entries es) = list_head 4 (length es) ++ flat_map entry_bytes es

-- refusals are numbered from 1 on
abbrev pub last_refusal : ℕ
last_refusal = 9

-- a number that a refusal has
abbrev pub is_refusal : ℕ → Bool
is_refusal n = nat_le 1 n && nat_le n last_refusal

-- what passes a test for each of a list
unfoldable pub each : {A : Type 0} → (A → Bool) → List A → Bool
each ok [] = true
each ok (x ∷ xs) = ok x && each ok xs

-- numbers of a lot, or of an entry, that fields can carry
abbrev pub lot_fits : Lot → Bool
lot_fits l = firm.field l.item && (firm.field l.pieces && (firm.field l.cost && firm.field l.from))

abbrev pub entry_fits : Entry → Bool
entry_fits e = firm.field e.on_left && (firm.field e.on_right && (firm.field e.amount && firm.field e.document))

-- an answer that can be written: a refusal that there is, and numbers and counts that fields can carry
abbrev pub carries : firm.Answer → Bool
carries (firm.refused n p) = is_refusal n && firm.field p
carries (firm.number n) = firm.field n
carries (firm.two a b) = firm.field a && firm.field b
carries (firm.lots ls) = firm.field (length ls) && each lot_fits ls
carries (firm.entries es) = firm.field (length es) && each entry_fits es

-- the forms that answers have: so many fields, the first of them a refusal or not, or a count and lines of 32 bytes
pub data Kind : Type 0 where
  one : (ℕ → firm.Answer) → Kind
  two : (ℕ → ℕ → firm.Answer) → Kind
  refusal : (ℕ → ℕ → firm.Answer) → Kind
  lines : (ℕ → List ℕ → firm.Answer) → Kind
  none : Kind

-- the answers by their kinds
abbrev pub kinds : List Kind
kinds =
    refusal firm.refused
    ∷ one firm.number
    ∷ two firm.two
    ∷ lines (λ n bs. firm.lots (rows lot_in 32 n bs))
    ∷ lines (λ n bs. firm.entries (rows entry_in 32 n bs))
    ∷ []

-- what is read of a row that must have n bytes
abbrev pub if_sized : ℕ → List ℕ → firm.Answer → Option firm.Answer
if_sized n bs a = cond (length bs == n) (Some a) None

-- the answer of a form that a row is
abbrev pub answer_by : Kind → List ℕ → Option firm.Answer
answer_by (one f) bs = if_sized 9 bs (f (field_at 1 bs))
answer_by (two f) bs = if_sized 17 bs (f (field_at 1 bs) (field_at 9 bs))
answer_by (refusal f) bs = cond (is_refusal (field_at 1 bs)) (if_sized 17 bs (f (field_at 1 bs) (field_at 9 bs))) None
answer_by (lines f) bs = if_sized (9 + 32 * field_at 1 bs) bs (f (field_at 1 bs) (drop 9 bs))
answer_by none bs = None

-- the answer of this kind that a row is
abbrev pub answer_as : ℕ → List ℕ → Option firm.Answer
answer_as k bs = answer_by (slice_index_or kinds k none) bs

-- WHICH ANSWER A ROW OF BYTES IS, if it is one: its kind is its first byte
unfoldable pub answer_of : List ℕ → Option firm.Answer
answer_of bs = answer_as (slice_index bs 0) bs
