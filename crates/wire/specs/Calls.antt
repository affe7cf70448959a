-- THE FORMAT OF CALLS: the bytes of each call, and which call a row of bytes is. A call's first byte is its number, its fields have eight bytes
-- each, low byte first; a recipe has its item, its count of parts in one byte, and two fields for each part. Definitions only: nothing is assumed.
use Rattle.std.specs.Prelude.{◌≡◌, ℕ, ◌+◌, ◌*◌, ◌<◌, true, List, [], ◌∷◌, ◌++◌, length, drop, Ok, Err, Result, slice_index, slice_index_or}
use Rattle.std.specs.List.{flat_map}
use Rattle.fields.specs.Bytes.{field_bytes, field_at, all_fields, sized}
use Rattle.firm.specs.Stock.{Part}
use Rattle.firm.specs.Calls.{Call, buys, sells, comes, goes, billed_by, bills, pays_out, pays_in, made_of, makes, counted, stock_of, account, order, lots_of, entries_from, garbled, call_number, readable}
use Rattle.wire.specs.Rows.{rows, part_in, part_bytes}

-- the bytes of a call; what is no call has none
abbrev pub bytes_of_call : Call → List ℕ
bytes_of_call (buys i q p) = 0 ∷ all_fields (i ∷ (q ∷ (p ∷ [])))
bytes_of_call (sells i q p) = 1 ∷ all_fields (i ∷ (q ∷ (p ∷ [])))
bytes_of_call (comes o q) = 2 ∷ all_fields (o ∷ (q ∷ []))
bytes_of_call (goes o q) = 3 ∷ all_fields (o ∷ (q ∷ []))
bytes_of_call (billed_by o q x) = 4 ∷ all_fields (o ∷ (q ∷ (x ∷ [])))
bytes_of_call (bills o q) = 5 ∷ all_fields (o ∷ (q ∷ []))
bytes_of_call (pays_out x) = 6 ∷ all_fields (x ∷ [])
bytes_of_call (pays_in x) = 7 ∷ all_fields (x ∷ [])
bytes_of_call (made_of i ps) = 8 ∷ (field_bytes i ++ (length ps ∷ flat_map part_bytes ps))
bytes_of_call (makes i q) = 9 ∷ all_fields (i ∷ (q ∷ []))
bytes_of_call (counted i q) = 10 ∷ all_fields (i ∷ (q ∷ []))
bytes_of_call (stock_of i) = 11 ∷ all_fields (i ∷ [])
bytes_of_call (account a) = 12 ∷ all_fields (a ∷ [])
bytes_of_call (order o) = 13 ∷ all_fields (o ∷ [])
bytes_of_call (lots_of i) = 14 ∷ all_fields (i ∷ [])
bytes_of_call (entries_from n k) = 15 ∷ all_fields (n ∷ (k ∷ []))
bytes_of_call (garbled n) = []

-- the forms that calls have: so many fields, or a field and a recipe's parts
pub data Form : Type 0 where
  one : (ℕ → Call) → Form
  two : (ℕ → ℕ → Call) → Form
  three : (ℕ → ℕ → ℕ → Call) → Form
  recipe : (ℕ → List Part → Call) → Form
  none : Form

-- the calls by their numbers
abbrev pub forms : List Form
forms =
    three buys
    ∷ three sells
    ∷ two comes
    ∷ two goes
    ∷ three billed_by
    ∷ two bills
    ∷ one pays_out
    ∷ one pays_in
    ∷ recipe made_of
    ∷ two makes
    ∷ two counted
    ∷ one stock_of
    ∷ one account
    ∷ one order
    ∷ one lots_of
    ∷ two entries_from
    ∷ []

-- how many bytes a row of this form has. A recipe that ends before its count has none
abbrev pub size : Form → List ℕ → ℕ
size (one f) bs = 9
size (two f) bs = 17
size (three f) bs = 25
size (recipe f) bs = 10 + 16 * slice_index bs 9
size none bs = 0

-- the call in a row of that size
abbrev pub built : Form → List ℕ → Call
built (one f) bs = f (field_at 1 bs)
built (two f) bs = f (field_at 1 bs) (field_at 9 bs)
built (three f) bs = f (field_at 1 bs) (field_at 9 bs) (field_at 17 bs)
built (recipe f) bs = f (field_at 1 bs) (rows part_in 16 (slice_index bs 9) (drop 10 bs))
built none bs = garbled 0

-- what is read, with a place as bytes that are no call
abbrev pub or_garbled : Result Call ℕ → Call
or_garbled (Ok c) = c
or_garbled (Err n) = garbled n

-- the call with this number that a row is, or where it ceases to be one
abbrev pub call_as : ℕ → List ℕ → Call
call_as k bs =
    let f : Form = slice_index_or forms k none in
    or_garbled (sized (size f bs) bs (built f bs))

-- WHICH CALL A ROW OF BYTES IS, or where it ceases to be one: its number is its first byte. A row of no bytes lacks them all, whatever its number
unfoldable pub call_of : List ℕ → Call
call_of bs = call_as (slice_index bs 0) bs

-- a call that can be written: none but those of the table, with numbers that fields can carry
abbrev pub Sendable : Call → Type 0
Sendable c = (call_number c < length forms) × (readable c ≡ true)
