-- Numbers as bytes, the low byte first, and the fields of a row of bytes. Definitions only: nothing is assumed.
use Rattle.std.specs.Prelude.{ℕ, zero, suc, ◌+◌, ◌*◌, ◌/◌, ◌%◌, ◌<◌, min, cond, List, [], ◌∷◌, length, take, drop, Some, None, Ok, Err, Option, Result, ◌==◌, nat_lt, slice_index}
use Rattle.std.specs.List.{flat_map}

-- each element of the row is a byte
abbrev pub Bytes : List ℕ → Type 0
Bytes bs = (i : ℕ) → slice_index bs i < 256

-- the number that bytes write
unfoldable pub value : List ℕ → ℕ
value [] = 0
value (b ∷ bs) = b + 256 * value bs

-- the k low bytes of a number
unfoldable pub digits : ℕ → ℕ → List ℕ
digits zero n = []
digits (suc k) n = n % 256 ∷ digits k (n / 256)

-- a field has eight bytes: those of a number, and the number in those from a place on
unfoldable pub field_bytes : ℕ → List ℕ
field_bytes n = digits 8 n

unfoldable pub field_at : ℕ → List ℕ → ℕ
field_at k bs = value (take 8 (drop k bs))

-- fields one after the other
abbrev pub all_fields : List ℕ → List ℕ
all_fields ns = flat_map field_bytes ns

-- n fields from a place on
abbrev pub fields_from : ℕ → ℕ → List ℕ → List ℕ
fields_from zero k bs = []
fields_from (suc n) k bs = field_at k bs ∷ fields_from n (k + 8) bs

-- the fields of each of the first m rows of n fields
abbrev pub rows_of : ℕ → ℕ → List ℕ → List (List ℕ)
rows_of n zero bs = []
rows_of n (suc m) bs = fields_from n 0 bs ∷ rows_of n m (drop (8 * n) bs)

-- what is read of a row that must have n bytes; else the place where it ceases to fit: its end if bytes are missing, n if there are too many
abbrev pub sized : {A : Type 0} → ℕ → List ℕ → A → Result A ℕ
sized n bs a = cond (length bs == n) (Ok a) (Err (min (length bs) n))

-- the fields of the k-th of the whole rows of n bytes that there are
abbrev pub nth_row : {A : Type 0} → ℕ → ℕ → List ℕ → A → Option A
nth_row n k bs a = cond (nat_lt k (length bs / n)) (Some a) None
