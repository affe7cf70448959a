-- Rows of fields in bytes: a recipe's parts, lots and entries. Definitions only: nothing is assumed.
use Rattle.std.specs.Prelude.{ℕ, zero, suc, List, [], ◌∷◌, drop, Some, None, Option}
use Rattle.fields.specs.Bytes.{field_at, all_fields}
use Rattle.firm.specs.Stock.{Lot, Part}
use Rattle.firm.specs.Ledger.{Entry}

-- n rows of w bytes, each read in the same way
unfoldable pub rows : {A : Type 0} → (List ℕ → A) → ℕ → ℕ → List ℕ → List A
rows read w zero bs = []
rows read w (suc n) bs = read bs ∷ rows read w n (drop w bs)

-- the k-th of a list, if it has so many
unfoldable pub nth : {A : Type 0} → List A → ℕ → Option A
nth [] k = None
nth (x ∷ xs) zero = Some x
nth (x ∷ xs) (suc k) = nth xs k

-- a part: item and how many of it, in 16 bytes
unfoldable pub part_in : List ℕ → Part
part_in bs = record { item = field_at 0 bs; each = field_at 8 bs }

unfoldable pub part_bytes : Part → List ℕ
part_bytes p = all_fields (p.item ∷ (p.each ∷ []))

-- a lot: item, pieces, cost and document, in 32 bytes
unfoldable pub lot_in : List ℕ → Lot
lot_in bs = record { item = field_at 0 bs; pieces = field_at 8 bs; cost = field_at 16 bs; from = field_at 24 bs }

unfoldable pub lot_bytes : Lot → List ℕ
lot_bytes l = all_fields (l.item ∷ (l.pieces ∷ (l.cost ∷ (l.from ∷ []))))

-- an entry: left account, right account, amount and document, in 32 bytes
unfoldable pub entry_in : List ℕ → Entry
entry_in bs = record { on_left = field_at 0 bs; on_right = field_at 8 bs; amount = field_at 16 bs; document = field_at 24 bs }

unfoldable pub entry_bytes : Entry → List ℕ
entry_bytes e = all_fields (e.on_left ∷ (e.on_right ∷ (e.amount ∷ (e.document ∷ []))))
