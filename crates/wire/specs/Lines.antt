-- That the rows of specs/Rows are those of `wire`'s `Row` and `Line`. Assumes nothing.
use Rattle.std.specs.Prelude.{◌≡◌, ℕ, zero, suc, ◌/◌, List, length, drop, refl}
use Rattle.std.proofs.Common.{sym, ap}
use Rattle.fields.specs.Bytes.{fields_from, all_fields}
use Rattle.wire.specs.Rows.{rows, part_in, part_bytes, lot_in, lot_bytes, entry_in, entry_bytes}
use Rattle.wire.specs.Said.{parts_in}
use Rattle.wire.specs.Told.{lots_in, entries_in}

pub parts_by_row : (bytes : List ℕ) → parts_in bytes ≡ rows part_in 16 (length bytes / 16) bytes
unfolding parts_in
parts_by_row bytes = refl

pub lots_by_row : (bytes : List ℕ) → lots_in bytes ≡ rows lot_in 32 (length bytes / 32) bytes
unfolding lots_in
lots_by_row bytes = refl

pub entries_by_row : (bytes : List ℕ) → entries_in bytes ≡ rows entry_in 32 (length bytes / 32) bytes
unfolding entries_in
entries_by_row bytes = refl

-- so many rows are so many
pub length_rows : {A : Type 0} (read : List ℕ → A) (w n : ℕ) (bytes : List ℕ) → length (rows read w n bytes) ≡ n
unfolding rows
length_rows read w zero bytes = refl
length_rows read w (suc n) bytes = ap suc (length_rows read w n (drop w bytes))

pub parts_counted : (bytes : List ℕ) → length bytes / 16 ≡ length (parts_in bytes)
unfolding parts_in
parts_counted bytes = sym (length_rows part_in 16 (length bytes / 16) bytes)

pub lots_counted : (bytes : List ℕ) → length bytes / 32 ≡ length (lots_in bytes)
unfolding lots_in
lots_counted bytes = sym (length_rows lot_in 32 (length bytes / 32) bytes)

pub entries_counted : (bytes : List ℕ) → length bytes / 32 ≡ length (entries_in bytes)
unfolding entries_in
entries_counted bytes = sym (length_rows entry_in 32 (length bytes / 32) bytes)

pub part_by_fields : (bytes : List ℕ) → part_bytes (part_in bytes) ≡ all_fields (fields_from 2 0 bytes)
unfolding part_in part_bytes
part_by_fields bytes = refl

pub lot_by_fields : (bytes : List ℕ) → lot_bytes (lot_in bytes) ≡ all_fields (fields_from 4 0 bytes)
unfolding lot_in lot_bytes
lot_by_fields bytes = refl

pub entry_by_fields : (bytes : List ℕ) → entry_bytes (entry_in bytes) ≡ all_fields (fields_from 4 0 bytes)
unfolding entry_in entry_bytes
entry_by_fields bytes = refl
