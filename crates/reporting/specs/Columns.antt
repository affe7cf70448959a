-- Tables as text: fields right-aligned in columns, one row under the other. Definitions only: nothing is assumed.
use Rattle.std.specs.Prelude.{ℕ, zero, suc, ◌-◌, List, [], ◌++◌, length, replicate, codes, decimal}
use Rattle.std.specs.List.{flat_map}
use Rattle.reporting.specs.declared.columns.Cell.{Cell}

-- a field behind a space, with more in front to a width
unfoldable pub aligned : ℕ → List ℕ → List ℕ
aligned width field = codes " " ++ (replicate (width - length field) 32 ++ field)

-- a number in a column
abbrev pub cell : ℕ → ℕ → List ℕ
cell width n = aligned width (decimal n)

abbrev pub cell_of : Cell → List ℕ
cell_of c = cell c.0 c.1

-- numbers beside each other
abbrev pub cells : List Cell → List ℕ
cells cs = flat_map cell_of cs

-- the rows 0 to n - 1, one under the other
abbrev pub rows_to : (ℕ → List ℕ) → ℕ → List ℕ
rows_to row zero = []
rows_to row (suc n) = rows_to row n ++ row n
