-- What a writer answers, and what it leaves in the bytes that it was lent. Definitions only: nothing is assumed.
use Rattle.std.specs.Prelude.{ℕ, ◌+◌, ◌*◌, cond, List, [], ◌∷◌, ◌++◌, length, take, drop, Some, None, Option, nat_le}

-- how many bytes were written, if any, and the lent bytes afterwards
pub record Written : Type 0 where
  pub count : Option ℕ
  pub left : List ℕ

abbrev pub wrote : Option ℕ → List ℕ → Written
wrote n bs = record { count = n; left = bs }

-- a row over the first of the bytes that were there; those behind it stay
unfoldable pub over : List ℕ → List ℕ → List ℕ
over row old = row ++ drop (length row) old

-- a row is written whole, or, where it does not fit, not at all
unfoldable pub written : List ℕ → List ℕ → Written
written row old = cond (nat_le (length row) (length old)) (wrote (Some (length row)) (over row old)) (wrote None old)

-- what writing a row answers and leaves; a row of no bytes is not written
abbrev pub row_written : List ℕ → List ℕ → Written
row_written [] old = wrote None old
row_written (b ∷ bs) old = written (b ∷ bs) old

-- a row over the bytes from a place on; those before it and behind it stay
unfoldable pub placed : ℕ → List ℕ → List ℕ → List ℕ
placed at row old = take at old ++ (row ++ drop (at + length row) old)

-- the k-th line of 32 bytes behind a head of nine: it is written whole, and where it ends is answered, or, where it does not fit, not at all
unfoldable pub line_put : ℕ → List ℕ → List ℕ → Written
line_put k row old = cond (nat_le (9 + 32 * k + 32) (length old)) (wrote (Some (9 + 32 * k + 32)) (placed (9 + 32 * k) row old)) (wrote None old)
