-- What each operation does to the two tables. Nothing here asks that the tables are sound.
use Rattle.std.specs.Prelude.{ℕ, ◌+◌, ◌-◌, cond, List, length, Some, None, Option, ◌==◌, nat_lt, slice_index, slice_set}

-- Cells are 0 .. n - 1, and the header of row r is the place n + r. next[p] is the cell after the place p, or
-- n at the end of a row, and tails[r] is the last place of row r: its header, where the row is empty.
pub record Tables : Type 0 where
  pub tails : List ℕ
  pub next : List ℕ

-- the number of cells, which is the end mark
abbrev pub end : Tables → ℕ
end t = length t.next - length t.tails

abbrev pub header : Tables → ℕ → ℕ
header t r = end t + r

abbrev pub tail : Tables → ℕ → ℕ
tail t r = slice_index t.tails r

abbrev pub after : Tables → ℕ → ℕ
after t p = slice_index t.next p

-- the cell after the place p
abbrev pub following : Tables → ℕ → Option ℕ
following t p = cond (nat_lt (after t p) (end t)) (Some (after t p)) None

-- x comes right after the place b of row r
abbrev pub insert_after : ℕ → ℕ → ℕ → Tables → Tables
insert_after r b x t =
    record {
      tails = cond (tail t r == b) (slice_set t.tails r x) t.tails;
      next = slice_set (slice_set t.next x (after t b)) b x;
    }

-- the cell after the place b of row r goes
abbrev pub remove_after : ℕ → ℕ → Tables → Tables
remove_after r b t =
    cond (nat_lt (after t b) (end t)) (record {
      tails = cond (tail t r == after t b) (slice_set t.tails r b) t.tails;
      next = slice_set t.next b (after t (after t b));
    }) t
