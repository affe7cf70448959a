-- The words of rows in a lent slice, and what each operation leaves there. Nothing here asks that the rows are sound.
use Rattle.std.specs.Prelude.{ℕ, zero, suc, ◌+◌, ◌-◌, ◌*◌, ◌^◌, ◌<◌, ◌≤◌, min, cond, List, map, length, Some, None, Option, ◌==◌, nat_lt, slice_index, slice_set}
use Rattle.std.specs.List.{range_with_len}
use Rattle.links.specs.Tables.{Tables}
use Rattle.links.specs.declared.shape.Shape.{Shape}

-- the header of row r; where it would not fit a word, the largest word
abbrev pub header_of : Shape → ℕ → ℕ
header_of h r = min (2 ^ 32 - 1) (h.cells + r)

-- where the link of a place lies
unfoldable pub place_at : Shape → ℕ → ℕ
place_at h p = cond (nat_lt p h.cells) (h.cells_at + h.cell_step * p) (h.heads_at + h.head_step * (p - h.cells))

-- where the last place of row r lies
unfoldable pub tail_at : Shape → ℕ → ℕ
tail_at h r = h.heads_at + h.head_step * r + 1

-- the words at f 0 to f (k - 1)
abbrev pub gather : (ℕ → ℕ) → ℕ → List ℕ → List ℕ
gather f k n = map (λ p. slice_index n (f p)) (range_with_len 0 k)

-- the two tables that the words make up
abbrev pub tables : Shape → List ℕ → Tables
tables h n = record { tails = gather (tail_at h) h.rows n; next = gather (place_at h) (h.cells + h.rows) n }

-- no two words of the shape lie at one place: the rows' words first, and then the cells'
pub record Sound (h : Shape) : Type 0 where
  pub cells_apart : 0 < h.cell_step
  pub heads_apart : 2 ≤ h.head_step
  pub heads_first : h.heads_at + h.head_step * h.rows ≤ h.cells_at
  pub places_few : h.cells + h.rows < 2 ^ 32

-- every word of the shape lies in the slice
pub record Lies (h : Shape) (n : List ℕ) : Type 0 where
  pub heads : h.heads_at + h.head_step * h.rows ≤ length n
  pub cells : h.cells_at + h.cell_step * h.cells < length n + h.cell_step

abbrev pub after_in : Shape → List ℕ → ℕ → ℕ
after_in h n p = slice_index n (place_at h p)

abbrev pub tail_in : Shape → List ℕ → ℕ → ℕ
tail_in h n r = slice_index n (tail_at h r)

abbrev pub following_in : Shape → List ℕ → ℕ → Option ℕ
following_in h n p = cond (nat_lt (after_in h n p) h.cells) (Some (after_in h n p)) None

-- k cells on from a cell, if any
abbrev pub on_in : ℕ → Shape → List ℕ → Option ℕ → Option ℕ
on_in zero h n o = o
on_in (suc k) h n None = None
on_in (suc k) h n (Some c) = on_in k h n (following_in h n c)

abbrev pub nth_in : Shape → List ℕ → ℕ → ℕ → Option ℕ
nth_in h n r k = on_in k h n (following_in h n (header_of h r))

-- the cell x comes right after the place b of row r
unfoldable pub inserted : Shape → ℕ → ℕ → ℕ → List ℕ → List ℕ
inserted h r b x n =
    cond (tail_in h n r == b) (slice_set (slice_set (slice_set n (place_at h x) (after_in h n b)) (place_at h b) x) (tail_at h r) x)
    (slice_set (slice_set n (place_at h x) (after_in h n b)) (place_at h b) x)

-- the cell x after the place b of row r goes
unfoldable pub removed : Shape → ℕ → ℕ → ℕ → List ℕ → List ℕ
removed h r b x n =
    cond (tail_in h n r == x) (slice_set (slice_set n (place_at h b) (after_in h n x)) (tail_at h r) b) (slice_set n (place_at h b) (after_in h n x))

-- from the cell c on, k cells in a chain
abbrev pub chained : ℕ → Shape → ℕ → List ℕ → List ℕ
chained zero h c n = n
chained (suc k) h c n = chained k h (c + 1) (slice_set n (place_at h c) (c + 1))

-- from the row r on, k empty rows
abbrev pub emptied : ℕ → Shape → ℕ → List ℕ → List ℕ
emptied zero h r n = n
emptied (suc k) h r n = emptied k h (r + 1) (slice_set (slice_set n (place_at h (header_of h r)) h.cells) (tail_at h r) (header_of h r))

-- all cells in row r
unfoldable pub filled : Shape → ℕ → List ℕ → List ℕ
filled h r n = cond (h.cells == 0) n (slice_set (slice_set (chained h.cells h 0 n) (place_at h (header_of h r)) 0) (tail_at h r) (h.cells - 1))
