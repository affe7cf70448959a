-- Rows in the words of a slice, and what each operation does to them: the laws that a user of rows needs.
use Rattle.std.specs.Prelude.{◌≡◌, ℕ, zero, suc, ◌+◌, ◌<◌, ◌≤◌, ◌≢◌, List, [], ◌∷◌, ◌++◌, length, replicate, Some, None, Option, slice_index, slice_set}
use Rattle.std.specs.List.{range_with_len}
use Rattle.links.specs.Area.{place_at, tail_at, header_of, tables, Sound, Lies, tail_in, following_in, nth_in, inserted, removed, emptied, filled}
use Rattle.links.specs.Walk.{cells_in}
use Rattle.links.specs.Model.{Holds, Spare, row, first, last, total, uses}
use Rattle.links.specs.declared.shape.Shape.{Shape}

-- the words n hold the rows m: the cells of each row in order, no cell twice
pub record Rows (h : Shape) (n : List ℕ) (m : List (List ℕ)) : Type 0 where
  pub lies : Lies h n
  pub many : length m ≡ h.rows
  pub held : Holds (tables h n) m

-- c is a cell, and in no row
pub record Loose (h : Shape) (n : List ℕ) (m : List (List ℕ)) (c : ℕ) : Type 0 where
  pub cell : c < h.cells
  pub spare : Spare (tables h n) m c

-- the element at k, if the list has so many
abbrev pub nth : {X : Type 0} → List X → ℕ → Option X
nth [] k = None
nth (x ∷ xs) zero = Some x
nth (x ∷ xs) (suc k) = nth xs k

-- the address i is none of the shape's words
pub record Beyond (h : Shape) (i : ℕ) : Type 0 where
  pub places : (p : ℕ) → p < h.cells + h.rows → i ≢ place_at h p
  pub tails : (r : ℕ) → r < h.rows → i ≢ tail_at h r

-- k rows with no cell
abbrev pub blank : ℕ → List (List ℕ)
blank k = replicate k []

-- Insertion: a loose cell comes after any first part bs of a row, and all else stays.
abbrev pub Inserts : Type 0
Inserts =
    (h : Shape) (n : List ℕ) (m : List (List ℕ)) (r : ℕ) (bs cs : List ℕ) (x : ℕ) → Sound h → Rows h n m → r < h.rows → row m r ≡ bs ++ cs → Loose h n m x →
    Rows h (inserted h r (last (header_of h r) bs) x n) (slice_set m r (bs ++ x ∷ cs))

-- Removal: the cell after any first part bs of a row goes, is loose then, and all else stays.
abbrev pub Removes : Type 0
Removes =
    (h : Shape) (n : List ℕ) (m : List (List ℕ)) (r : ℕ) (bs cs : List ℕ) (x : ℕ) → Sound h → Rows h n m → r < h.rows → row m r ≡ bs ++ x ∷ cs →
    Rows h (removed h r (last (header_of h r) bs) x n) (slice_set m r (bs ++ cs)) × Loose h (removed h r (last (header_of h r) bs) x n) (slice_set m r (bs ++ cs)) x

-- The walk from the front meets a row's cells in order, and ends where the row does.
abbrev pub Walks : Type 0
Walks = (h : Shape) (n : List ℕ) (m : List (List ℕ)) (r k : ℕ) → Sound h → Rows h n m → r < h.rows → nth_in h n r k ≡ nth (row m r) k

-- The iterator of a row meets its cells in order, all of them.
abbrev pub Meets : Type 0
Meets = (h : Shape) (n : List ℕ) (m : List (List ℕ)) (r : ℕ) → Sound h → Rows h n m → r < h.rows → cells_in h n r ≡ row m r

-- After a cell of a row comes the next one of that row, if any.
abbrev pub Follows : Type 0
Follows =
    (h : Shape) (n : List ℕ) (m : List (List ℕ)) (r c : ℕ) (bs cs : List ℕ) → Sound h → Rows h n m → r < h.rows → row m r ≡ bs ++ c ∷ cs → following_in h n c ≡ first cs

-- The tail is the last place.
abbrev pub Tails : Type 0
Tails = (h : Shape) (n : List ℕ) (m : List (List ℕ)) (r : ℕ) → Sound h → Rows h n m → r < h.rows → tail_in h n r ≡ last (header_of h r) (row m r)

-- Emptied rows are empty, and after it one row holds all cells where it is filled.
abbrev pub Empties : Type 0
Empties = (h : Shape) (n : List ℕ) → Sound h → Lies h n → Rows h (emptied h.rows h 0 n) (blank h.rows)

abbrev pub Fills : Type 0
Fills =
    (h : Shape) (n : List ℕ) (r : ℕ) → Sound h → Lies h n → r < h.rows →
    Rows h (filled h r (emptied h.rows h 0 n)) (slice_set (blank h.rows) r (range_with_len 0 h.cells))

-- Where every cell is in a row, the row f has a first cell while the others hold fewer than all.
abbrev pub Frees : Type 0
Frees =
    (h : Shape) (n : List ℕ) (m : List (List ℕ)) (f : ℕ) → Sound h → Rows h n m → f < h.rows → total m ≡ h.cells → total (slice_set m f []) < h.cells →
    following_in h n (header_of h f) ≢ None

-- Words that are none of the shape's stay, and so does the number of words.
pub record Frame (h : Shape) (n n' : List ℕ) : Type 0 where
  pub long : length n' ≡ length n
  pub beyond : (i : ℕ) → Beyond h i → slice_index n' i ≡ slice_index n i

abbrev pub Frames : Type 0
Frames =
    (h : Shape) (n : List ℕ) (r b x : ℕ) → Sound h → r < h.rows → b < h.cells + h.rows → x < h.cells →
    Frame h n (inserted h r b x n) × Frame h n (removed h r b x n) × Frame h n (emptied h.rows h 0 n) × Frame h n (filled h r n)

-- Words of the shape that are as they were hold the rows that they held.
abbrev pub Stays : Type 0
Stays =
    (h : Shape) (n n' : List ℕ) (m : List (List ℕ)) → length n' ≡ length n → ((p : ℕ) → p < h.cells + h.rows → slice_index n' (place_at h p) ≡ slice_index n (place_at h p)) →
    ((r : ℕ) → r < h.rows → slice_index n' (tail_at h r) ≡ slice_index n (tail_at h r)) → Rows h n m → Rows h n' m

-- A cell is in at most one row, and at most once there.
abbrev pub Once : Type 0
Once = (h : Shape) (n : List ℕ) (m : List (List ℕ)) (c : ℕ) → Rows h n m → uses c m ≤ 1

pub record RowsLaws : Type 0 where
  pub inserts : Inserts
  pub removes : Removes
  pub walks : Walks
  pub meets : Meets
  pub follows : Follows
  pub tails : Tails
  pub empties : Empties
  pub fills : Fills
  pub frees : Frees
  pub frames : Frames
  pub stays : Stays
  pub once : Once
