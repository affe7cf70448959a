-- What the tables stand for: each row as the list of its cells.
use Rattle.std.specs.Prelude.{◌≡◌, ℕ, ◌+◌, ◌<◌, ◌≤◌, cond, List, [], ◌∷◌, ◌++◌, length, Some, None, sum_by, Option, ◌==◌, slice_index, slice_index_or, slice_set}
use Rattle.links.specs.Tables.{Tables, end, tail}

-- after the place p come the cells xs, each below n, and then e
abbrev pub Path : ℕ → List ℕ → ℕ → List ℕ → ℕ → Type 0
Path n next p [] e = slice_index next p ≡ e
Path n next p (x ∷ xs) e = (slice_index next p ≡ x) × (x < n) × Path n next x xs e

-- the last of p ∷ xs
abbrev pub last : ℕ → List ℕ → ℕ
last p [] = p
last p (x ∷ xs) = last x xs

-- how often c stands in a list, and in all rows together
abbrev pub count : ℕ → List ℕ → ℕ
count c [] = 0
count c (x ∷ xs) = cond (c == x) 1 0 + count c xs

unfoldable pub uses : ℕ → List (List ℕ) → ℕ
uses c m = sum_by (count c) m

-- how many cells stand in all rows together
unfoldable pub total : List (List ℕ) → ℕ
total m = sum_by length m

abbrev pub row : List (List ℕ) → ℕ → List ℕ
row m r = slice_index_or m r []

abbrev pub first : List ℕ → Option ℕ
first [] = None
first (x ∷ xs) = Some x

-- row r of the tables, of n cells, holds xs
pub record Row (n : ℕ) (t : Tables) (r : ℕ) (xs : List ℕ) : Type 0 where
  pub path : Path n t.next (n + r) xs n
  pub ends : last (n + r) xs ≡ tail t r

-- the tables hold the rows m, and no cell stands twice
pub record Holds (t : Tables) (m : List (List ℕ)) : Type 0 where
  pub tails_long : length t.tails ≡ length m
  pub next_long : length m ≤ length t.next
  pub linked : (r : ℕ) → r < length m → Row (end t) t r (row m r)
  pub once : (c : ℕ) → uses c m ≤ 1
  pub room : total m ≤ end t

-- x is a cell that stands in no row, so there is room for it
pub record Spare (t : Tables) (m : List (List ℕ)) (x : ℕ) : Type 0 where
  pub cell : x < end t
  pub unused : uses x m ≡ 0
  pub space : total m < end t

-- what taking out of row r the cell after bs gave, where cs stood after bs
abbrev pub Removed : Tables → List (List ℕ) → ℕ → List ℕ → List ℕ → Option ℕ → Type 0
Removed t m r bs cs None = (cs ≡ []) × Holds t m
Removed t m r bs cs (Some x) = (xs : List ℕ) × (cs ≡ x ∷ xs) × Holds t (slice_set m r (bs ++ xs)) × Spare t (slice_set m r (bs ++ xs)) x
