-- The laws of rows in the words of a slice: insertion and removal anywhere, the walk, the tail, the free row.
use Rattle.std.proofs.Common.{◌≡◌, ℕ, zero, suc, ◌+◌, ◌<◌, ◌≤◌, ◌≢◌, List, [], ◌∷◌, ◌++◌, length, get_or, set, Some, None, sym, refl, ap, ◌∙◌, subst, ⊎_elim, append-nil, arith, length-set}
use Rattle.links.specs.Tables.{Tables, end, header, following, insert_after, remove_after}
use Rattle.links.specs.Model.{Path, Holds, Spare, Removed, row, count, last, first, total}
use Rattle.links.specs.Area.{header_of, tables, Sound, tail_in, following_in, on_in, nth_in, inserted, removed}
use Rattle.links.specs.Walk.{cells_on, cells_in}
use Rattle.links.specs.Rows.{Rows, Loose, nth, Inserts, Removes, Walks, Meets, Follows, Tails, Frees, Stays, Once, RowsLaws}
use Rattle.links.specs.declared.shape.Shape.{Shape}
use Rattle.links.proofs.Addresses.{header_is}
use Rattle.links.proofs.Counts.{count_last, count_cases, count_append, total_set}
use Rattle.links.proofs.Frames.{frames}
use Rattle.links.proofs.Keeps.{cell_below, insert_keeps, remove_keeps}
use Rattle.links.proofs.Opened.{empties, fills}
use Rattle.links.proofs.Paths.{path_at}
use Rattle.links.proofs.View.{end_is, after_is, tail_is, following_is, inserted_is, removed_is, length_inserted, length_removed, path_first, tables_same, lies_kept}

module _ (h : Shape) (n : List ℕ) (m : List (List ℕ)) (r : ℕ) (sound : Sound h) (rows : Rows h n m) (lt : r < h.rows) where
  abbrev t : Tables
  t = tables h n

  here : r < length m
  here = omega (arith, rows.many)

  -- the header of the words is that of the tables
  at : header_of h r ≡ header t r
  at = omega (arith, header_is h r sound lt, end_is h n)

  path : Path (end t) t.next (header t r) (row m r) (end t)
  path = (rows.held.linked r here).path

  -- a cell of a row is a cell
  pub cell_is : (c : ℕ) → 0 < count c (row m r) → c < h.cells
  cell_is c u = omega (arith, cell_below t m rows.held r c here u, end_is h n)

  -- a place of a row is a place
  place_below : (bs cs : List ℕ) → row m r ≡ bs ++ cs → last (header t r) bs < h.cells + h.rows
  place_below bs cs e =
      ⊎_elim (λ (q : last (header t r) bs ≡ header t r). omega (arith, end_is h n))
      (λ (u : 0 < count (last (header t r) bs) bs). omega (arith, cell_is (last (header t r) bs) (omega (arith, ap (count (last (header t r) bs)) e, count_append (last (header t r) bs) bs cs))))
      (count_cases (last (header t r) bs) (header t r) bs (count_last (header t r) bs))

  place_same : (bs : List ℕ) → last (header_of h r) bs ≡ last (header t r) bs
  place_same bs = ap (λ (p : ℕ). last p bs) at

  insert : (bs cs : List ℕ) (x : ℕ) → row m r ≡ bs ++ cs → Loose h n m x → Rows h (inserted h r (last (header_of h r) bs) x n) (set m r (bs ++ x ∷ cs))
  insert bs cs x e loose = record {
    lies = lies_kept h n _ (length_inserted h r (last (header_of h r) bs) x n) rows.lies;
    many = length-set m r (bs ++ x ∷ cs) ∙ rows.many;
    held = subst (λ (u : Tables). Holds u (set m r (bs ++ x ∷ cs)))
        (sym (inserted_is h r (last (header_of h r) bs) x n sound rows.lies lt (omega (arith, place_same bs, place_below bs cs e)) loose.cell ∙ ap (λ (p : ℕ). insert_after r p x t) (place_same bs)))
        (insert_keeps t m r bs cs rows.held here e x loose.spare);
  }

  remove : (bs cs : List ℕ) (x : ℕ) → row m r ≡ bs ++ x ∷ cs →
      Rows h (removed h r (last (header_of h r) bs) x n) (set m r (bs ++ cs)) × Loose h (removed h r (last (header_of h r) bs) x n) (set m r (bs ++ cs)) x
  remove bs cs x e = finish (subst (Removed (remove_after r (last (header t r) bs) t) m r bs (x ∷ cs)) found (remove_keeps t m r bs (x ∷ cs) rows.held here e))
    where
      rest : Path (end t) t.next (last (header t r) bs) (x ∷ cs) (end t)
      rest = path_at (end t) t.next (header t r) bs (x ∷ cs) (end t) (subst (λ (l : List ℕ). Path (end t) t.next (header t r) l (end t)) e path)

      found : following t (last (header t r) bs) ≡ Some x
      found = path_first t (last (header t r) bs) (x ∷ cs) rest

      n' : List ℕ
      n' = removed h r (last (header_of h r) bs) x n

      inside : x < h.cells
      inside = omega (arith, rest.1, end_is h n)

      below : last (header_of h r) bs < h.cells + h.rows
      below = omega (arith, place_same bs, place_below bs (x ∷ cs) e)

      same : tables h n' ≡ remove_after r (last (header t r) bs) t
      same =
          removed_is h r (last (header_of h r) bs) x n sound rows.lies lt below inside (sym (after_is h n (last (header_of h r) bs) below) ∙ ap (λ (p : ℕ). get_or t.next p 0) (place_same bs) ∙ rest.0)
          ∙ ap (λ (p : ℕ). remove_after r p t) (place_same bs)

      finish : Removed (remove_after r (last (header t r) bs) t) m r bs (x ∷ cs) (Some x) → Rows h n' (set m r (bs ++ cs)) × Loose h n' (set m r (bs ++ cs)) x
      finish d =
          let tails : d.0 ≡ cs = cc d.1 in (
            record {
              lies = lies_kept h n n' (length_removed h r (last (header_of h r) bs) x n) rows.lies;
              many = length-set m r (bs ++ cs) ∙ rows.many;
              held = subst (λ (l : List ℕ). Holds (tables h n') (set m r (bs ++ l))) tails (subst (λ (u : Tables). Holds u (set m r (bs ++ d.0))) (sym same) d.2);
            },
            record {
              cell = inside;
              spare = subst (λ (l : List ℕ). Spare (tables h n') (set m r (bs ++ l)) x) tails (subst (λ (u : Tables). Spare u (set m r (bs ++ d.0)) x) (sym same) d.3);
            },
          )

  -- the first cell, if any
  pub first_is : following_in h n (header_of h r) ≡ first (row m r)
  first_is = sym (following_is h n (header_of h r) (omega (arith, header_is h r sound lt))) ∙ ap (following t) at ∙ path_first t (header t r) (row m r) path

  walk : (k : ℕ) → nth_in h n r k ≡ nth (row m r) k
  walk k = ap (on_in k h n) first_is ∙ go k (header t r) (row m r) path
    where
      go : (k p : ℕ) (xs : List ℕ) → Path (end t) t.next p xs (end t) → on_in k h n (first xs) ≡ nth xs k
      go zero p [] l = refl
      go zero p (x ∷ xs) l = refl
      go (suc k) p [] l = refl
      go (suc k) p (x ∷ xs) l = ap (on_in k h n) (sym (following_is h n x (omega (arith, l.1, end_is h n))) ∙ path_first t x xs l.2) ∙ go k x xs l.2

  cells : cells_in h n r ≡ row m r
  cells = ap (cells_on h.cells h n) first_is ∙ go h.cells (header t r) (row m r) path (omega (arith, total_set m r [] here, rows.held.room, end_is h n))
    where
      go : (k p : ℕ) (xs : List ℕ) → Path (end t) t.next p xs (end t) → length xs ≤ k → cells_on k h n (first xs) ≡ xs
      go zero p [] l le = refl
      go (suc k) p [] l le = refl
      go zero p (x ∷ xs) l le = absurd (omega arith)
      go (suc k) p (x ∷ xs) l le =
          ap (λ (ys : List ℕ). x ∷ ys) (ap (cells_on k h n) (sym (following_is h n x (omega (arith, l.1, end_is h n))) ∙ path_first t x xs l.2) ∙ go k x xs l.2 (omega arith))

  follow : (c : ℕ) (bs cs : List ℕ) → row m r ≡ bs ++ c ∷ cs → following_in h n c ≡ first cs
  follow c bs cs e =
      let rest = path_at (end t) t.next (header t r) bs (c ∷ cs) (end t) (subst (λ (l : List ℕ). Path (end t) t.next (header t r) l (end t)) e path) in
      sym (following_is h n c (omega (arith, rest.1, end_is h n))) ∙ path_first t c cs rest.2

  tail : tail_in h n r ≡ last (header_of h r) (row m r)
  tail = sym (tail_is h n r lt) ∙ sym (rows.held.linked r here).ends ∙ sym (place_same (row m r))

  free : total m ≡ h.cells → total (set m r []) < h.cells → following_in h n (header_of h r) ≢ None
  free all fewer is = go (row m r) refl (sym first_is ∙ is)
    where
      go : (xs : List ℕ) → row m r ≡ xs → first xs ≡ None → ⊥
      go [] e none = omega (arith, total_set m r [] here, ap length e)
      go (x ∷ xs) e none = let z : ◌≡◌ {A = ℕ} 0 1 = cc in omega arith

pub inserts : Inserts
inserts h n m r bs cs x sound rows lt e loose = insert h n m r sound rows lt bs cs x e loose

pub removes : Removes
removes h n m r bs cs x sound rows lt e = remove h n m r sound rows lt bs cs x e

pub walks : Walks
walks h n m r k sound rows lt = walk h n m r sound rows lt k

pub meets : Meets
meets h n m r sound rows lt = cells h n m r sound rows lt

pub follows : Follows
follows h n m r c bs cs sound rows lt e = follow h n m r sound rows lt c bs cs e

pub tails : Tails
tails h n m r sound rows lt = tail h n m r sound rows lt

pub frees : Frees
frees h n m f sound rows lt all fewer = free h n m f sound rows lt all fewer

pub stays : Stays
stays h n n' m long places tails rows =
    record { lies = lies_kept h n n' long rows.lies; many = rows.many; held = subst (λ (u : Tables). Holds u m) (sym (tables_same h n n' places tails)) rows.held }

pub once : Once
once h n m c rows = rows.held.once c

pub rows_laws : RowsLaws
rows_laws = record {
  inserts = inserts;
  removes = removes;
  walks = walks;
  meets = meets;
  follows = follows;
  tails = tails;
  empties = empties;
  fills = fills;
  frees = frees;
  frames = frames;
  stays = stays;
  once = once;
}

-- AT THE FRONT AND AT THE END
pub put_last : (h : Shape) (n : List ℕ) (m : List (List ℕ)) (r x : ℕ) → Sound h → Rows h n m → r < h.rows → Loose h n m x → Rows h (inserted h r (tail_in h n r) x n) (set m r (row m r ++ x ∷ []))
put_last h n m r x sound rows lt loose =
    subst (λ (p : ℕ). Rows h (inserted h r p x n) (set m r (row m r ++ x ∷ []))) (sym (tails h n m r sound rows lt)) (inserts h n m r (row m r) [] x sound rows lt (sym (append-nil (row m r))) loose)

-- a cell that is found is a cell, and stands at the front
pub found_first : (h : Shape) (n : List ℕ) (m : List (List ℕ)) (r c : ℕ) → Sound h → Rows h n m → r < h.rows → following_in h n (header_of h r) ≡ Some c → (xs : List ℕ) × (row m r ≡ c ∷ xs)
found_first h n m r c sound rows lt is = go (row m r) (sym (first_is h n m r sound rows lt) ∙ is)
  where
    go : (ys : List ℕ) → first ys ≡ Some c → (xs : List ℕ) × (ys ≡ c ∷ xs)
    go [] e = let z : ◌≡◌ {A = ℕ} 0 1 = cc in absurd (omega arith)
    go (y ∷ ys) e = (ys, cc)
