-- To insert and to remove a cell keeps `Holds`, and does to the rows what it says.
use Rattle.std.proofs.Common.{◌≡◌, ℕ, ◌+◌, ◌<◌, ◌≤◌, Bool, cond, eqb, ltb, ◌≢◌, ◌⊎◌, List, [], ◌∷◌, ◌++◌, length, get_or, set, Some, None, sym, refl, ap, ◌∙◌, subst, inl, inr, ⊎_elim, arith, length-append, length-set, get_or-set_other, get_or-set_same}
use Rattle.std.proofs.lemmas.Bool.{cond_both, cases_eq, cases_lt, lt-ltb, le-ltb, eq-eqb, ne_eqb}
use Rattle.links.specs.Tables.{Tables, end, header, tail, after, following, insert_after, remove_after}
use Rattle.links.specs.Model.{Path, last, count, uses, total, row, Row, Holds, Spare, Removed}
use Rattle.links.proofs.Counts.{count_here, count_other, count_append, count_last, count_most, count_cases, apart, uses_set, total_set, uses_row, two_rows}
use Rattle.links.proofs.Paths.{last_join, path_below, path_at, path_move, path_insert, path_remove}

-- the places of row r: its header and its cells
abbrev pub line : Tables → List (List ℕ) → ℕ → List ℕ
line t m r = header t r ∷ row m r

module _ (t : Tables) (m : List (List ℕ)) (h : Holds t m) where
  pub cell_below : (r c : ℕ) → r < length m → 0 < count c (row m r) → c < end t
  cell_below r c lt u = path_below (end t) t.next (header t r) (row m r) (end t) c (h.linked r lt).path u

  pub line_once : (r c : ℕ) → r < length m → count c (line t m r) ≤ 1
  line_once r c lt =
      ⊎_elim
      (λ (e : c ≡ header t r). ⊎_elim (λ (u : 0 < count c (row m r)). absurd (omega (arith, cell_below r c lt u))) (λ (z : count c (row m r) ≤ 0). omega (arith, count_most c (header t r))) (cases_lt 0 (count c (row m r))))
      (λ (ne : c ≡ header t r → ⊥). omega (arith, count_other c (header t r) (row m r) ne, uses_row c m r lt, h.once c))
      (cases_eq c (header t r))

  pub lines_apart : (r k b c : ℕ) → r < length m → k < length m → k ≢ r → 0 < count b (line t m r) → 0 < count c (line t m k) → c ≢ b
  lines_apart r k b c lr lk ne ub uc e =
      ⊎_elim
      (λ (hb : b ≡ header t r).
      ⊎_elim (λ (hc : c ≡ header t k). ne (omega arith)) (λ (vc : 0 < count c (row m k)). omega (arith, cell_below k c lk vc)) (count_cases c (header t k) (row m k) uc))
      (λ (vb : 0 < count b (row m r)).
      ⊎_elim
      (λ (hc : c ≡ header t k). omega (arith, cell_below r b lr vb))
      (λ (vc : 0 < count c (row m k)). omega (arith, two_rows c m r k lr lk ne, h.once c, ap (λ i. count i (row m r)) e))
      (count_cases c (header t k) (row m k) uc))
      (count_cases b (header t r) (row m r) ub)

-- t' differs from t in row r alone: its tail, and what follows a place that is in no other row
pub record Beside (t t' : Tables) (m : List (List ℕ)) (r : ℕ) : Type 0 where
  pub tails_long : length t'.tails ≡ length t.tails
  pub next_long : length t'.next ≡ length t.next
  pub tails : (k : ℕ) → k ≢ r → tail t' k ≡ tail t k
  pub next : (k c : ℕ) → k < length m → k ≢ r → 0 < count c (line t m k) → after t' c ≡ after t c

-- so it is enough to see to row r
pub change : (t t' : Tables) (m : List (List ℕ)) (r : ℕ) (xs : List ℕ) → Holds t m → r < length m → Beside t t' m r → Row (end t) t' r xs → ((c : ℕ) → uses c m + count c xs ≤ 1 + count c (row m r)) → total m + length xs ≤ end t + length (row m r) → Holds t' (set m r xs)
change t t' m r xs h lt near new once room =
    record {
      tails_long = simp length-set (near.tails_long ∙ h.tails_long);
      next_long = simp length-set (omega (arith, near.next_long, h.next_long));
      linked = λ k long. subst (λ n. Row n t' k (row (set m r xs) k)) (sym same_end) (at k (simp length-set at long) (cases_eq k r));
      once = λ c. omega (arith, uses_set c m r xs lt, once c);
      room = omega (arith, total_set m r xs lt, same_end);
    }
  where
    same_end : end t' ≡ end t
    same_end = omega (arith, near.tails_long, near.next_long)

    other : (k : ℕ) → k < length m → k ≢ r → Row (end t) t' k (row m k)
    other k long ne =
        let old = h.linked k long in
        record {
          path = path_move (end t) t.next t'.next (header t k) (header t k) (row m k) (end t) (near.next k (header t k) long ne (omega (arith, count_here (header t k) (row m k)))) (λ c u. near.next k c long ne (omega arith)) old.path;
          ends = old.ends ∙ sym (near.tails k ne);
        }

    at : (k : ℕ) → k < length m → (k ≡ r) ⊎ (k ≡ r → ⊥) → Row (end t) t' k (row (set m r xs) k)
    at k long (inl e) = subst (λ i. Row (end t) t' i (row (set m r xs) i)) (sym e) (subst (Row (end t) t' r) (sym (get_or-set_same m r xs [] lt)) new)
    at k long (inr ne) = subst (Row (end t) t' k) (sym (get_or-set_other m r k xs [] ne)) (other k long ne)

-- where the last place p of a row gives way to q, its tail does
tail_moves : (tails : List ℕ) (r p q : ℕ) (cs : List ℕ) → r < length tails → last p cs ≡ get_or tails r 0 → count p cs ≡ 0 → last q cs ≡ get_or (cond (eqb (get_or tails r 0) p) (set tails r q) tails) r 0
tail_moves tails r p q [] lt e none =
    subst (λ b. q ≡ get_or (cond b (set tails r q) tails) r 0) (sym (eq-eqb _ _ (sym e))) (sym (get_or-set_same tails r q 0 lt))
tail_moves tails r p q (c ∷ cs) lt e none =
    subst (λ b. last c cs ≡ get_or (cond b (set tails r q) tails) r 0) (sym (ne_eqb _ _ (λ eq. apart p (last c cs) (c ∷ cs) none (count_last c cs) (sym (e ∙ eq))))) e

-- the prefix bs of row r, and cs after it; b is its last place
module _ (t : Tables) (m : List (List ℕ)) (r : ℕ) (bs cs : List ℕ) (h : Holds t m) (lt : r < length m) (e : row m r ≡ bs ++ cs) where
  abbrev place : ℕ
  place = last (header t r) bs

  places : (c : ℕ) → count c (line t m r) ≡ count c (header t r ∷ bs ++ cs)
  places c = ap (λ l. count c (header t r ∷ l)) e

  once : (c : ℕ) → count c (header t r ∷ bs ++ cs) ≤ 1
  once c = omega (arith, places c, line_once t m h r c lt)

  split : (c : ℕ) → count c (header t r ∷ bs ++ cs) ≡ count c (header t r ∷ bs) + count c cs
  split c = count_append c (header t r ∷ bs) cs

  here : 0 < count place (line t m r)
  here = omega (arith, places place, split place, count_last (header t r) bs)

  none : count place cs ≡ 0
  none = omega (arith, once place, split place, count_last (header t r) bs)

  old : Row (end t) t r (bs ++ cs)
  old = subst (Row (end t) t r) e (h.linked r lt)

  row_long : r < length t.tails
  row_long = omega (arith, h.tails_long)

  -- a place is an index of `next`
  below : (c : ℕ) → 0 < count c (line t m r) → c < length t.next
  below c u =
      ⊎_elim (λ (is : c ≡ header t r). omega (arith, h.next_long, h.tails_long)) (λ (v : 0 < count c (row m r)). omega (arith, cell_below t m h r c lt v)) (count_cases c (header t r) (row m r) u)

  pub insert_keeps : (x : ℕ) → Spare t m x → Holds (insert_after r place x t) (set m r (bs ++ x ∷ cs))
  insert_keeps x sp =
      change t t' m r (bs ++ x ∷ cs) h lt (record {
        tails_long = cond_both (eqb (tail t r) place) _ _ (λ l. length l ≡ length t.tails) (λ q. length-set t.tails r x) (λ q. refl);
        next_long = length-set _ place x ∙ length-set t.next x _;
        tails = λ k ne. cond_both (eqb (tail t r) place) _ _ (λ l. get_or l k 0 ≡ tail t k) (λ q. get_or-set_other t.tails r k x 0 ne) (λ q. refl);
        next = λ k c lk ne u. same c (lines_apart t m h r k place c lt lk ne here u) (other k c lk u);
      }) (record {
        path = path_insert (end t) t.next t'.next (header t r) bs cs (end t) x once (λ c u ne. same c ne (other r c lt (omega (arith, places c)))) sp.cell (get_or-set_same _ place x 0 (simp length-set (below place here))) (get_or-set_other _ place x x 0 (λ eq. other r place lt here (sym eq)) ∙ get_or-set_same t.next x _ 0 in_next) old.path;
        ends = last_join (header t r) bs (x ∷ cs) ∙ tail_moves t.tails r place x cs row_long (sym (last_join (header t r) bs cs) ∙ old.ends) none;
      }) counted (omega (arith, sp.space, length-append bs (x ∷ cs), length-append bs cs, ap length e))
    where
      t' : Tables
      t' = insert_after r place x t

      in_next : x < length t.next
      in_next = omega (arith, sp.cell)

      -- x is in no row
      other : (k c : ℕ) → k < length m → 0 < count c (line t m k) → c ≢ x
      other k c lk u eq =
          ⊎_elim (λ (is : c ≡ header t k). omega (arith, sp.cell)) (λ (v : 0 < count c (row m k)). omega (arith, uses_row c m k lk, sp.unused, ap (λ i. uses i m) eq)) (count_cases c (header t k) (row m k) u)

      same : (c : ℕ) → c ≢ place → c ≢ x → after t' c ≡ after t c
      same c ne ne' = get_or-set_other _ place c x 0 ne ∙ get_or-set_other t.next x c _ 0 ne'

      counted : (c : ℕ) → uses c m + count c (bs ++ x ∷ cs) ≤ 1 + count c (row m r)
      counted c =
          ⊎_elim
          (λ (eq : c ≡ x). omega (arith, sp.unused, ap (λ i. uses i m) eq, count_append c bs (x ∷ cs), count_append c bs cs, ap (count c) e, count_most c x))
          (λ (ne : c ≡ x → ⊥). omega (arith, h.once c, count_append c bs (x ∷ cs), count_append c bs cs, ap (count c) e, count_other c x cs ne))
          (cases_eq c x)

pub remove_keeps : (t : Tables) (m : List (List ℕ)) (r : ℕ) (bs cs : List ℕ) → Holds t m → r < length m → row m r ≡ bs ++ cs → Removed (remove_after r (last (header t r) bs) t) m r bs cs (following t (last (header t r) bs))
remove_keeps t m r bs cs h lt e =
    go cs e (path_at (end t) t.next (header t r) bs cs (end t) (old t m r bs cs h lt e).path)
  where
    b : ℕ
    b = last (header t r) bs

    y : ℕ
    y = after t b

    out : Tables
    out = record { tails = cond (eqb (tail t r) y) (set t.tails r b) t.tails; next = set t.next b (after t y) }

    Goal : List ℕ → Bool → Type 0
    Goal cs q = Removed (cond q out t) m r bs cs (cond q (Some y) None)

    same : (c : ℕ) → c ≢ b → after out c ≡ after t c
    same c ne = get_or-set_other t.next b c _ 0 ne

    go : (cs : List ℕ) → row m r ≡ bs ++ cs → Path (end t) t.next b cs (end t) → Goal cs (ltb y (end t))
    go [] e l = subst (Goal []) (sym (le-ltb _ _ (omega (arith, l)))) (refl, h)
    go (x ∷ xs) e l =
        let inside : y < end t = omega (arith, l.0, l.1) in
        let rest : x ∷ xs ≡ y ∷ xs = ap (λ i. i ∷ xs) (sym l.0) in
        let e' : row m r ≡ bs ++ y ∷ xs = e ∙ ap (λ l. bs ++ l) rest in
        let was = old t m r bs (y ∷ xs) h lt e' in
        let twice = once t m r bs (y ∷ xs) h lt e' in
        let at_b = here t m r bs (y ∷ xs) h lt e' in
        let gone : count y xs ≡ 0 = omega (arith, twice y, split t m r bs (y ∷ xs) h lt e' y, count_here y xs) in
        let fewer : (c : ℕ) → count c (row m r) ≡ count c (bs ++ xs) + count c (y ∷ []) = λ c. omega (arith, ap (count c) e', count_append c bs (y ∷ xs), count_append c bs xs) in
        let shorter : length (row m r) ≡ length (bs ++ xs) + 1 = omega (arith, ap length e', length-append bs (y ∷ xs), length-append bs xs) in
        let tails_long : length out.tails ≡ length t.tails = cond_both (eqb (tail t r) y) _ _ (λ l. length l ≡ length t.tails) (λ q. length-set t.tails r b) (λ q. refl) in
        let same_end : end out ≡ end t = omega (arith, tails_long, length-set t.next b (after t y)) in
        subst (Goal (x ∷ xs)) (sym (lt-ltb _ _ inside)) (
          xs,
          rest,
          change t out m r (bs ++ xs) h lt (record {
            tails_long = tails_long;
            next_long = length-set t.next b _;
            tails = λ k ne. cond_both (eqb (tail t r) y) _ _ (λ l. get_or l k 0 ≡ tail t k) (λ q. get_or-set_other t.tails r k b 0 ne) (λ q. refl);
            next = λ k c lk ne u. same c (lines_apart t m h r k b c lt lk ne at_b u);
          }) (record {
            path = path_remove (end t) t.next out.next (header t r) bs xs (end t) y twice (λ c u ne. same c ne) (get_or-set_same t.next b _ 0 (below t m r bs (y ∷ xs) h lt e' b at_b)) was.path;
            ends = last_join (header t r) bs xs ∙ tail_moves t.tails r y b xs (omega (arith, h.tails_long)) (sym (last_join (header t r) bs (y ∷ xs)) ∙ was.ends) gone;
          }) (λ c. omega (arith, h.once c, fewer c)) (omega (arith, h.room, shorter)),
          record {
            cell = omega (arith, inside, same_end);
            unused = omega (arith, uses_set y m r (bs ++ xs) lt, h.once y, fewer y, count_here y []);
            space = omega (arith, total_set m r (bs ++ xs) lt, h.room, shorter, same_end);
          },
        )
