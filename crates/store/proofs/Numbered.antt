-- A cell at the end of a row, and one more in rows that hold the cells below it.
use Rattle.std.proofs.Common.{◌≡◌, ℕ, zero, suc, ◌+◌, ◌<◌, eqb, ◌≢◌, List, [], ◌∷◌, ◌++◌, length, get_or, set, sym, refl, ap, ◌∙◌, ap₂, ⊎_elim, append_assoc, append-nil, arith, length-append, get_or-set_other, get_or-set_same}
use Rattle.std.proofs.lemmas.Bool.{cases_eq, cond-true, cond-false, eq-eqb, ne_eqb}
use Rattle.layout.proofs.Placed.{rows_kept}
use Rattle.layout.specs.Areas.{Placed}
use Rattle.layout.specs.Words.{Owner, Only}
use Rattle.layout.specs.declared.limits.Limits.{Limits}
use Rattle.links.proofs.Addresses.{header_is}
use Rattle.links.proofs.Counts.{count_here, count_append, count_other, uses_set, total_set}
use Rattle.links.proofs.Frames.{inserted_frame}
use Rattle.links.proofs.Laws.{cell_is, put_last, tails}
use Rattle.links.proofs.View.{end_is}
use Rattle.links.specs.Area.{Sound, header_of, tail_in}
use Rattle.links.specs.Model.{row, count, last}
use Rattle.links.specs.Rows.{Rows, Frame}
use Rattle.links.specs.declared.shape.Shape.{Shape}
use Rattle.store.specs.Steps.{pushed}
use Rattle.store.specs.View.{Numbered, pieces, only_if}

-- the last place of a row is a place
pub tail_place : (h : Shape) (n : List ℕ) (m : List (List ℕ)) (r : ℕ) → Sound h → Rows h n m → r < h.rows → tail_in h n r < h.cells + h.rows
tail_place h n m r sound rows lt =
    omega (arith, tails h n m r sound rows lt, go (row m r) (header_of h r) (omega (arith, header_is h r sound lt)) (λ c u. cell_is h n m r sound rows lt c u))
  where
    go : (xs : List ℕ) (p : ℕ) → p < h.cells + h.rows → ((c : ℕ) → 0 < count c xs → c < h.cells) → last p xs < h.cells + h.rows
    go [] p small each = small
    go (x ∷ xs) p small each = go xs x (omega (arith, each x (omega (arith, count_here x xs)))) (λ c u. each c (omega arith))

pub push_frame : (h : Shape) (n : List ℕ) (m : List (List ℕ)) (r c : ℕ) → Sound h → Rows h n m → r < h.rows → c < h.cells → Frame h n (pushed h r c n)
unfolding pushed
push_frame h n m r c sound rows lt lc = inserted_frame h n r (tail_in h n r) c lt (tail_place h n m r sound rows lt) lc

-- each row, once c has come to the end of row r
pub row_pushed : (m : List (List ℕ)) (r c a : ℕ) → r < length m → row (set m r (row m r ++ c ∷ [])) a ≡ row m a ++ only_if (eqb r a) c
row_pushed m r c a lt =
    ⊎_elim
    (λ (e : r ≡ a).
    ap (row (set m r (row m r ++ c ∷ []))) (sym e) ∙ get_or-set_same m r (row m r ++ c ∷ []) [] lt
    ∙ ap₂ (λ (i : ℕ) (l : List ℕ). row m i ++ l) e (sym (cond-true (eqb r a) (c ∷ []) [] (eq-eqb r a e))))
    (λ (ne : r ≡ a → ⊥).
    get_or-set_other m r a (row m r ++ c ∷ []) [] (λ e. ne (sym e)) ∙ sym (append-nil (row m a)) ∙ ap (λ (l : List ℕ). row m a ++ l) (sym (cond-false (eqb r a) (c ∷ []) [] (ne_eqb r a ne))))
    (cases_eq r a)

-- the pieces of one element more
pub pieces_push : {X Y : Type 0} (f : ℕ → X → List Y) (k : ℕ) (xs : List X) (x : X) → pieces f k (xs ++ x ∷ []) ≡ pieces f k xs ++ f (k + length xs) x
pieces_push f k [] x = append-nil (f k x) ∙ ap (λ (j : ℕ). f j x) (omega arith)
pieces_push f k (y ∷ ys) x =
    ap (λ l. f k y ++ l) (pieces_push f (k + 1) ys x) ∙ sym (append_assoc (f k y) (pieces f (k + 1) ys) (f (k + 1 + length ys) x))
    ∙ ap (λ (j : ℕ). (f k y ++ pieces f (k + 1) ys) ++ f j x) (omega arith)

-- an element that is changed, and of which the same is made
pub pieces_set : {X Y : Type 0} (f : ℕ → X → List Y) (k : ℕ) (xs : List X) (j : ℕ) (x d : X) → j < length xs → f (k + j) x ≡ f (k + j) (get_or xs j d) → pieces f k (set xs j x) ≡ pieces f k xs
pieces_set f k [] j x d lt same = refl
pieces_set f k (y ∷ ys) zero x d lt same = ap (λ l. l ++ pieces f (k + 1) ys) (ap (λ (i : ℕ). f i x) (omega arith) ∙ same ∙ ap (λ (i : ℕ). f i y) (omega arith))
pieces_set f k (y ∷ ys) (suc j) x d lt same =
    let e : k + 1 + j ≡ k + suc j = omega arith in
    ap (λ l. f k y ++ l) (pieces_set f (k + 1) ys j x d (omega arith) (ap (λ (i : ℕ). f i x) e ∙ same ∙ ap (λ (i : ℕ). f i (get_or ys j d)) (sym e)))

-- such rows stay while another subject's words change
pub numbered_kept : (x y : Owner) (l : Limits) (h : Shape) (n n' : List ℕ) (m : List (List ℕ)) (k : ℕ) → Placed x l h → x ≢ y → Only y l n n' → Numbered h n m k → Numbered h n' m k
numbered_kept x y l h n n' m k placed ne only was = record { held = rows_kept x y l h n n' m placed ne only was.held; all = was.all; fresh = was.fresh }

pub push_next : (h : Shape) (n : List ℕ) (m : List (List ℕ)) (r k : ℕ) → Sound h → r < h.rows → k < h.cells → Numbered h n m k → Numbered h (pushed h r k n) (set m r (row m r ++ k ∷ [])) (k + 1)
unfolding pushed
push_next h n m r k sound lr lk was = record {
  held = put_last h n m r k sound was.held lr
      (record { cell = lk; spare = record { cell = omega (arith, end_is h n); unused = was.fresh k (omega arith); space = omega (arith, was.all, end_is h n) } });
  all = omega (arith, total_set m r (row m r ++ k ∷ []) here, length-append (row m r) (k ∷ []), was.all);
  fresh = λ c ge. omega (arith, uses_set c m r (row m r ++ k ∷ []) here, count_append c (row m r) (k ∷ []), count_other c k [] (λ e. omega arith), was.fresh c (omega arith));
}
  where
    here : r < length m
    here = omega (arith, was.held.many)
