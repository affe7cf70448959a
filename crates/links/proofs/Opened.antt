-- What rows hold once they are emptied, and once one of them is filled with all cells.
use Rattle.std.proofs.Common.{◌≡◌, ℕ, zero, suc, ◌+◌, ◌-◌, ◌<◌, ◌≤◌, eqb, ◌⊎◌, List, [], ◌∷◌, length, get_or, set, sum_by, sym, refl, ap, ◌∙◌, subst, inl, inr, ⊎_elim, arith, length-set, get_or-set_other, get_or-set_same}
use lib.ListN.{length-replicate}
use Rattle.std.proofs.lemmas.List.FromFn.{length-range_with_len}
use Rattle.std.proofs.lemmas.List.{get_or-replicate}
use Rattle.std.proofs.lemmas.List.Sums.{sum_by-cons}
use Rattle.std.proofs.lemmas.Bool.{cond_both, cases_eq, eqb-true, eqb-false}
use Rattle.std.specs.List.{range_with_len}
use Rattle.links.specs.Model.{Path, last, count, uses, total, row, Row}
use Rattle.links.specs.Area.{place_at, tail_at, header_of, Sound, Lies, tables, after_in, tail_in, emptied, chained, filled}
use Rattle.links.specs.Rows.{Rows, blank, Empties, Fills}
use Rattle.links.specs.declared.shape.Shape.{Shape}
use Rattle.links.proofs.Addresses.{header_is, place_inside, tail_inside, places_apart, tails_apart, place_tail_apart}
use Rattle.links.proofs.Counts.{count_other, count_here, uses_set, total_set}
use Rattle.links.proofs.Gather.{length_gather}
use Rattle.links.proofs.Loops.{length_chained, length_emptied, chained_at, chained_other, emptied_at}
use Rattle.links.proofs.View.{end_is, after_is, tail_is, lies_kept}

-- nothing is counted in empty rows
sum_none : (f : List ℕ → ℕ) (k : ℕ) → f [] ≡ 0 → sum_by f (blank k) ≡ 0
sum_none f zero e = refl
sum_none f (suc k) e = omega (arith, sum_by-cons f [] (blank k), sum_none f k e)

pub uses_none : (c k : ℕ) → uses c (blank k) ≡ 0
unfolding uses
uses_none c k = sum_none (count c) k refl

pub total_none : (k : ℕ) → total (blank k) ≡ 0
unfolding total
total_none k = sum_none length k refl

count_below : (c i k : ℕ) → c < i → count c (range_with_len i k) ≡ 0
count_below c i zero lt = refl
count_below c i (suc k) lt = count_other c i (range_with_len (i + 1) k) (λ e. omega arith) ∙ count_below c (i + 1) k (omega arith)

count_once : (c i k : ℕ) → count c (range_with_len i k) ≤ 1
count_once c i zero = omega arith
count_once c i (suc k) =
    ⊎_elim (λ (e : c ≡ i). omega (arith, count_here c (range_with_len (i + 1) k), count_below c (i + 1) k (omega arith), ap (λ j. count c (j ∷ range_with_len (i + 1) k)) e))
    (λ (ne : c ≡ i → ⊥). omega (arith, count_other c i (range_with_len (i + 1) k) ne, count_once c (i + 1) k)) (cases_eq c i)

-- cells that each lead to the next
chain_path : (n : ℕ) (next : List ℕ) (p i k : ℕ) → get_or next p 0 ≡ i → i + k ≡ n → ((c : ℕ) → c < n → get_or next c 0 ≡ c + 1) → Path n next p (range_with_len i k) n
chain_path n next p i zero e s each = e ∙ omega arith
chain_path n next p i (suc k) e s each = (e, omega arith, chain_path n next i (i + 1) k (each i (omega arith)) (omega arith) each)

last_counting : (p i k : ℕ) → last p (range_with_len i (suc k)) ≡ i + k
last_counting p i zero = omega arith
last_counting p i (suc k) = last_counting i (i + 1) k ∙ omega arith

-- rows that are linked as they should be, and hold no cell twice
module _ (h : Shape) (n : List ℕ) (m : List (List ℕ)) (lies : Lies h n) (many : length m ≡ h.rows) where
  rows_by : ((r : ℕ) → r < h.rows → Row h.cells (tables h n) r (row m r)) → ((c : ℕ) → uses c m ≤ 1) → total m ≤ h.cells → Rows h n m
  rows_by each once room = record {
    lies = lies;
    many = many;
    held = record {
      tails_long = length_gather (tail_at h) h.rows n ∙ sym many;
      next_long = omega (arith, many, length_gather (place_at h) (h.cells + h.rows) n);
      linked = λ r lt. subst (λ (e : ℕ). Row e (tables h n) r (row m r)) (sym (end_is h n)) (each r (omega (arith, many)));
      once = once;
      room = omega (arith, end_is h n);
    };
  }

pub empties : Empties
empties h n sound lies =
    rows_by h n₁ (blank h.rows) (lies_kept h n n₁ (length_emptied h.rows h 0 n) lies) (length-replicate h.rows [])
    (λ r lt. subst (Row h.cells (tables h n₁) r) (sym (get_or-replicate h.rows r [] [] lt)) (each r lt)) (λ c. omega (arith, uses_none c h.rows)) (omega (arith, total_none h.rows))
  where
    n₁ : List ℕ
    n₁ = emptied h.rows h 0 n

    each : (r : ℕ) → r < h.rows → Row h.cells (tables h n₁) r []
    each r lt =
        let at = emptied_at h sound h.rows 0 n r lies (omega arith) (omega arith) (omega arith) in
        let is = header_is h r sound lt in
        record {
          path = after_is h n₁ (h.cells + r) (omega arith) ∙ ap (after_in h n₁) (sym is) ∙ at.0;
          ends = sym (tail_is h n₁ r lt ∙ at.1 ∙ is);
        }

-- the words that filling a row leaves
record Words (h : Shape) (f : ℕ) (n : List ℕ) : Type 0 where
  pub lies : Lies h n
  pub cells : (c : ℕ) → c < h.cells → after_in h n c ≡ c + 1
  pub headers : (r : ℕ) → r < h.rows → (r ≡ f → ⊥) → (after_in h n (h.cells + r) ≡ h.cells) × (tail_in h n r ≡ h.cells + r)
  pub free : after_in h n (h.cells + f) ≡ 0
  pub last_free : tail_in h n f ≡ last (h.cells + f) (range_with_len 0 h.cells)

words : (h : Shape) (n : List ℕ) (f : ℕ) → Sound h → Lies h n → f < h.rows → Words h f (filled h f (emptied h.rows h 0 n))
unfolding filled
words h n f sound lies lf = cond_both (eqb h.cells 0) _ _ (Words h f) (λ e. none (eqb-true h.cells 0 e)) (λ e. many (eqb-false h.cells 0 e))
  where
    e₁ : List ℕ
    e₁ = emptied h.rows h 0 n

    lies₁ : Lies h e₁
    lies₁ = lies_kept h n e₁ (length_emptied h.rows h 0 n) lies

    row_at : (r : ℕ) → r < h.rows → (after_in h e₁ (h.cells + r) ≡ h.cells) × (tail_in h e₁ r ≡ h.cells + r)
    row_at r lt =
        let at = emptied_at h sound h.rows 0 n r lies (omega arith) (omega arith) (omega arith) in
        let is = header_is h r sound lt in
        (ap (after_in h e₁) (sym is) ∙ at.0, at.1 ∙ is)

    none : h.cells ≡ 0 → Words h f e₁
    none z = record {
      lies = lies₁;
      cells = λ c lt. absurd (omega arith);
      headers = λ r lt ne. row_at r lt;
      free = (row_at f lf).0 ∙ z;
      last_free = (row_at f lf).1 ∙ ap (λ (j : ℕ). last (h.cells + f) (range_with_len 0 j)) (sym z);
    }

    many : (h.cells ≡ 0 → ⊥) → Words h f (set (set (chained h.cells h 0 e₁) (place_at h (header_of h f)) 0) (tail_at h f) (h.cells - 1))
    many ne = record {
      lies = lies_kept h e₃ e₄ (length-set e₃ (tail_at h f) (h.cells - 1)) lies₃;
      cells = λ c lt. past_tail (place_at h c) (place_tail_apart h sound c f (omega arith) lf) ∙ past_head c (omega arith) (λ q. omega (arith, is)) ∙ chained_at h sound h.cells 0 e₁ c lies₁ (omega arith) (omega arith) (omega arith);
      headers = λ r lt nf. (
        past_tail (place_at h (h.cells + r)) (place_tail_apart h sound (h.cells + r) f (omega arith) lf) ∙ past_head (h.cells + r) (omega arith) (λ q. nf (omega (arith, is)))
            ∙ chained_other h.cells h 0 e₁ _ (λ d ge l. places_apart h sound (h.cells + r) d (omega arith) (omega arith) (λ q. omega arith)) ∙ (row_at r lt).0,
        past_tail (tail_at h r) (tails_apart h sound r f nf) ∙ get_or-set_other e₂ (place_at h (header_of h f)) (tail_at h r) 0 0 (λ q. place_tail_apart h sound (header_of h f) r (omega (arith, is)) lt (sym q))
            ∙ chained_other h.cells h 0 e₁ _ (λ d ge l q. place_tail_apart h sound d r (omega arith) lt (sym q)) ∙ (row_at r lt).1,
      );
      free = past_tail (place_at h (h.cells + f)) (place_tail_apart h sound (h.cells + f) f (omega arith) lf) ∙ ap (after_in h e₃) (sym is)
          ∙ get_or-set_same e₂ (place_at h (header_of h f)) 0 0 (place_inside h sound e₂ lies₂ (header_of h f) (omega (arith, is)));
      last_free = get_or-set_same e₃ (tail_at h f) (h.cells - 1) 0 (tail_inside h sound e₃ lies₃ f lf) ∙ sym ends;
    }
      where
        is : header_of h f ≡ h.cells + f
        is = header_is h f sound lf

        e₂ : List ℕ
        e₂ = chained h.cells h 0 e₁

        e₃ : List ℕ
        e₃ = set e₂ (place_at h (header_of h f)) 0

        e₄ : List ℕ
        e₄ = set e₃ (tail_at h f) (h.cells - 1)

        lies₂ : Lies h e₂
        lies₂ = lies_kept h e₁ e₂ (length_chained h.cells h 0 e₁) lies₁

        lies₃ : Lies h e₃
        lies₃ = lies_kept h e₂ e₃ (length-set e₂ (place_at h (header_of h f)) 0) lies₂

        past_tail : (i : ℕ) → (i ≡ tail_at h f → ⊥) → get_or e₄ i 0 ≡ get_or e₃ i 0
        past_tail i nt = get_or-set_other e₃ (tail_at h f) i (h.cells - 1) 0 nt

        past_head : (p : ℕ) → p < h.cells + h.rows → (p ≡ header_of h f → ⊥) → after_in h e₃ p ≡ after_in h e₂ p
        past_head p lp nh = get_or-set_other e₂ (place_at h (header_of h f)) (place_at h p) 0 0 (places_apart h sound p (header_of h f) lp (omega (arith, is)) nh)

        ends : last (h.cells + f) (range_with_len 0 h.cells) ≡ h.cells - 1
        ends = let s : h.cells ≡ suc (h.cells - 1) = omega arith in
            ap (λ (j : ℕ). last (h.cells + f) (range_with_len 0 j)) s ∙ last_counting (h.cells + f) 0 (h.cells - 1) ∙ omega arith

pub fills : Fills
fills h n f sound lies lf =
    rows_by h m all w.lies long (λ r lt. at r lt (cases_eq r f))
    (λ c. omega (arith, uses_set c (blank h.rows) f (range_with_len 0 h.cells) inside, uses_none c h.rows, count_once c 0 h.cells))
    (omega (arith, total_set (blank h.rows) f (range_with_len 0 h.cells) inside, total_none h.rows, length-range_with_len 0 h.cells))
  where
    m : List ℕ
    m = filled h f (emptied h.rows h 0 n)

    all : List (List ℕ)
    all = set (blank h.rows) f (range_with_len 0 h.cells)

    w : Words h f m
    w = words h n f sound lies lf

    inside : f < length (blank h.rows)
    inside = simp length-replicate lf

    long : length all ≡ h.rows
    long = length-set (blank h.rows) _ _ ∙ length-replicate h.rows []

    at : (r : ℕ) → r < h.rows → (r ≡ f) ⊎ (r ≡ f → ⊥) → Row h.cells (tables h m) r (row all r)
    at r lt (inl e) =
        subst (λ (i : ℕ). Row h.cells (tables h m) i (row all i)) (sym e)
        (subst (Row h.cells (tables h m) f) (sym (get_or-set_same (blank h.rows) f (range_with_len 0 h.cells) [] inside))
        (record {
          path = chain_path h.cells (tables h m).next (h.cells + f) 0 h.cells (after_is h m _ (omega arith) ∙ w.free) (omega arith) (λ c lc. after_is h m c (omega arith) ∙ w.cells c lc);
          ends = sym (tail_is h m f lf ∙ w.last_free);
        }))
    at r lt (inr ne) =
        subst (Row h.cells (tables h m) r) (sym (get_or-set_other (blank h.rows) f r (range_with_len 0 h.cells) [] ne ∙ get_or-replicate h.rows r [] [] lt))
        (record {
          path = after_is h m (h.cells + r) (omega arith) ∙ (w.headers r lt ne).0;
          ends = sym (tail_is h m r lt ∙ (w.headers r lt ne).1);
        })
