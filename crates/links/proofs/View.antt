-- The tables through the words: what an operation on the slice does to them.
use Rattle.std.proofs.Common.{◌≡◌, ℕ, ◌+◌, ◌<◌, Bool, true, false, cond, eqb, ltb, List, [], ◌∷◌, length, get_or, set, Some, None, sym, ap, ◌∙◌, ap₂, arith, length-set}
use Rattle.std.proofs.lemmas.Bool.{cond_both, lt-ltb, le-ltb, cond-true}
use Rattle.links.specs.Area.{place_at, tail_at, tables, Sound, Lies, after_in, tail_in, following_in, inserted, removed}
use Rattle.links.specs.Tables.{Tables, end, after, tail, following, insert_after, remove_after}
use Rattle.links.specs.Model.{Path, first}
use Rattle.links.specs.declared.shape.Shape.{Shape}
use Rattle.links.proofs.Addresses.{place_inside, tail_inside, places_apart, tails_apart, place_tail_apart}
use Rattle.links.proofs.Gather.{length_gather, gather_get, gather_same, gather_set, gather_other}

abbrev of : List ℕ → List ℕ → Tables
of a b = record { tails = a; next = b }

-- READING
pub end_is : (h : Shape) (n : List ℕ) → end (tables h n) ≡ h.cells
end_is h n = omega (arith, length_gather (place_at h) (h.cells + h.rows) n, length_gather (tail_at h) h.rows n)

pub after_is : (h : Shape) (n : List ℕ) (p : ℕ) → p < h.cells + h.rows → after (tables h n) p ≡ after_in h n p
after_is h n p lt = gather_get (place_at h) (h.cells + h.rows) n p lt

pub tail_is : (h : Shape) (n : List ℕ) (r : ℕ) → r < h.rows → tail (tables h n) r ≡ tail_in h n r
tail_is h n r lt = gather_get (tail_at h) h.rows n r lt

pub following_is : (h : Shape) (n : List ℕ) (p : ℕ) → p < h.cells + h.rows → following (tables h n) p ≡ following_in h n p
following_is h n p lt = ap₂ (λ (a e : ℕ). cond (ltb a e) (Some a) None) (after_is h n p lt) (end_is h n)

-- the tables depend on the shape's words alone
pub tables_same : (h : Shape) (n n' : List ℕ) → ((p : ℕ) → p < h.cells + h.rows → get_or n' (place_at h p) 0 ≡ get_or n (place_at h p) 0) →
    ((r : ℕ) → r < h.rows → get_or n' (tail_at h r) 0 ≡ get_or n (tail_at h r) 0) → tables h n' ≡ tables h n
tables_same h n n' places tails = ap₂ of (gather_same (tail_at h) h.rows n n' tails) (gather_same (place_at h) (h.cells + h.rows) n n' places)

-- the cell after a place is the first of the path from there
pub path_first : (t : Tables) (p : ℕ) (xs : List ℕ) → Path (end t) t.next p xs (end t) → following t p ≡ first xs
path_first t p [] l = ap (λ b. cond b (Some (after t p)) None) (le-ltb _ _ (omega (arith, l)))
path_first t p (x ∷ xs) l = ap (λ b. cond b (Some (after t p)) None) (lt-ltb _ _ (omega (arith, l.0, l.1))) ∙ ap Some l.0

-- LENGTHS: every write keeps the number of words
pub lies_kept : (h : Shape) (n n' : List ℕ) → length n' ≡ length n → Lies h n → Lies h n'
lies_kept h n n' e lies = record { heads = omega (arith, lies.heads); cells = omega (arith, lies.cells) }

pub length_inserted : (h : Shape) (r b x : ℕ) (n : List ℕ) → length (inserted h r b x n) ≡ length n
unfolding inserted
length_inserted h r b x n = cond_both (eqb (tail_in h n r) b) (set n₂ (tail_at h r) x) n₂ (λ (m : List ℕ). length m ≡ length n) (λ _. length-set n₂ _ x ∙ long) (λ _. long)
  where
    n₁ : List ℕ
    n₁ = set n (place_at h x) (after_in h n b)

    n₂ : List ℕ
    n₂ = set n₁ (place_at h b) x

    long : length n₂ ≡ length n
    long = length-set n₁ (place_at h b) x ∙ length-set n (place_at h x) (after_in h n b)

pub length_removed : (h : Shape) (r b x : ℕ) (n : List ℕ) → length (removed h r b x n) ≡ length n
unfolding removed
length_removed h r b x n = cond_both (eqb (tail_in h n r) x) (set n₁ (tail_at h r) b) n₁ (λ (m : List ℕ). length m ≡ length n) (λ _. length-set n₁ _ b ∙ long) (λ _. long)
  where
    n₁ : List ℕ
    n₁ = set n (place_at h b) (after_in h n x)

    long : length n₁ ≡ length n
    long = length-set n (place_at h b) (after_in h n x)

-- WRITING
module _ (h : Shape) (sound : Sound h) (n : List ℕ) (lies : Lies h n) where
  set_next : (p v : ℕ) → p < h.cells + h.rows → tables h (set n (place_at h p) v) ≡ of (tables h n).tails (set (tables h n).next p v)
  set_next p v lt =
      ap₂ of (gather_other (tail_at h) h.rows n (place_at h p) v (λ r lr e. place_tail_apart h sound p r lt lr (sym e)))
      (gather_set (place_at h) (h.cells + h.rows) n p v lt (place_inside h sound n lies p lt) (λ q lq ne. places_apart h sound q p lq lt ne))

  set_tail : (r v : ℕ) → r < h.rows → tables h (set n (tail_at h r) v) ≡ of (set (tables h n).tails r v) (tables h n).next
  set_tail r v lt =
      ap₂ of (gather_set (tail_at h) h.rows n r v lt (tail_inside h sound n lies r lt) (λ q lq ne. tails_apart h sound q r ne))
      (gather_other (place_at h) (h.cells + h.rows) n (tail_at h r) v (λ p lp. place_tail_apart h sound p r lp lt))

pub inserted_is : (h : Shape) (r b x : ℕ) (n : List ℕ) → Sound h → Lies h n → r < h.rows → b < h.cells + h.rows → x < h.cells →
    tables h (inserted h r b x n) ≡ insert_after r b x (tables h n)
unfolding inserted
inserted_is h r b x n sound lies lr lb lx =
    by (eqb (tail_in h n r) b) ∙ ap₂ (λ (t a : ℕ). of (cond (eqb t b) (set (tables h n).tails r x) (tables h n).tails) (set (set (tables h n).next x a) b x))
    (sym (tail_is h n r lr)) (sym (after_is h n b lb))
  where
    n₁ : List ℕ
    n₁ = set n (place_at h x) (after_in h n b)

    n₂ : List ℕ
    n₂ = set n₁ (place_at h b) x

    lies₁ : Lies h n₁
    lies₁ = lies_kept h n n₁ (length-set n (place_at h x) (after_in h n b)) lies

    lies₂ : Lies h n₂
    lies₂ = lies_kept h n₁ n₂ (length-set n₁ (place_at h b) x) lies₁

    two : tables h n₂ ≡ of (tables h n).tails (set (set (tables h n).next x (after_in h n b)) b x)
    two = set_next h sound n₁ lies₁ b x lb ∙ ap (λ (t : Tables). of t.tails (set t.next b x)) (set_next h sound n lies x (after_in h n b) (omega arith))

    by : (q : Bool) → tables h (cond q (set n₂ (tail_at h r) x) n₂)
        ≡ of (cond q (set (tables h n).tails r x) (tables h n).tails) (set (set (tables h n).next x (after_in h n b)) b x)
    by true = set_tail h sound n₂ lies₂ r x lr ∙ ap (λ (t : Tables). of (set t.tails r x) t.next) two
    by false = two

pub removed_is : (h : Shape) (r b x : ℕ) (n : List ℕ) → Sound h → Lies h n → r < h.rows → b < h.cells + h.rows → x < h.cells → after_in h n b ≡ x →
    tables h (removed h r b x n) ≡ remove_after r b (tables h n)
unfolding removed
removed_is h r b x n sound lies lr lb lx is =
    by (eqb (tail_in h n r) x)
    ∙ ap₂ (λ (t a : ℕ). of (cond (eqb t x) (set (tables h n).tails r b) (tables h n).tails) (set (tables h n).next b a)) (sym (tail_is h n r lr)) (sym (after_is h n x (omega arith)))
    ∙ ap (λ (y : ℕ). of (cond (eqb (tail (tables h n) r) y) (set (tables h n).tails r b) (tables h n).tails) (set (tables h n).next b (after (tables h n) y))) found
    ∙ sym (cond-true (ltb (after (tables h n) b) (end (tables h n))) _ (tables h n) (lt-ltb _ _ (omega (arith, found, end_is h n))))
  where
    found : x ≡ after (tables h n) b
    found = sym (after_is h n b lb ∙ is)

    n₁ : List ℕ
    n₁ = set n (place_at h b) (after_in h n x)

    lies₁ : Lies h n₁
    lies₁ = lies_kept h n n₁ (length-set n (place_at h b) (after_in h n x)) lies

    by : (q : Bool) → tables h (cond q (set n₁ (tail_at h r) b) n₁) ≡ of (cond q (set (tables h n).tails r b) (tables h n).tails) (set (tables h n).next b (after_in h n x))
    by true = set_tail h sound n₁ lies₁ r b lr ∙ ap (λ (t : Tables). of (set t.tails r b) t.next) (set_next h sound n lies b (after_in h n x) lb)
    by false = set_next h sound n lies b (after_in h n x) lb
