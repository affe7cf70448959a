-- Words gathered from a list by an address for each index: reading, writing one of them, writing elsewhere.
use Rattle.std.proofs.Common.{◌≡◌, ℕ, ◌<◌, ◌≢◌, ◌⊎◌, List, length, get_or, set, sym, ap, ◌∙◌, inl, inr, arith, length-set, get_or-set_other, get_or-set_same}
use Rattle.std.proofs.lemmas.List.FromFn.{length-map-range_with_len, get_or-map-range_with_len}
use Rattle.std.proofs.lemmas.List.{ext_get_or}
use Rattle.std.proofs.lemmas.Bool.{cases_eq}
use Rattle.links.specs.Area.{gather}

pub length_gather : (f : ℕ → ℕ) (k : ℕ) (n : List ℕ) → length (gather f k n) ≡ k
length_gather f k n = length-map-range_with_len (λ p. get_or n (f p) 0) 0 k

pub gather_get : (f : ℕ → ℕ) (k : ℕ) (n : List ℕ) (p : ℕ) → p < k → get_or (gather f k n) p 0 ≡ get_or n (f p) 0
gather_get f k n p lt = get_or-map-range_with_len (λ q. get_or n (f q) 0) 0 k p p 0 lt (omega arith)

-- what is gathered depends on the words at the addresses alone
pub gather_same : (f : ℕ → ℕ) (k : ℕ) (n n' : List ℕ) → ((p : ℕ) → p < k → get_or n' (f p) 0 ≡ get_or n (f p) 0) → gather f k n' ≡ gather f k n
gather_same f k n n' same =
    ext_get_or 0 (gather f k n') (gather f k n) (length_gather f k n' ∙ sym (length_gather f k n))
    (λ p lt. let here : p < k = omega (arith, length_gather f k n') in gather_get f k n' p here ∙ same p here ∙ sym (gather_get f k n p here))

-- a write at an address is a write to what is gathered, if no other address is the same
pub gather_set : (f : ℕ → ℕ) (k : ℕ) (n : List ℕ) (p v : ℕ) → p < k → f p < length n → ((q : ℕ) → q < k → q ≢ p → f q ≢ f p) →
    gather f k (set n (f p) v) ≡ set (gather f k n) p v
gather_set f k n p v lt inside apart =
    ext_get_or 0 (gather f k (set n (f p) v)) (set (gather f k n) p v) (length_gather f k (set n (f p) v) ∙ sym (length-set (gather f k n) p v ∙ length_gather f k n))
    (λ q lq. let here : q < k = omega (arith, length_gather f k (set n (f p) v)) in gather_get f k (set n (f p) v) q here ∙ at q here (cases_eq q p))
  where
    at : (q : ℕ) → q < k → (q ≡ p) ⊎ (q ≡ p → ⊥) → get_or (set n (f p) v) (f q) 0 ≡ get_or (set (gather f k n) p v) q 0
    at q here (inl e) =
        ap (λ (i : ℕ). get_or (set n (f p) v) (f i) 0) e ∙ get_or-set_same n (f p) v 0 inside
        ∙ sym (ap (λ (i : ℕ). get_or (set (gather f k n) p v) i 0) e ∙ get_or-set_same (gather f k n) p v 0 (omega (arith, length_gather f k n)))
    at q here (inr ne) =
        get_or-set_other n (f p) (f q) v 0 (apart q here ne) ∙ sym (get_or-set_other (gather f k n) p q v 0 ne ∙ gather_get f k n q here)

pub gather_other : (f : ℕ → ℕ) (k : ℕ) (n : List ℕ) (i v : ℕ) → ((p : ℕ) → p < k → f p ≢ i) → gather f k (set n i v) ≡ gather f k n
gather_other f k n i v apart = gather_same f k n (set n i v) (λ p lt. get_or-set_other n i (f p) v 0 (apart p lt))
