-- The turns of the loop over a call's numbers. Assumes nothing.
use Rattle.std.proofs.Common.{◌≡◌, ℕ, suc, ◌+◌, ◌-◌, ◌<◌, ◌≤◌, List, [], ◌∷◌, ◌++◌, Ok, Err, sym, refl, ap, ◌∙◌, append_assoc, append-nil, arith}
use Rattle.words.specs.Readers.{Read, then, number, end}
use Rattle.call_lines.specs.Numbers.{numbers}

-- what is read, behind the numbers so far
abbrev pub behind : List ℕ → Read (List ℕ) → Read (List ℕ)
behind got r = then r (λ ns. Ok (got ++ ns))

pub behind_none : (r : Read (List ℕ)) → behind [] r ≡ r
behind_none (Ok ns) = refl
behind_none (Err e) = refl

behind_more : (got : List ℕ) (n : ℕ) (r : Read (List ℕ)) → behind (got ++ n ∷ []) r ≡ behind got (then r (λ ns. Ok (n ∷ ns)))
behind_more got n (Ok ns) = ap (λ (x : List ℕ). Ok x) (append_assoc got (n ∷ []) ns)
behind_more got n (Err e) = refl

-- there is one more to be read
numbers_on : (i n : ℕ) (s : List ℕ) → i < n → numbers (n - i) s ≡ then (number s) (λ a. then (numbers (n - (i + 1)) a.1) (λ ns. Ok (a.0 ∷ ns)))
unfolding numbers
numbers_on i n s h = let m : n - i ≡ suc (n - (i + 1)) = omega arith in ap (λ (k : ℕ). numbers k s) m

pub number_more : (i n x : ℕ) (got s t : List ℕ) → i < n → Ok (x, t) ≡ number s → behind (got ++ x ∷ []) (numbers (n - (i + 1)) t) ≡ behind got (numbers (n - i) s)
number_more i n x got s t h e =
    behind_more got x (numbers (n - (i + 1)) t)
    ∙ ap (behind got) (ap (λ (r : Read (ℕ × List ℕ)). then r (λ a. then (numbers (n - (i + 1)) a.1) (λ ns. Ok (a.0 ∷ ns)))) e ∙ sym (numbers_on i n s h))

pub number_misfit : (i n : ℕ) (got s e : List ℕ) → i < n → Err e ≡ number s → Err e ≡ behind got (numbers (n - i) s)
number_misfit i n got s e h k =
    ap (behind got) (ap (λ (r : Read (ℕ × List ℕ)). then r (λ a. then (numbers (n - (i + 1)) a.1) (λ ns. Ok (a.0 ∷ ns)))) k ∙ sym (numbers_on i n s h))

-- there is none
pub numbers_end : (i n : ℕ) (got s : List ℕ) (u : Unit {0}) → n ≤ i → Ok u ≡ end s → Ok got ≡ behind got (numbers (n - i) s)
unfolding numbers
numbers_end i n got s u h e =
    let m : n - i ≡ 0 = omega arith in
    ap (λ (x : List ℕ). Ok x) (sym (append-nil got)) ∙ ap (λ (r : Read (Unit {0})). behind got (then r (λ _. Ok []))) e ∙ ap (λ (k : ℕ). behind got (numbers k s)) (sym m)

pub end_misfit : (i n : ℕ) (got s e : List ℕ) → n ≤ i → Err e ≡ end s → Err e ≡ behind got (numbers (n - i) s)
unfolding numbers
end_misfit i n got s e h k =
    let m : n - i ≡ 0 = omega arith in
    ap (λ (r : Read (Unit {0})). behind got (then r (λ _. Ok []))) k ∙ ap (λ (j : ℕ). behind got (numbers j s)) (sym m)
