-- What the rows of a recipe ask for, row by row. Assumes nothing.
use Rattle.std.proofs.Common.{◌≡◌, ℕ, suc, ◌+◌, ◌-◌, ◌<◌, ◌≤◌, List, [], ◌∷◌, ◌++◌, length, take, set, sym, ap, ◌∙◌, ap₂, append_assoc, append-nil, arith}
use Rattle.std.proofs.lemmas.List.{take_more_set, take_all}
use Rattle.layout.specs.declared.limits.Limits.{Limits}
use Rattle.rules.specs.Making.{row_from, part_wanted, wants_on}
use Rattle.taking.specs.declared.wants.Want.{Want}

-- k places are written: those behind are still to come
pub row_written : (l : Limits) (f q : ℕ) (n : List ℕ) (ws all : List Want) (k : ℕ) (w : Want) → length ws ≡ 16 → k < 16 → take k ws ++ wants_on (16 - k) l f k q n ≡ all →
    w ≡ part_wanted l (row_from f k) q n → take (k + 1) (set ws k w) ++ wants_on (16 - (k + 1)) l f (k + 1) q n ≡ all
row_written l f q n ws all k w long lt h is =
    let rest : List Want = wants_on (16 - (k + 1)) l f (k + 1) q n in
    let more : 16 - k ≡ suc (16 - (k + 1)) = omega arith in
    ap (λ (xs : List Want). xs ++ rest) (take_more_set ws k w (omega (arith, long)))
    ∙ append_assoc (take k ws) (w ∷ []) rest
    ∙ ap (λ (x : Want). take k ws ++ x ∷ rest) is
    ∙ ap (λ (m : ℕ). take k ws ++ wants_on m l f k q n) (sym more)
    ∙ h

pub all_written : (l : Limits) (f q : ℕ) (n : List ℕ) (ws all : List Want) (k : ℕ) → length ws ≡ 16 → 16 ≤ k → take k ws ++ wants_on (16 - k) l f k q n ≡ all → ws ≡ all
all_written l f q n ws all k long ge h =
    let none : 16 - k ≡ 0 = omega arith in
    sym (ap₂ (λ (xs : List Want) (m : ℕ). xs ++ wants_on m l f k q n) (take_all k ws (omega (arith, long))) none ∙ append-nil ws) ∙ h
