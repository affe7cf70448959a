-- What holds of each line of a table, at its number. Assumes nothing.
use Rattle.std.proofs.Common.{◌≡◌, ℕ, zero, suc, ◌+◌, ◌<◌, List, [], ◌∷◌, length, get_or, arith}

abbrev pub EachAt : {F : Type 0} → (ℕ → F → Type 0) → ℕ → List F → Type 0
EachAt P k [] = Unit {0}
EachAt P k (f ∷ fs) = P k f × EachAt P (suc k) fs

pub found : {F : Type 0} (P : ℕ → F → Type 0) (d : F) (j k : ℕ) (fs : List F) → EachAt P j fs → k < length fs → P (j + k) (get_or fs k d)
found P d j k [] all h = absurd (omega arith)
found P d j zero (f ∷ fs) all h = let e : j + 0 ≡ j = omega arith in rw e all.0
found P d j (suc k) (f ∷ fs) all h = let e : j + suc k ≡ suc j + k = omega arith in rw e (found P d (suc j) k fs all.1 (omega arith))
