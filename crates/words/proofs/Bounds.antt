-- What holds of all that is read: numbers are below 2 ^ 64. Assumes nothing.
use Rattle.std.proofs.Common.{◌≡◌, ℕ, Bool, true, false, cond, ltb, List, length, Some, None, Ok, Err, refl}
use Rattle.std.specs.Str.{all_ascii_digits}
use Rattle.std.proofs.lemmas.Bool.{and_parts}
use Rattle.words.specs.Words.{trimmed, word}
use Rattle.words.specs.Numerals.{value_after, numeral}
use Rattle.words.specs.Readers.{Read, then, number, number_at}

-- what is read, if anything is
abbrev pub Holds : {X : Type 0} → (X → Type 0) → Read X → Type 0
Holds P (Ok x) = P x
Holds P (Err e) = Unit {0}

pub holds_then : {X Y : Type 0} (P : X → Type 0) (Q : Y → Type 0) (r : Read X) (f : X → Read Y) → Holds P r → ((x : X) → P x → Holds Q (f x)) → Holds Q (then r f)
holds_then P Q (Ok x) f h k = k x h
holds_then P Q (Err e) f h k = tt

-- whatever is read
pub holds_any : {X : Type 0} (r : Read X) → Holds (λ _. Unit {0}) r
holds_any (Ok x) = tt
holds_any (Err e) = tt

abbrev pub Small : ℕ → Type 0
Small n = ltb n 18446744073709551616 ≡ true

numeral_small : (b : Bool) (w s : List ℕ) → numeral w ≡ b → Holds (λ p. Small p.0) (number_at (cond b (Some (value_after 0 w)) None) s)
numeral_small true w s e = (and_parts (ltb 0 (length w)) _ (and_parts (all_ascii_digits w) _ e).1).1
numeral_small false w s e = tt

pub number_small : (s : List ℕ) → Holds (λ p. Small p.0) (number s)
unfolding number
number_small s = numeral_small (numeral (word (trimmed s))) (word (trimmed s)) (trimmed s) refl
