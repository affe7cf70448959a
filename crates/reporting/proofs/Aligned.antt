-- What a hole with a width writes is an aligned field. Assumes nothing.
use Rattle.std.proofs.Common.{◌≡◌, ℕ, zero, suc, false, eqb, ◌-◌, ◌^◌, List, [], ◌∷◌, ◌++◌, length, replicate, decimal, sym, refl, ap, append-nil, arith}
use Rattle.std.proofs.lemmas.Bool.{ne_eqb}
use Rattle.std.proofs.Math.Nat.{sub-zero, zero-sub, sub_self}
use Rattle.std.specs.List.{repeat}
use Rattle.std.specs.Fmt.{padded_integral, styled_decimal, format_spec, char_count}

repeat_one : (n x : ℕ) → repeat n (x ∷ []) ≡ replicate n x
repeat_one zero x = refl
repeat_one (suc n) x = ap (λ (xs : List ℕ). x ∷ xs) (repeat_one n x)

wide_number : (w n : ℕ) → padded_integral (format_spec 32 3 0 w (2 ^ 64 - 1)) false [] (decimal n) ≡ replicate (w - length (decimal n)) 32 ++ decimal n
unfolding padded_integral char_count lib.Utf8.encode
wide_number w n = simp (sub-zero, sub_self, append-nil) (ap (λ (s : List ℕ). s ++ decimal n) (repeat_one (w - length (decimal n)) 32))

-- a number in a column of any width
pub right_number : (w n : ℕ) → styled_decimal (format_spec 32 3 0 w (2 ^ 64 - 1)) n ≡ replicate (w - length (decimal n)) 32 ++ decimal n
right_number zero n = sym (ap (λ (k : ℕ). replicate k 32 ++ decimal n) (zero-sub (length (decimal n))))
right_number (suc w) n = let e : eqb (suc w) 0 ≡ false = ne_eqb (suc w) 0 (λ h. absurd (omega (arith, h))) in rw e (wide_number (suc w) n)
