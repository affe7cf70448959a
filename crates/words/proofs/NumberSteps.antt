-- The steps of the loop over a number's digits, and what a word writes. Assumes nothing.
use Rattle.std.proofs.Common.{◌≡◌, ℕ, ◌+◌, ◌-◌, ◌*◌, ◌^◌, ◌<◌, ◌≤◌, Bool, true, false, cond, ltb, List, [], ◌∷◌, length, get_or, drop, Some, None, sym, refl, ap, ◌∙◌, arith}
use Rattle.std.specs.Str.{all_ascii_digits}
use Rattle.std.proofs.lemmas.List.{at_drop_more}
use Rattle.std.proofs.lemmas.Bool.{cond-true, cond-false, and_right, le-ltb, lt-ltb, and_from}
use Rattle.words.specs.Numerals.{value_after, valued}

pub value_more : (w : List ℕ) (i n d : ℕ) → i < length w → d ≡ get_or w i 0 - 48 → value_after (10 * n + d) (drop (i + 1) w) ≡ value_after n (drop i w)
value_more w i n d h e =
    let m : value_after n (drop i w) ≡ value_after (10 * n + (get_or w i 0 - 48)) (drop (i + 1) w) = at_drop_more (value_after n) w i 0 h in
    ap (λ (x : ℕ). value_after (10 * n + x) (drop (i + 1) w)) e ∙ sym m

pub value_grows : (n : ℕ) (ds : List ℕ) → n ≤ value_after n ds
value_grows n [] = omega arith
value_grows n (c ∷ cs) = omega (arith, value_grows (10 * n + (c - 48)) cs)

pub valued_too_large : (w : List ℕ) → 2 ^ 64 ≤ value_after 0 w → None ≡ valued w
valued_too_large w h = sym (cond-false _ _ _ (and_right (all_ascii_digits w) _ (and_right (ltb 0 (length w)) _ (le-ltb _ _ h))))

pub valued_well : (w : List ℕ) (n : ℕ) → all_ascii_digits w ≡ true → 0 < length w → value_after 0 w ≡ n → n < 2 ^ 64 → Some n ≡ valued w
valued_well w n d some e small = ap Some (sym e) ∙ sym (cond-true _ _ _ (and_from _ _ d (and_from _ _ (lt-ltb _ _ some) (lt-ltb _ _ (omega arith)))))

-- with one digit more the number is no smaller in the end
pub value_from : (w : List ℕ) (i n : ℕ) → i < length w → 10 * n + (get_or w i 0 - 48) ≤ value_after n (drop i w)
value_from w i n h = omega (arith, value_grows (10 * n + (get_or w i 0 - 48)) (drop (i + 1) w), value_more w i n (get_or w i 0 - 48) h refl)

-- what was read of a digit
pub digit_read : (b : Bool) (d e : ℕ) → Some d ≡ cond b (Some e) None → d ≡ e
digit_read true d e h = cc
digit_read false d e h = absurd (let z : ◌≡◌ {A = ℕ} 0 1 = cc in omega arith)
