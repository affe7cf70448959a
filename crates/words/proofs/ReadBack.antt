-- Reading what is written of a number or a word gives it again. Assumes nothing.
use Rattle.std.proofs.Common.{◌≡◌, ℕ, ◌^◌, ◌<◌, Bool, true, false, not, ◌&&◌, List, [], ◌∷◌, ◌++◌, length, Some, Ok, decimal, Option, sym, refl, ap, ◌∙◌, arith, rules}
use Rattle.std.specs.Char.{is_ascii_digit}
use Rattle.std.specs.Str.{all_ascii_digits, bytes_eq}
use Rattle.std.proofs.lemmas.Bool.{cond-true, cond-false, and_parts, and_from, or_parts, not-true}
use Rattle.std.proofs.lemmas.Bool.Decides.{nat_tests}
use Rattle.std.proofs.lemmas.Str.Parse.{IsNumeralModel, numerals_by_fold}
use Rattle.std.proofs.lemmas.Fmt.{digits_decimal, digits_value-decimal, decimal_nonempty}
use Rattle.words.specs.Words.{blank, gap, trimmed, word, past}
use Rattle.words.specs.Numerals.{value_after, valued}
use Rattle.words.specs.Readers.{Read, then, number, number_at, keyword, keyword_at}
use Rattle.words.proofs.NumberSteps.{valued_well}

-- bytes of a word, and what can stand after one
abbrev pub plain : List ℕ → Bool
plain [] = true
plain (c ∷ cs) = not (gap c) && plain cs

abbrev pub ends : List ℕ → Bool
ends [] = true
ends (c ∷ cs) = gap c

no_gap : (c : ℕ) (cs : List ℕ) → plain (c ∷ cs) ≡ true → gap c ≡ false
no_gap c cs p = not-true (gap c) (and_parts (not (gap c)) (plain cs) p).0

word_of : (w r : List ℕ) → plain w ≡ true → ends r ≡ true → word (w ++ r) ≡ w
word_of [] [] p e = refl
word_of [] (c ∷ cs) p e = cond-true _ _ _ e
word_of (c ∷ w) r p e = cond-false _ _ _ (no_gap c w p) ∙ ap (λ (x : List ℕ). c ∷ x) (word_of w r (and_parts (not (gap c)) (plain w) p).1 e)

past_of : (w r : List ℕ) → plain w ≡ true → ends r ≡ true → past (w ++ r) ≡ r
past_of [] [] p e = refl
past_of [] (c ∷ cs) p e = cond-true _ _ _ e
past_of (c ∷ w) r p e = cond-false _ _ _ (no_gap c w p) ∙ past_of w r (and_parts (not (gap c)) (plain w) p).1 e

trim_of : (w r : List ℕ) → plain w ≡ true → 0 < length w → trimmed (w ++ r) ≡ w ++ r
trim_of [] r p h = absurd (omega arith)
trim_of (c ∷ w) r p h = cond-false _ _ _ (or_parts (blank c) _ (no_gap c w p)).0

-- a number's digits
own : IsNumeralModel (λ ds. all_ascii_digits ds ≡ true) (value_after 0)
own = numerals_by_fold _ (search rules) value_after (search rules)

digit_plain : (c : ℕ) → is_ascii_digit c ≡ true → not (gap c) ≡ true
digit_plain c h = grind (arith, nat_tests)

plain_digits : (ds : List ℕ) → all_ascii_digits ds ≡ true → plain ds ≡ true
plain_digits [] h = refl
plain_digits (c ∷ cs) h =
    let p = and_parts (is_ascii_digit c) (all_ascii_digits cs) h in
    and_from (not (gap c)) (plain cs) (digit_plain c p.0) (plain_digits cs p.1)

pub decimal_digits : (n : ℕ) → n < 2 ^ 64 → all_ascii_digits (decimal n) ≡ true
decimal_digits n h = digits_decimal own n h

valued_decimal : (n : ℕ) → n < 2 ^ 64 → Some n ≡ valued (decimal n)
valued_decimal n h = valued_well (decimal n) n (decimal_digits n h) (decimal_nonempty n h) (digits_value-decimal own n h) h

pub number_reads : (n : ℕ) (r : List ℕ) → n < 2 ^ 64 → ends r ≡ true → number (decimal n ++ r) ≡ Ok (n, r)
unfolding number
number_reads n r h e =
    let p = plain_digits (decimal n) (decimal_digits n h) in
    ap (λ (t : List ℕ). number_at (valued (word t)) t) (trim_of (decimal n) r p (decimal_nonempty n h))
    ∙ ap (λ (w : List ℕ). number_at (valued w) (decimal n ++ r)) (word_of (decimal n) r p e)
    ∙ ap (λ (o : Option ℕ). number_at o (decimal n ++ r)) (sym (valued_decimal n h))
    ∙ ap (λ (t : List ℕ). Ok (n, t)) (past_of (decimal n) r p e)

-- a given word
pub keyword_reads : (w r : List ℕ) → plain w ≡ true → 0 < length w → bytes_eq w w ≡ true → ends r ≡ true → keyword w (w ++ r) ≡ Ok r
unfolding keyword
keyword_reads w r p h s e =
    ap (keyword_at w) (trim_of w r p h)
    ∙ cond-true _ _ _ (ap (λ (x : List ℕ). bytes_eq x w) (word_of w r p e) ∙ s)
    ∙ ap (λ (t : List ℕ). Ok t) (past_of w r p e)

-- one reader after another
pub then_reads : {X Y : Type 0} (r : Read X) (x : X) (f : X → Read Y) → r ≡ Ok x → then r f ≡ f x
then_reads r x f e = ap (λ (z : Read _). then z f) e
