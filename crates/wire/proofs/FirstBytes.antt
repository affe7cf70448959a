-- First bytes, and the kinds that they are the numbers of. Assumes nothing.
use Rattle.std.proofs.Common.{◌≡◌, ℕ, ◌≤◌, Bool, true, false, cond, ltb, eqb, min, List, [], ◌∷◌, length, get_or, Some, None, Ok, Err, sym, refl, ap, ◌∙◌, ⊎_elim, arith}
use Rattle.std.specs.List.{slice_get}
use Rattle.std.proofs.lemmas.Option.{none-some, cond_some, get_or_from_slice_get}
use Rattle.std.proofs.lemmas.List.{get_or_past}
use Rattle.std.proofs.lemmas.Bool.{cond-true, cases_Bool, ltb-false}
use Rattle.fields.specs.Bytes.{value, field_at, sized}
use Rattle.firm.specs.Calls.{garbled}
use Rattle.wire.specs.Calls.{Form, none, forms, size, built, or_garbled, call_as, call_of}
use Rattle.wire.specs.Answers as answers

-- a number that a case has, and one that none has
pub known_number : {K : Type 0} (number : K → ℕ) (known : Bool) (n : ℕ) (k : K) → Some (number k) ≡ cond known (Some n) None → number k ≡ n
known_number number known n k e = sym (cond_some known n (number k) (sym e)).1

unknown_number : (known : Bool) (n : ℕ) → None ≡ cond known (Some n) None → known ≡ false
unknown_number known n e =
    ⊎_elim (λ (t : known ≡ true). absurd (none-some n (e ∙ cond-true known (Some n) None t))) (λ (t : known ≡ false). t) (cases_Bool known)

pub no_call : (bs : List ℕ) → None ≡ slice_get bs 0 → garbled 0 ≡ call_of bs
unfolding call_of
no_call [] e = refl
no_call (b ∷ bs) e = absurd (none-some b e)

pub unknown_call : (bs : List ℕ) (n : ℕ) → Some n ≡ slice_get bs 0 → None ≡ cond (ltb n 16) (Some n) None → garbled 0 ≡ call_of bs
unfolding call_of
unknown_call bs n f e =
    let h : 16 ≤ n = ltb-false n 16 (unknown_number (ltb n 16) n e) in
    let g : get_or forms n none ≡ none = get_or_past forms n none h in
    let i : get_or bs 0 0 ≡ n = get_or_from_slice_get bs 0 n 0 (sym f) in
    elim (eqb (length bs) 0) as (λ (t : Bool). garbled 0 ≡ or_garbled (cond t (Ok (garbled 0)) (Err (min (length bs) 0)))) [ true ↦ refl | false ↦ ap garbled (omega arith) ]
    ∙ sym (ap (λ (j : ℕ). call_as j bs) i ∙ ap (λ (x : Form). or_garbled (sized (size x bs) bs (built x bs))) g)

pub read_call : (bs : List ℕ) (n k : ℕ) → Some n ≡ slice_get bs 0 → k ≡ n → call_as k bs ≡ call_of bs
unfolding call_of
read_call bs n k f e = ap (λ (i : ℕ). call_as i bs) (e ∙ sym (get_or_from_slice_get bs 0 n 0 (sym f)))

pub no_answer : (bs : List ℕ) → None ≡ slice_get bs 0 → None ≡ answers.answer_of bs
unfolding answers.answer_of field_at value
no_answer [] e = refl
no_answer (b ∷ bs) e = absurd (none-some b e)

pub unknown_answer : (bs : List ℕ) (n : ℕ) → Some n ≡ slice_get bs 0 → None ≡ cond (ltb n 5) (Some n) None → None ≡ answers.answer_of bs
unfolding answers.answer_of
unknown_answer bs n f e =
    let h : 5 ≤ n = ltb-false n 5 (unknown_number (ltb n 5) n e) in
    let i : get_or bs 0 0 ≡ n = get_or_from_slice_get bs 0 n 0 (sym f) in
    sym (ap (λ (j : ℕ). answers.answer_by (get_or answers.kinds j answers.none) bs) i ∙ ap (λ (k : answers.Kind). answers.answer_by k bs) (get_or_past answers.kinds n answers.none h))

pub read_answer : (bs : List ℕ) (n k : ℕ) → Some n ≡ slice_get bs 0 → k ≡ n → answers.answer_as k bs ≡ answers.answer_of bs
unfolding answers.answer_of
read_answer bs n k f e = ap (λ (i : ℕ). answers.answer_as i bs) (e ∙ sym (get_or_from_slice_get bs 0 n 0 (sym f)))
