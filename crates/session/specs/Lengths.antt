-- How long answers are. Assumes nothing.
use Rattle.std.proofs.Common.{◌≡◌, ℕ, suc, ◌+◌, ◌*◌, ◌≤◌, [], ◌∷◌, List, length, Ok, Err, Result, ap, ◌∙◌, arith, length-append}
use Rattle.std.specs.List.{flat_map}
use Rattle.fields.proofs.Numbers.{length_fields}
use Rattle.firm.specs.Stock.{Lot}
use Rattle.firm.specs.Calls.{Answer, refused, number, two, lots}
use Rattle.rules.specs.Outcome.{refusing, told_by}
use Rattle.rules.specs.declared.refused.Refused.{Refused}
use Rattle.wire.specs.Answers.{list_head, bytes_of_answer}
use Rattle.wire.specs.Rows.{lot_bytes}
use Rattle.wire.specs.Told.{refusal_number}
use Rattle.wire.proofs.ReadBack.{length_joined, length_lot}

pub refused_long : (n p : ℕ) → length (bytes_of_answer (refused n p)) ≡ 17
refused_long n p = ap suc (length_fields (n ∷ (p ∷ [])))

pub number_long : (n : ℕ) → length (bytes_of_answer (number n)) ≡ 9
number_long n = ap suc (length_fields (n ∷ []))

pub two_long : (a b : ℕ) → length (bytes_of_answer (two a b)) ≡ 17
two_long a b = ap suc (length_fields (a ∷ (b ∷ [])))

pub lots_long : (ls : List Lot) → length (bytes_of_answer (lots ls)) ≡ 9 + 32 * length ls
lots_long ls =
    length-append (list_head 3 (length ls)) (flat_map lot_bytes ls) ∙ omega (arith, length_fields (length ls ∷ []), length_joined lot_bytes 32 length_lot ls)

-- those that are no list are short
pub refusing_short : (r : Refused) → length (bytes_of_answer (refusing r)) ≤ 17
refusing_short r = omega (arith, refused_long (refusal_number r.by) r.place)

pub number_short : (n : ℕ) → length (bytes_of_answer (number n)) ≤ 17
number_short n = omega (arith, number_long n)

pub two_short : (a b : ℕ) → length (bytes_of_answer (two a b)) ≤ 17
two_short a b = omega (arith, two_long a b)

pub told_short : {A : Type 0} (told : A → Answer) → ((x : A) → length (bytes_of_answer (told x)) ≤ 17) → (r : Result A Refused) → length (bytes_of_answer (told_by told r)) ≤ 17
told_short told short (Ok x) = short x
told_short told short (Err r) = refusing_short r
