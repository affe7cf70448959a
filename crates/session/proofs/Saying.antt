-- An answer that has room is written. Assumes nothing.
use Rattle.std.proofs.Common.{◌≡◌, ℕ, ◌≤◌, Bool, true, false, List, length, Some, None, Option, sym, refl, ap, ◌∙◌, arith}
use Rattle.std.specs.Option.{unwrap_or}
use Rattle.fields.specs.Written.{Written, wrote, written, over}
use Rattle.fields.proofs.Rows.{fits}
use Rattle.firm.specs.Calls.{Answer}
use Rattle.rules.specs.Checks.{if}
use Rattle.wire.specs.Answers.{bytes_of_answer}
use Rattle.session.specs.Calling.{Said, taken}

pub said_by : (a : Answer) (r : Option ℕ) (n : ℕ) (old now : List ℕ) → length (bytes_of_answer a) ≤ length old → wrote r now ≡ written (bytes_of_answer a) old → n ≡ taken r → Said a n old now
said_by a r n old now room e t =
    let w : wrote r now ≡ wrote (Some (length (bytes_of_answer a))) (over (bytes_of_answer a) old) =
    e ∙ sym (fits (bytes_of_answer a) old (over (bytes_of_answer a) old) (length (bytes_of_answer a)) refl room refl) in
    let is : n ≡ length (bytes_of_answer a) = t ∙ ap (λ (x : Written). taken x.count) w in
    record { long = is; fits = omega arith; bytes = ap (λ (x : Written). x.left) w }

-- so is one of which the length is known, if it was written
pub taken_is : (r : Option ℕ) → unwrap_or r 0 ≡ taken r
taken_is None = refl
taken_is (Some n) = refl

-- what a check hands on is what it was given, and it holds
pub some_item : (b : Bool) (n m : ℕ) → Some m ≡ if b n → (b ≡ true) × (m ≡ n)
some_item true n m e = (refl, cc)
some_item false n m e = let z : ◌≡◌ {A = ℕ} 0 1 = cc in absurd (omega arith)
