-- Numbers that stand for the cases of an enum. Definitions only: nothing is assumed.
use Rattle.std.specs.Prelude.{◌≡◌, ℕ, Bool, cond, Some, None, Result}
use Rattle.std.specs.Option.{option_map}
use Rattle.std.specs.Result.{result_ok}

-- the result is the case with this number, if there is one
abbrev pub Numbered : {K E : Type 0} → (K → ℕ) → Bool → ℕ → Result K E → Type 0
Numbered number known n r = option_map number (result_ok r) ≡ cond known (Some n) None
