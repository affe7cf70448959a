-- Why books do not start again, in words. Definitions only: nothing is assumed.
use Rattle.std.specs.Prelude.{ℕ, List, ◌++◌, codes, decimal}
use Rattle.session.specs.Held.{failure_text}
use Rattle.wire.specs.Refusals.{refusal_text}
use Rattle.wire.specs.Told.{refusal_number}
use Rattle.journal.specs.declared.error.ReplayError.{ReplayError}
use Rattle.journal.specs.declared.error.ReplayError.TheVariants.{Turned, Run}

abbrev pub error_text : ReplayError → List ℕ
error_text (Turned n r p) =
    codes "line " ++ (decimal n ++ (codes ": refused " ++ (decimal (refusal_number r) ++ (codes " at " ++ (decimal p ++ (codes ": " ++ refusal_text r))))))
error_text (Run e) = failure_text e
