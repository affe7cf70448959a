-- Why a call is turned away, in words. Definitions only: nothing is assumed.
use Rattle.std.specs.Prelude.{ℕ, List, ◌++◌, codes, decimal}
use Rattle.wire.specs.Refusals.{refusal_text}
use Rattle.rules.specs.declared.refused.Refused.{Refused}

abbrev pub refused_text : Refused → List ℕ
refused_text r = refusal_text r.by ++ (codes ", at " ++ decimal r.place)
