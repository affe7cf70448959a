-- What holds of the lines of a journal. Each is a theorem that the contract of a function in src/laws.rt names. Definitions only: nothing is assumed.
use Rattle.std.specs.Prelude.{◌≡◌, ℕ, ◌^◌, ◌<◌, List, ◌++◌, Some}
use Rattle.firm.specs.Calls.{Call}
use Rattle.layout.specs.declared.limits.Limits.{Limits}
use Rattle.text.specs.Run.{calls}
use Rattle.journal.specs.Documents.{document_lines}
use Rattle.journal.specs.FirstLine.{first_line, limits_in}
use Rattle.journal.specs.Keeping.{AllSendable}

-- reading the lines of some calls gives the calls again
abbrev pub LinesComeBack : Type 0
LinesComeBack = (cs : List Call) → AllSendable cs → calls (document_lines cs) ≡ cs

-- numbers of 32 bits
abbrev pub Small : Limits → Type 0
Small l = (l.items < 2 ^ 32) × (l.orders < 2 ^ 32) × (l.lots < 2 ^ 32) × (l.parts < 2 ^ 32) × (l.entries < 2 ^ 32)

-- a text that begins with the first line of some limits names these, whatever stands behind it
abbrev pub FirstLineComesBack : Type 0
FirstLineComesBack = (l : Limits) (rest : List ℕ) → Small l → limits_in (first_line l ++ rest) ≡ Some l
