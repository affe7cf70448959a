use Rattle.std.proofs.Common.{◌≡◌, ◌-◌, length, take}
use Rattle.call_lines.specs.Numbers.{numbers}
use Rattle.call_lines.proofs.NumberSteps.{behind}
use Rattle.call_lines.proofs.numbers.read_numbers.Given as goal

abbrev pub invariant-loop-number : goal.invariant-loop-number
invariant-loop-number g l = record {
  many : length l.number-items ≡ g.row.N;
  read : behind (take l.number-index l.number-items) (numbers (g.row.N - l.number-index) l.rest) ≡ numbers g.row.N l.line;
}
