use Rattle.std.proofs.Common.{◌≡◌, ◌^◌, ◌<◌, drop}
use Rattle.std.specs.Str.{all_ascii_digits}
use Rattle.words.specs.Numerals.{value_after}
use Rattle.words.proofs.numerals.value.Given as goal

abbrev pub invariant-loop-byte : goal.invariant-loop-byte
invariant-loop-byte l = record {
  digits : all_ascii_digits (drop l.byte-index l.word) ≡ all_ascii_digits l.word;
  value : value_after l.n (drop l.byte-index l.word) ≡ value_after 0 l.word;
  small : l.n < 2 ^ 64;
}
