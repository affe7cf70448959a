-- Which words are numbers. Definitions only: nothing is assumed.
use Rattle.std.specs.Prelude.{ℕ, ◌+◌, ◌-◌, ◌*◌, ◌^◌, Bool, cond, ◌&&◌, List, [], ◌∷◌, length, Some, None, Option, nat_lt}
use Rattle.std.specs.Str.{all_ascii_digits}

-- the number that decimal digits write, after the number so far
abbrev pub value_after : ℕ → List ℕ → ℕ
value_after n [] = n
value_after n (c ∷ cs) = value_after (10 * n + (c - 48)) cs

-- some digits, and nothing else, that write a number below 2 ^ 64
abbrev pub numeral : List ℕ → Bool
numeral w = all_ascii_digits w && (nat_lt 0 (length w) && nat_lt (value_after 0 w) (2 ^ 64))

-- the number that a word writes, if it writes one
abbrev pub valued : List ℕ → Option ℕ
valued w = cond (numeral w) (Some (value_after 0 w)) None
