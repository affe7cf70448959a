-- Numbers beside each other. Definitions only: nothing is assumed.
use Rattle.std.specs.Prelude.{ℕ, List, [], ◌∷◌, ◌++◌, codes, decimal}
use Rattle.std.specs.List.{flat_map}

-- a number behind another
abbrev pub another_number : ℕ → List ℕ
another_number n = codes " " ++ decimal n

-- with spaces between
abbrev pub spaced : List ℕ → List ℕ
spaced [] = []
spaced (n ∷ ns) = decimal n ++ flat_map another_number ns
