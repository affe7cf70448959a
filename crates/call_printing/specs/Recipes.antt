-- The line of a recipe whose parts are bytes. Definitions only: nothing is assumed.
use Rattle.std.specs.Prelude.{ℕ, cond, List, [], ◌++◌, codes, decimal}
use Rattle.wire.specs.Said.{are_parts, parts_in}
use Rattle.call_lines.specs.Written.{written_parts}

-- nothing where the bytes are no parts
abbrev pub recipe_line : ℕ → List ℕ → List ℕ
recipe_line i bs = cond (are_parts bs) (codes "made of " ++ (decimal i ++ (codes ":" ++ written_parts (parts_in bs)))) []
