-- READERS: each takes what is left of a line, and gives what it read and what is left then, or else what is left from the word that does not
-- fit on: nothing, where a word is missing. Definitions only: nothing is assumed.
use Rattle.std.specs.Prelude.{ℕ, cond, List, [], ◌∷◌, Some, None, Ok, Err, Option, Result, ◌==◌}
use Rattle.std.specs.Str.{bytes_eq}
use Rattle.words.specs.Words.{trimmed, word, past}
use Rattle.words.specs.Numerals.{valued}

abbrev pub Read : Type 0 → Type 0
Read X = Result X (List ℕ)

-- one reader after another
abbrev pub then : {X Y : Type 0} → Read X → (X → Read Y) → Read Y
then (Ok x) f = f x
then (Err e) f = Err e

-- a number
abbrev pub number_at : Option ℕ → List ℕ → Read (ℕ × List ℕ)
number_at (Some n) s = Ok (n, past s)
number_at None s = Err s

unfoldable pub number : List ℕ → Read (ℕ × List ℕ)
number s = number_at (valued (word (trimmed s))) (trimmed s)

-- a given word
abbrev pub keyword_at : List ℕ → List ℕ → Read (List ℕ)
keyword_at w s = cond (bytes_eq (word s) w) (Ok (past s)) (Err s)

unfoldable pub keyword : List ℕ → List ℕ → Read (List ℕ)
keyword w s = keyword_at w (trimmed s)

-- a given mark
abbrev pub mark_at : ℕ → List ℕ → Read (List ℕ)
mark_at m [] = Err []
mark_at m (c ∷ cs) = cond (c == m) (Ok cs) (Err (c ∷ cs))

unfoldable pub mark : ℕ → List ℕ → Read (List ℕ)
mark m s = mark_at m (trimmed s)

-- the line's end
abbrev pub end_at : List ℕ → Read (Unit {0})
end_at [] = Ok tt
end_at (c ∷ cs) = Err (c ∷ cs)

unfoldable pub end : List ℕ → Read (Unit {0})
end s = end_at (trimmed s)
