-- A text's lines, and which of them are calls. Definitions only: nothing is assumed.
use Rattle.std.specs.Prelude.{ℕ, ◌-◌, Bool, true, cond, List, [], ◌∷◌, ◌++◌, length, take, ◌==◌, slice_index}
use Rattle.std.specs.List.{flat_map}
use Rattle.words.specs.Words.{trimmed}

-- what stands between line feeds, after the line so far
abbrev pub lines_after : List ℕ → List ℕ → List (List ℕ)
lines_after l [] = l ∷ []
lines_after l (c ∷ cs) = cond (c == 10) (l ∷ lines_after [] cs) (lines_after (l ++ c ∷ []) cs)

abbrev pub lines : List ℕ → List (List ℕ)
lines text = lines_after [] text

-- a line without the one carriage return at its end
abbrev pub bare : List ℕ → List ℕ
bare line = cond (slice_index line (length line - 1) == 13) (take (length line - 1) line) line

-- nothing, or a remark: it begins with '#'
abbrev pub silent : List ℕ → Bool
silent [] = true
silent (c ∷ cs) = c == 35

abbrev pub quiet : List ℕ → Bool
quiet line = silent (trimmed line)

-- the lines that are answered: those that are neither blank nor a remark
abbrev pub heard : List ℕ → List (List ℕ)
heard line = cond (quiet (bare line)) [] (bare line ∷ [])

abbrev pub lines_of_calls : List ℕ → List (List ℕ)
lines_of_calls text = flat_map heard (lines text)
