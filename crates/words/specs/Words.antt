-- A line's blanks, words and marks. Definitions only: nothing is assumed.
use Rattle.std.specs.Prelude.{ℕ, Bool, cond, ◌||◌, List, [], ◌∷◌, ◌==◌}

-- a space or a tab
abbrev pub blank : ℕ → Bool
blank c = c == 32 || c == 9

-- what ends a word: a blank, or a colon or a comma, which are words of their own
abbrev pub gap : ℕ → Bool
gap c = blank c || (c == 58 || c == 44)

-- what is left after the blanks in front
abbrev pub trimmed : List ℕ → List ℕ
trimmed [] = []
trimmed (c ∷ cs) = cond (blank c) (trimmed cs) (c ∷ cs)

-- the word in front, and what comes after it
abbrev pub word : List ℕ → List ℕ
word [] = []
word (c ∷ cs) = cond (gap c) [] (c ∷ word cs)

abbrev pub past : List ℕ → List ℕ
past [] = []
past (c ∷ cs) = cond (gap c) (c ∷ cs) (past cs)
