-- A text whose last line was not finished. Definitions only: nothing is assumed.
use Rattle.std.specs.Prelude.{◌≡◌, ℕ, ◌≢◌, ◌⊎◌, List, [], ◌∷◌, ◌++◌}

-- nothing, or lines that are all ended
abbrev pub Whole : List ℕ → Type 0
Whole text = (text ≡ []) ⊎ ((front : List ℕ) × (text ≡ front ++ 10 ∷ []))

-- no line feed
abbrev pub Feedless : List ℕ → Type 0
Feedless [] = Unit {0}
Feedless (c ∷ cs) = (c ≢ 10) × Feedless cs

-- the finished lines of a text, which are whole; in what stands behind them no line is ended
abbrev pub Finished : List ℕ → List ℕ → Type 0
Finished text lines = (torn : List ℕ) × (text ≡ lines ++ torn) × Whole lines × Feedless torn
