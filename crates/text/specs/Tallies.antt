-- How many calls were taken and turned away, by what they were answered. Definitions only: nothing is assumed.
use Rattle.std.specs.Prelude.{ℕ, ◌+◌, ◌-◌, ◌%◌, ◌^◌, min, cond, List, [], ◌∷◌, length, Some, None, Option, replicate, ◌==◌, slice_index, slice_set}
use Rattle.firm.specs.Calls.{Answer, refused, number, two, lots, entries}
use Rattle.text.specs.declared.tally.Tally.{Tally}

abbrev pub no_tally : Tally
no_tally = record { taken = 0; turned = 0; by = replicate 10 0 }

-- one more; a count stops at the largest number, which no text has lines for
abbrev pub one_more : ℕ → ℕ
one_more n = min (2 ^ 64 - 1) (n + 1)

abbrev pub with_taken : Tally → Tally
with_taken t = record { taken = one_more t.taken; turned = t.turned; by = t.by }

abbrev pub with_refused : ℕ → Tally → Tally
with_refused n t = record { taken = t.taken; turned = one_more t.turned; by = slice_set t.by n (one_more (slice_index t.by n)) }

-- a list is an answer where its lines are whole
abbrev pub with_lines : List ℕ → Tally → Tally
with_lines bs t = cond (length bs % 32 == 0) (with_taken t) t

abbrev pub noted : Tally → Answer → Tally
noted t (refused n k) = with_refused n t
noted t (number n) = with_taken t
noted t (two a b) = with_taken t
noted t (lots ls) = with_taken t
noted t (entries es) = with_taken t

-- what is no answer counts for nothing
abbrev pub noted_if : Option Answer → Tally → Tally
noted_if None t = t
noted_if (Some a) t = noted t a

-- one answer after the other
abbrev pub tallied : Tally → List Answer → Tally
tallied t [] = t
tallied t (a ∷ told) = tallied (noted t a) told
