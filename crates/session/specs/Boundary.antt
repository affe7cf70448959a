-- What crosses the boundary to other languages: limits as a list of numbers, and one signed number as the result. Definitions only: nothing is assumed.
use Rattle.std.specs.Prelude.{ℕ, ◌+◌, ◌-◌, ◌*◌, ◌^◌, Bool, cond, ◌&&◌, List, length, ℤ, pos, negsuc, Some, None, Option, nat_le, slice_index}
use Rattle.layout.specs.Layout.{is_good}
use Rattle.layout.specs.declared.limits.Limits.{Limits}
use Rattle.memory.specs.Books.{limits_in}

-- limits that books may be opened with, in a list of items, orders, lots, parts and entries that has no more than there are kinds of limits; a
-- shorter one means 0 for the rest
abbrev pub in_range : List ℕ → Bool
in_range ws = nat_le (length ws) 5 && is_good (limits_in ws)

-- the k-th of them, if it is at most so much
abbrev pub limit_at : List ℕ → ℕ → ℕ → Option ℕ
limit_at ws k most = cond (nat_le (slice_index ws k) most) (Some (slice_index ws k)) None

abbrev pub limits_read : List ℕ → Option Limits
limits_read ws = cond (in_range ws) (Some (limits_in ws)) None

-- a refusal as a signed number: -(refusal * 2^32 + place)
abbrev pub minus : ℕ → ℕ → ℤ
minus refusal place = negsuc (refusal * 2 ^ 32 + place - 1)

-- how many the limits ask for, or the refusal of limits out of range
abbrev pub asked : (Limits → ℕ) → Option Limits → ℤ
asked need (Some l) = pos (need l)
asked need None = minus 3 1
