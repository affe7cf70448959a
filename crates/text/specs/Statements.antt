-- What holds of texts and tallies. Each is a theorem that the contract of a function in src/laws.rt names. Definitions only: nothing is assumed.
use Rattle.std.specs.Prelude.{◌≡◌, ℕ, ◌+◌, ◌-◌, ◌^◌, ◌<◌, min, Bool, true, false, cond, List, [], ◌∷◌, ◌++◌, ◌==◌, slice_index}
use Rattle.firm.specs.Answers.{answers, ran}
use Rattle.firm.specs.Calls.{Call, Answer, refused, number, two, lots, entries, Limits}
use Rattle.firm.specs.Firm.{Firm}
use Rattle.text.specs.Run.{calls}
use Rattle.text.specs.Tallies.{no_tally, tallied}

-- LINE BY LINE: what stands before a line feed and what stands behind it have the calls of the whole, and calls are answered one after another as they
-- are together. So a text that comes in lines is answered as it would be whole
pub record LineByLine : Type 0 where
  pub calls_add : (a b : List ℕ) → calls (a ++ 10 ∷ b) ≡ calls a ++ calls b
  pub answers_add : (l : Limits) (f : Firm) (cs ds : List Call) → answers l f (cs ++ ds) ≡ answers l f cs ++ answers l (ran l f cs) ds
  pub firms_add : (l : Limits) (f : Firm) (cs ds : List Call) → ran l f (cs ++ ds) ≡ ran l (ran l f cs) ds

-- whether an answer is no refusal, and whether it is the refusal n
abbrev pub taken : Answer → Bool
taken (refused n k) = false
taken (number n) = true
taken (two a b) = true
taken (lots ls) = true
taken (entries es) = true

abbrev pub refused_by : ℕ → Answer → Bool
refused_by m (refused n k) = n == m
refused_by m (number n) = false
refused_by m (two a b) = false
refused_by m (lots ls) = false
refused_by m (entries es) = false

-- how many answers pass a test; a count stops at the largest number
abbrev pub count_if : (Answer → Bool) → List Answer → ℕ
count_if test [] = 0
count_if test (a ∷ told) = cond (test a) 1 0 + count_if test told

abbrev pub capped : ℕ → ℕ
capped n = min (2 ^ 64 - 1) n

-- THE TALLY COUNTS the answers that are no refusals, those that are, and those by each refusal
pub record TallyCounts : Type 0 where
  pub takes : (told : List Answer) → (tallied no_tally told).taken ≡ capped (count_if taken told)
  pub turns : (told : List Answer) → (tallied no_tally told).turned ≡ capped (count_if (λ a. cond (taken a) false true) told)
  pub by_each : (told : List Answer) (n : ℕ) → n < 10 → slice_index (tallied no_tally told).by n ≡ capped (count_if (refused_by n) told)
