-- What is owed of a program that keeps the books: statements about any keeper, proved for the one that runs where its contracts name them.
-- Definitions only: nothing is assumed.
use Rattle.std.specs.Prelude.{◌≡◌, ℕ, ◌+◌, ◌*◌, ◌<◌, ◌≤◌, Bool, true, ◌&&◌, List, [], ◌∷◌, ◌++◌, length, nat_lt}
use Rattle.firm.specs.Firm.{new_firm}
use Rattle.firm.specs.Calls.{Call, Answer, Limits, all_readable}
use Rattle.firm.specs.Refusals.{turned}
use Rattle.firm.specs.Answers.{answers, ran}

-- limits that books may be opened with; 0 is a good limit
abbrev pub GoodLimits : Limits → Type 0
GoodLimits l = (l.items ≤ 4096) × (l.orders ≤ 65536) × (l.lots ≤ 65536) × (l.parts ≤ 65536) × (l.entries ≤ 1000000)

-- A KEEPER is what a program's contracts say of its memory, a list of words: what opening leaves, what a call leaves, and what it answers
pub record Memory : Type 0 where
  pub words : List ℕ

pub record Keeper : Type 0 where
  pub opened : Limits → Memory
  pub next : Memory → Call → Memory
  pub says : Memory → Call → Answer

-- what a keeper answers to a list of calls, and the memory that it leaves
unfoldable pub told_by : Keeper → Memory → List Call → List Answer
told_by k m [] = []
told_by k m (c ∷ cs) = k.says m c ∷ told_by k (k.next m c) cs

unfoldable pub left_by : Keeper → Memory → List Call → Memory
left_by k m [] = m
left_by k m (c ∷ cs) = left_by k (k.next m c) cs

-- THE MAIN PROMISE: for every list of calls the answers are those of the meaning, which goes through everything each time. What is kept to be
-- quick, sums and rows of lots by age, has no part in what is meant
unfoldable pub Right : (ℕ → Bool) → Keeper → Type 0
Right can k = (l : Limits) (cs : List Call) → GoodLimits l → l.calls_can ≡ can → all_readable cs ≡ true → told_by k (k.opened l) cs ≡ answers l new_firm cs

-- a call that is turned away leaves memory as it was, word for word
unfoldable pub RefusalKeeps : (ℕ → Bool) → Keeper → Type 0
RefusalKeeps can k =
    (l : Limits) (cs : List Call) (c : Call) → GoodLimits l → l.calls_can ≡ can → all_readable (cs ++ (c ∷ [])) ≡ true → 0 < turned l (ran l new_firm cs) c →
    k.next (left_by k (k.opened l) cs) c ≡ left_by k (k.opened l) cs

unfoldable pub all_below : ℕ → List ℕ → Bool
all_below b [] = true
all_below b (x ∷ xs) = nat_lt x b && all_below b xs

-- eight words of 64 bits for each unit of the limits, and 2,048 more, hold everything, whatever is called
unfoldable pub EnoughMemory : Keeper → Type 0
EnoughMemory k =
    (l : Limits) (cs : List Call) → GoodLimits l → all_readable cs ≡ true →
    (length (left_by k (k.opened l) cs).words ≤ 8 * (l.items + l.orders + l.lots + l.parts + l.entries) + 2048)
    × (all_below 18446744073709551616 (left_by k (k.opened l) cs).words ≡ true)

-- which calls a stage can do: the whole stage can do every call
abbrev pub whole : ℕ → Bool
whole k = true
