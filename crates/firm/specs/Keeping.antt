-- From one call to every list of calls: a keeper whose memory stands for the books call by call keeps all three promises. `Stands l m f` is the
-- keeper's own: what the words of m say of the firm f. Definitions only: nothing is assumed.
use Rattle.std.specs.Prelude.{◌≡◌, ℕ, ◌+◌, ◌*◌, ◌<◌, ◌≤◌, Bool, true, length}
use Rattle.firm.specs.Firm.{Firm, new_firm}
use Rattle.firm.specs.Calls.{Call, Limits, readable}
use Rattle.firm.specs.Refusals.{turned}
use Rattle.firm.specs.Answers.{after, answer}
use Rattle.firm.specs.Promise.{GoodLimits, Memory, Keeper, Right, RefusalKeeps, all_below, EnoughMemory}

-- what is owed of opening and of one call
pub record Steps (k : Keeper) (l : Limits) (Stands : Memory → Firm → Type 0) : Type 0 where
  pub opens : Stands (k.opened l) new_firm
  pub answering : (m : Memory) (f : Firm) (c : Call) → readable c ≡ true → Stands m f → k.says m c ≡ answer l f c
  pub going_on : (m : Memory) (f : Firm) (c : Call) → readable c ≡ true → Stands m f → Stands (k.next m c) (after l f c)

-- its steps at all good limits of a stage
abbrev pub AllSteps : (ℕ → Bool) → Keeper → (Limits → Memory → Firm → Type 0) → Type 0
AllSteps can k Stands = (l : Limits) → GoodLimits l → l.calls_can ≡ can → Steps k l (Stands l)

-- a call that is turned away leaves memory that stands for books as it was
abbrev pub Stays : Keeper → (Limits → Memory → Firm → Type 0) → Type 0
Stays k Stands =
    (l : Limits) (m : Memory) (f : Firm) (c : Call) → GoodLimits l → readable c ≡ true → Stands l m f → 0 < turned l f c → k.next m c ≡ m

-- memory of which an invariant holds is small enough
abbrev pub Within : (Limits → Memory → Type 0) → Type 0
Within Sound =
    (l : Limits) (m : Memory) → GoodLimits l → Sound l m →
    (length m.words ≤ 8 * (l.items + l.orders + l.lots + l.parts + l.entries) + 2048) × (all_below 18446744073709551616 m.words ≡ true)

-- an invariant of memory alone, whatever is called
pub record KeepsSound (k : Keeper) (Sound : Limits → Memory → Type 0) : Type 0 where
  pub opens : (l : Limits) → GoodLimits l → Sound l (k.opened l)
  pub going_on : (l : Limits) (m : Memory) (c : Call) → GoodLimits l → readable c ≡ true → Sound l m → Sound l (k.next m c)

-- the three promises, each from what is owed of one call
abbrev pub RightBySteps : Type 1
RightBySteps = (k : Keeper) (Stands : Limits → Memory → Firm → Type 0) (can : ℕ → Bool) → AllSteps can k Stands → Right can k

abbrev pub RefusalKeepsBySteps : Type 1
RefusalKeepsBySteps =
    (k : Keeper) (Stands : Limits → Memory → Firm → Type 0) (can : ℕ → Bool) → AllSteps can k Stands → Stays k Stands → RefusalKeeps can k

abbrev pub EnoughMemoryBySteps : Type 1
EnoughMemoryBySteps = (k : Keeper) (Sound : Limits → Memory → Type 0) → KeepsSound k Sound → Within Sound → EnoughMemory k
