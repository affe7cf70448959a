-- The promises of a keeper from its steps: by induction over the calls. Assumes nothing.
use Rattle.std.proofs.Common.{◌≡◌, true, List, [], ◌∷◌, ◌++◌, refl, ap₂}
use Rattle.std.proofs.lemmas.Bool.{and_parts, and_from}
use Rattle.firm.specs.Firm.{Firm, new_firm}
use Rattle.firm.specs.Calls.{Call, Limits, readable, all_readable}
use Rattle.firm.specs.Answers.{after, answers, ran}
use Rattle.firm.specs.Promise.{Memory, Keeper, told_by, left_by, Right, RefusalKeeps, EnoughMemory}
use Rattle.firm.specs.Keeping.{Steps, RightBySteps, RefusalKeepsBySteps, EnoughMemoryBySteps}

module _ (k : Keeper) (l : Limits) (Stands : Memory → Firm → Type 0) (s : Steps k l Stands) where
  told_right : (cs : List Call) (m : Memory) (f : Firm) → all_readable cs ≡ true → Stands m f → told_by k m cs ≡ answers l f cs
  unfolding told_by answers all_readable
  told_right [] m f h r = refl
  told_right (c ∷ cs) m f h r =
      let p = and_parts (readable c) (all_readable cs) h in
      ap₂ (λ a as'. a ∷ as') (s.answering m f c p.0 r) (told_right cs (k.next m c) (after l f c) p.1 (s.going_on m f c p.0 r))

  pub left_right : (cs : List Call) (m : Memory) (f : Firm) → all_readable cs ≡ true → Stands m f → Stands (left_by k m cs) (ran l f cs)
  unfolding left_by ran all_readable
  left_right [] m f h r = r
  left_right (c ∷ cs) m f h r =
      let p = and_parts (readable c) (all_readable cs) h in
      left_right cs (k.next m c) (after l f c) p.1 (s.going_on m f c p.0 r)

-- the calls before, and the last
readable_parts_of : (cs : List Call) (c : Call) → all_readable (cs ++ (c ∷ [])) ≡ true → (all_readable cs ≡ true) × (readable c ≡ true)
unfolding all_readable
readable_parts_of [] c h = (refl, (and_parts (readable c) true h).0)
readable_parts_of (d ∷ cs) c h =
    let p = and_parts (readable d) (all_readable (cs ++ (c ∷ []))) h in
    let r = readable_parts_of cs c p.1 in
    (and_from (readable d) (all_readable cs) p.0 r.0, r.1)

pub right_by_steps : RightBySteps
unfolding Right
right_by_steps k Stands can steps l cs g e h = let s = steps l g e in told_right k l (Stands l) s cs (k.opened l) new_firm h s.opens

pub refusal_keeps_by_steps : RefusalKeepsBySteps
unfolding RefusalKeeps
refusal_keeps_by_steps k Stands can steps stays l cs c g e h t =
    let s = steps l g e in
    let p = readable_parts_of cs c h in
    stays l (left_by k (k.opened l) cs) (ran l new_firm cs) c g p.1 (left_right k l (Stands l) s cs (k.opened l) new_firm p.0 s.opens) t

-- an invariant of memory is kept by every list of calls, also by calls that the stage cannot do
sound_left : (k : Keeper) (Sound : Memory → Type 0) → ((m : Memory) (c : Call) → readable c ≡ true → Sound m → Sound (k.next m c)) →
    (cs : List Call) (m : Memory) → all_readable cs ≡ true → Sound m → Sound (left_by k m cs)
unfolding left_by all_readable
sound_left k Sound kept [] m h s = s
sound_left k Sound kept (c ∷ cs) m h s =
    let p = and_parts (readable c) (all_readable cs) h in
    sound_left k Sound kept cs (k.next m c) p.1 (kept m c p.0 s)

pub enough_memory_by_steps : EnoughMemoryBySteps
unfolding EnoughMemory
enough_memory_by_steps k Sound sound within l cs g h =
    within l (left_by k (k.opened l) cs) g (sound_left k (Sound l) (λ m c. sound.going_on l m c g) cs (k.opened l) h (sound.opens l g))
