-- The loop that takes what is wanted and counts it off: what is left to do gives the whole. Assumes nothing.
use Rattle.std.proofs.Common.{◌≡◌, ℕ, ◌+◌, ◌-◌, ◌^◌, ◌<◌, ◌≤◌, List, [], ◌∷◌, ◌++◌, length, get_or, drop, sym, refl, ap, ◌∙◌, ap₂, arith, length-append}
use Rattle.std.proofs.lemmas.List.{drop_all, drop_more}
use Rattle.layout.specs.declared.limits.Limits.{Limits}
use Rattle.records.specs.State.{State}
use Rattle.taking.specs.Laws.{CountedFew}
use Rattle.taking.specs.Takes.{want, Taking, taking, want_taken, most_lines, costs_more, off, counted_each, take_counted, Tally, tally, nothing_taken, tallied}
use Rattle.taking.specs.declared.wants.Want.{Want}
use Rattle.taking.proofs.Loops.{tallied_append, tallied_lines, RowDone}
use Rattle.taking.proofs.Tallies.{tallied_cost}
use Rattle.taking.proofs.Turns.{on_few}

-- from the j-th on
pub record OffSoFar (l : Limits) (ws : List Want) (s₀ : State) (y₀ : Tally) (j : ℕ) (s : State) (y : Tally) : Type 0 where
  pub few : y.taken.lines ≤ most_lines l
  pub small : y.taken.cost < 2 ^ 64
  pub slices : (counted_each (drop j ws) l y.taken.lines y.taken.cost s).slices ≡ (take_counted l ws s₀).slices
  pub parts : tallied (counted_each (drop j ws) l y.taken.lines y.taken.cost s).parts y ≡ tallied (take_counted l ws s₀).parts y₀

module _ (l : Limits) (ws : List Want) (s₀ : State) (y₀ : Tally) where
  -- what the j-th want leaves to the others
  abbrev offs_left : ℕ → ℕ → ℕ → State → Taking
  offs_left j n x s = counted_each (drop j ws) l n x s

  pub off_turn : (j : ℕ) (s : State) (y : Tally) (t : State) (z : Tally) (v : State) → OffSoFar l ws s₀ y₀ j s y → j < length ws →
      RowDone l (get_or ws j (want 0 0)).item (get_or ws j (want 0 0)).pieces s y t z → v ≡ off l (get_or ws j (want 0 0)) (z.taken.cost - y.taken.cost) t → OffSoFar l ws s₀ y₀ (j + 1) v z
  off_turn j s y t z v h lt done is =
      let w : Want = get_or ws j (want 0 0) in
      let n : ℕ = y.taken.lines in
      let x : ℕ = y.taken.cost in
      let r : Taking = want_taken l n w s in
      let x' : ℕ = costs_more x r.parts in
      let few : n + length r.parts ≤ most_lines l = omega (arith, h.few, on_few (most_lines l - n) l w.item w.pieces s) in
      let lines : z.taken.lines ≡ n + length r.parts = ap (λ (u : Tally). u.taken.lines) done.told ∙ tallied_lines r.parts y (omega arith) in
      let cost : z.taken.cost ≡ x' = ap (λ (u : Tally). u.taken.cost) done.told ∙ tallied_cost r.parts y h.small in
      let left : v ≡ off l w (x' - x) r.slices = is ∙ ap₂ (λ (c : ℕ) (u : State). off l w (c - x) u) cost done.slices in
      let u : Taking = offs_left (j + 1) (n + length r.parts) x' (off l w (x' - x) r.slices) in
      let same : offs_left (j + 1) z.taken.lines z.taken.cost v ≡ u =
      ap₂ (λ (m c : ℕ). offs_left (j + 1) m c v) lines cost ∙ ap (offs_left (j + 1) (n + length r.parts) x') left in
      let all : offs_left j n x s ≡ taking u.slices (r.parts ++ u.parts) = ap (λ (xs : List Want). counted_each xs l n x s) (drop_more ws j (want 0 0) lt) in
      record {
        few = omega arith;
        small = omega (arith, cost);
        slices = ap (λ (a : Taking). a.slices) same ∙ ap (λ (a : Taking). a.slices) (sym all) ∙ h.slices;
        parts = ap (λ (a : Taking). tallied a.parts z) same ∙ ap (tallied u.parts) done.told ∙ sym (tallied_append r.parts u.parts y)
            ∙ ap (λ (a : Taking). tallied a.parts y) (sym all) ∙ h.parts;
      }

  pub record OffDone (s : State) (y : Tally) : Type 0 where
    pub slices : s ≡ (take_counted l ws s₀).slices
    pub told : y ≡ tallied (take_counted l ws s₀).parts y₀

  pub off_end : (j : ℕ) (s : State) (y : Tally) → OffSoFar l ws s₀ y₀ j s y → length ws ≤ j → OffDone s y
  off_end j s y h le =
      let none : offs_left j y.taken.lines y.taken.cost s ≡ taking s [] = ap (λ (xs : List Want). counted_each xs l y.taken.lines y.taken.cost s) (drop_all j ws le) in
      record { slices = ap (λ (x : Taking). x.slices) (sym none) ∙ h.slices; told = ap (λ (x : Taking). tallied x.parts y) (sym none) ∙ h.parts }

pub off_begin : (l : Limits) (ws : List Want) (s : State) (old : List ℕ) → OffSoFar l ws s (tally old nothing_taken) 0 s (tally old nothing_taken)
unfolding take_counted
off_begin l ws s old = record { few = omega arith; small = omega arith; slices = refl; parts = refl }

-- no more parts than an answer has room for
each_off_few : (ws : List Want) (l : Limits) (n x : ℕ) (s : State) → n ≤ most_lines l → n + length (counted_each ws l n x s).parts ≤ most_lines l
each_off_few [] l n x s le = omega arith
each_off_few (w ∷ ws) l n x s le =
    let t : Taking = want_taken l n w s in
    let y : ℕ = costs_more x t.parts in
    let u : State = off l w (y - x) t.slices in
    omega (
      arith,
      on_few (most_lines l - n) l w.item w.pieces s,
      each_off_few ws l (n + length t.parts) y u (omega (arith, on_few (most_lines l - n) l w.item w.pieces s)),
      length-append t.parts (counted_each ws l (n + length t.parts) y u).parts,
    )

pub counted_few : CountedFew
unfolding take_counted
counted_few l ws s = omega (arith, each_off_few ws l 0 0 s (omega arith))
