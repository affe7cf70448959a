-- The loops of taking: what is left to do gives the whole, in the slices and in the tally. Assumes nothing.
use Rattle.std.proofs.Common.{◌≡◌, ℕ, suc, ◌+◌, ◌-◌, ◌^◌, ◌<◌, ◌≤◌, List, [], ◌∷◌, ◌++◌, length, get_or, drop, Some, sym, refl, ap, ◌∙◌, ap₂, arith}
use Rattle.std.proofs.lemmas.List.{drop_all, drop_more}
use Rattle.firm.specs.Stock as firm
use Rattle.layout.specs.declared.limits.Limits.{Limits}
use Rattle.questions.specs.Listing.{lot_of}
use Rattle.records.specs.State.{State}
use Rattle.records.specs.declared.lot.Lot.{Lot}
use Rattle.taking.specs.Takes.{want, gave, take_oldest, Taking, taking, behind, taken_on, most_lines, taken_each, Tally, with_part, tallied}
use Rattle.taking.specs.declared.wants.Want.{Want}
use Rattle.taking.proofs.Turns.{taken_more, on_few}

-- THE TALLY
pub tallied_append : (ps qs : List firm.Lot) (t : Tally) → tallied (ps ++ qs) t ≡ tallied qs (tallied ps t)
tallied_append [] qs t = refl
tallied_append (p ∷ ps) qs t = tallied_append ps qs (with_part p t)

pub tallied_lines : (ps : List firm.Lot) (t : Tally) → t.taken.lines + length ps < 2 ^ 32 → (tallied ps t).taken.lines ≡ t.taken.lines + length ps
unfolding with_part
tallied_lines [] t lt = omega arith
tallied_lines (p ∷ ps) t lt = tallied_lines ps (with_part p t) (omega arith) ∙ omega arith

-- THE LOOP OVER LOTS, which began with the tally y₀ and the slices s₀ and wants q pieces: what is left to do gives the whole
pub record RowSoFar (l : Limits) (i q : ℕ) (s₀ : State) (y₀ : Tally) (line left : ℕ) (s : State) (y : Tally) : Type 0 where
  pub lines : line ≡ y.taken.lines
  pub slices : (taken_on (most_lines l - line) l i left s).slices ≡ (taken_on (most_lines l - y₀.taken.lines) l i q s₀).slices
  pub parts : tallied (taken_on (most_lines l - line) l i left s).parts y ≡ tallied (taken_on (most_lines l - y₀.taken.lines) l i q s₀).parts y₀

-- the loop over what is wanted, from the j-th on
pub record WantsSoFar (l : Limits) (ws : List Want) (s₀ : State) (y₀ : Tally) (j : ℕ) (s : State) (y : Tally) : Type 0 where
  pub few : y.taken.lines ≤ most_lines l
  pub slices : (taken_each (drop j ws) l y.taken.lines s).slices ≡ (taken_each ws l y₀.taken.lines s₀).slices
  pub parts : tallied (taken_each (drop j ws) l y.taken.lines s).parts y ≡ tallied (taken_each ws l y₀.taken.lines s₀).parts y₀

module _ (l : Limits) (i q : ℕ) (s₀ : State) (y₀ : Tally) where
  pub row_begins : RowSoFar l i q s₀ y₀ y₀.taken.lines q s₀ y₀
  row_begins = record { lines = refl; slices = refl; parts = refl }

  -- a turn, in which the oldest lot gave the part p
  pub row_turns : (line left : ℕ) (s : State) (y : Tally) (p : Lot) (t : State) (z : Tally) → RowSoFar l i q s₀ y₀ line left s y → line < most_lines l → (left ≡ 0 → ⊥) →
      gave (Some p) t ≡ take_oldest l i left s → z ≡ with_part (lot_of p) y → RowSoFar l i q s₀ y₀ (line + 1) (left - p.pieces) t z
  unfolding with_part
  row_turns line left s y p t z h lt ne e is =
      let d : most_lines l - line ≡ suc (most_lines l - (line + 1)) = omega arith in
      let more : taken_on (most_lines l - line) l i left s ≡ behind (lot_of p) (taken_on (most_lines l - (line + 1)) l i (left - p.pieces) t) =
      ap (λ (k : ℕ). taken_on k l i left s) d ∙ taken_more (most_lines l - (line + 1)) l i left s p t ne e in
      record {
        lines = omega (arith, h.lines, ap (λ (x : Tally). x.taken.lines) is);
        slices = ap (λ (x : Taking). x.slices) (sym more) ∙ h.slices;
        parts = ap (tallied (taken_on (most_lines l - (line + 1)) l i (left - p.pieces) t).parts) is ∙ ap (λ (x : Taking). tallied x.parts y) (sym more) ∙ h.parts;
      }

  -- what was taken of this item, when nothing is left to do
  pub record RowDone (s : State) (y : Tally) : Type 0 where
    pub slices : s ≡ (taken_on (most_lines l - y₀.taken.lines) l i q s₀).slices
    pub told : y ≡ tallied (taken_on (most_lines l - y₀.taken.lines) l i q s₀).parts y₀

  pub row_ends : (line left : ℕ) (s : State) (y : Tally) → RowSoFar l i q s₀ y₀ line left s y → taken_on (most_lines l - line) l i left s ≡ taking s [] → RowDone s y
  row_ends line left s y h e =
      record { slices = ap (λ (x : Taking). x.slices) (sym e) ∙ h.slices; told = ap (λ (x : Taking). tallied x.parts y) (sym e) ∙ h.parts }

module _ (l : Limits) (ws : List Want) (s₀ : State) (y₀ : Tally) where
  -- what the j-th want leaves to the others
  abbrev wants_left : ℕ → ℕ → State → Taking
  wants_left j n s = taken_each (drop j ws) l n s

  pub wants_turn : (j : ℕ) (s : State) (y : Tally) (t : State) (z : Tally) → WantsSoFar l ws s₀ y₀ j s y → j < length ws →
      RowDone l (get_or ws j (want 0 0)).item (get_or ws j (want 0 0)).pieces s y t z → WantsSoFar l ws s₀ y₀ (j + 1) t z
  wants_turn j s y t z h lt done =
      let w : Want = get_or ws j (want 0 0) in
      let n : ℕ = y.taken.lines in
      let r : Taking = taken_on (most_lines l - n) l w.item w.pieces s in
      let u : Taking = wants_left (j + 1) (n + length r.parts) r.slices in
      let few : n + length r.parts ≤ most_lines l = omega (arith, h.few, on_few (most_lines l - n) l w.item w.pieces s) in
      let lines : z.taken.lines ≡ n + length r.parts = ap (λ (x : Tally). x.taken.lines) done.told ∙ tallied_lines r.parts y (omega arith) in
      let same : wants_left (j + 1) z.taken.lines t ≡ u = ap₂ (wants_left (j + 1)) lines done.slices in
      let all : wants_left j n s ≡ taking u.slices (r.parts ++ u.parts) = ap (λ (xs : List Want). taken_each xs l n s) (drop_more ws j (want 0 0) lt) in
      record {
        few = omega arith;
        slices = ap (λ (x : Taking). x.slices) same ∙ ap (λ (x : Taking). x.slices) (sym all) ∙ h.slices;
        parts = ap (λ (x : Taking). tallied x.parts z) same ∙ ap (tallied u.parts) done.told ∙ sym (tallied_append r.parts u.parts y)
            ∙ ap (λ (x : Taking). tallied x.parts y) (sym all) ∙ h.parts;
      }

  pub record WantsDone (s : State) (y : Tally) : Type 0 where
    pub slices : s ≡ (taken_each ws l y₀.taken.lines s₀).slices
    pub told : y ≡ tallied (taken_each ws l y₀.taken.lines s₀).parts y₀

  pub wants_end : (j : ℕ) (s : State) (y : Tally) → WantsSoFar l ws s₀ y₀ j s y → length ws ≤ j → WantsDone s y
  wants_end j s y h le =
      let none : wants_left j y.taken.lines s ≡ taking s [] = ap (λ (xs : List Want). taken_each xs l y.taken.lines s) (drop_all j ws le) in
      record { slices = ap (λ (x : Taking). x.slices) (sym none) ∙ h.slices; told = ap (λ (x : Taking). tallied x.parts y) (sym none) ∙ h.parts }

pub wants_begin : (l : Limits) (ws : List Want) (s : State) (y : Tally) → y.taken.lines ≤ most_lines l → WantsSoFar l ws s y 0 s y
wants_begin l ws s y few = record { few = few; slices = refl; parts = refl }
