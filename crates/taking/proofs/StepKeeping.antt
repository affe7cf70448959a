-- What each step of taking keeps of the slices, taking keeps, on any memory. Assumes nothing.
use Rattle.std.proofs.Common.{◌≡◌, ℕ, zero, suc, ◌-◌, ◌<◌, Bool, true, cond, eqb, ltb, List, [], ◌∷◌, ◌++◌, Some, None, Option, sym, refl, ap, ◌∙◌, arith}
use Rattle.std.proofs.lemmas.Bool.{cond_both, ltb-true, and_from, and_parts}
use Rattle.firm.specs.Stock as firm
use Rattle.questions.specs.Listing.{lot_of}
use Rattle.wire.specs.Answers.{each}
use Rattle.layout.specs.Layout.{lot_rows}
use Rattle.layout.specs.declared.limits.Limits.{Limits}
use Rattle.links.specs.Area.{after_in, header_of}
use Rattle.memory.specs.Books.{lot_record, put_lot}
use Rattle.records.specs.State.{State, state}
use Rattle.records.specs.declared.lot.Lot.{Lot}
use Rattle.store.specs.Steps.{first_lot, lot_freed}
use Rattle.taking.specs.Parts.{part_of, rest_of}
use Rattle.taking.specs.Takes.{gave, given, on_oldest, take_oldest, Taking, taking, taken_on, most_lines, taken_each, take_all, off, counted_each, take_counted}
use Rattle.taking.specs.declared.wants.Want.{Want}
use Rattle.taking.proofs.Turns.{on}

-- a cell is freed, or what is left of a lot takes its place
pub record StepsKeep (l : Limits) (P : State → Type 0) : Type 0 where
  pub frees : (i c : ℕ) (s : State) → first_lot l i s.narrow ≡ Some c → P s → P (state s.wide (lot_freed l i c s.narrow))
  pub puts : (i c : ℕ) (s : State) (p : Lot) → first_lot l i s.narrow ≡ Some c → P s → P (put_lot l c (rest_of (lot_record l c s) p) s)

module _ (l : Limits) (P : State → Type 0) (keep : StepsKeep l P) where
  oldest_keeps : (i q : ℕ) (s : State) → P s → P (take_oldest l i q s).slices
  unfolding take_oldest given
  oldest_keeps i q s h = by (first_lot l i s.narrow) refl
    where
      by : (o : Option ℕ) → first_lot l i s.narrow ≡ o → P (on_oldest l i q s o).slices
      by None is = h
      by (Some c) is =
          cond_both (eqb (part_of (lot_record l c s) q).pieces (lot_record l c s).pieces) (state s.wide (lot_freed l i c s.narrow)) (put_lot l c (rest_of (lot_record l c s) (part_of (lot_record l c s) q)) s) P
          (λ _. keep.frees i c s is h) (λ _. keep.puts i c s (part_of (lot_record l c s) q) is h)

  row_keeps : (k i q : ℕ) (s : State) → P s → P (taken_on k l i q s).slices
  row_keeps zero i q s h = h
  row_keeps (suc k) i q s h =
      cond_both (eqb q 0) (taking s []) (on k l i q s (take_oldest l i q s)) (λ (t : Taking). P t.slices) (λ _. h)
      (λ _. by (row_keeps k) (take_oldest l i q s).part (take_oldest l i q s).slices (oldest_keeps i q s h))
    where
      by : ((j r : ℕ) (x : State) → P x → P (taken_on k l j r x).slices) → (o : Option Lot) (x : State) → P x → P (on k l i q s (gave o x)).slices
      by rec None x k = h
      by rec (Some p) x k = rec i (q - p.pieces) x k

  each_keeps : (ws : List Want) (n : ℕ) (s : State) → P s → P (taken_each ws l n s).slices
  each_keeps [] n s h = h
  each_keeps (w ∷ ws) n s h = each_keeps ws _ _ (row_keeps (most_lines l - n) w.item w.pieces s h)

  pub slices_keep : (ws : List Want) (s : State) → P s → P (take_all l ws s).slices
  unfolding take_all
  slices_keep ws s h = each_keeps ws 0 s h

  -- so does taking that counts off, if that keeps it too
  module _ (offs : (w : Want) (x : ℕ) (s : State) → P s → P (off l w x s)) where
    each_off_keeps : (ws : List Want) (n x : ℕ) (s : State) → P s → P (counted_each ws l n x s).slices
    each_off_keeps [] n x s h = h
    each_off_keeps (w ∷ ws) n x s h = each_off_keeps ws _ _ _ (offs w _ _ (row_keeps (most_lines l - n) w.item w.pieces s h))

    pub counted_keep : (ws : List Want) (s : State) → P s → P (take_counted l ws s).slices
    unfolding take_counted
    counted_keep ws s h = each_off_keeps ws 0 0 s h

-- WHAT IS TAKEN passes a test that each part of an oldest lot passes
each_append : (ok : firm.Lot → Bool) (xs ys : List firm.Lot) → each ok xs ≡ true → each ok ys ≡ true → each ok (xs ++ ys) ≡ true
unfolding each
each_append ok [] ys h k = k
each_append ok (x ∷ xs) ys h k =
    let p = and_parts (ok x) (each ok xs) h in
    and_from (ok x) (each ok (xs ++ ys)) p.0 (each_append ok xs ys p.1 k)

module _ (l : Limits) (P : State → Type 0) (keep : StepsKeep l P) (ok : firm.Lot → Bool) (gives : (c q : ℕ) (s : State) → P s → ok (lot_of (part_of (lot_record l c s) q)) ≡ true) where
  oldest_gives : (i q : ℕ) (s : State) → P s → (p : Lot) → (take_oldest l i q s).part ≡ Some p → ok (lot_of p) ≡ true
  unfolding take_oldest
  oldest_gives i q s h p = by (first_lot l i s.narrow)
    where
      by : (o : Option ℕ) → (on_oldest l i q s o).part ≡ Some p → ok (lot_of p) ≡ true
      by None e = let z : ◌≡◌ {A = ℕ} 0 1 = cc in absurd (omega arith)
      by (Some c) e =
          let same : part_of (lot_record l c s) q ≡ p = cc in
          ap (λ (x : Lot). ok (lot_of x)) (sym same) ∙ gives c q s h

  row_gives : (k i q : ℕ) (s : State) → P s → each ok (taken_on k l i q s).parts ≡ true
  unfolding each
  row_gives zero i q s h = refl
  row_gives (suc k) i q s h =
      cond_both (eqb q 0) (taking s []) (on k l i q s (take_oldest l i q s)) (λ (t : Taking). each ok t.parts ≡ true) (λ _. refl)
      (λ _. by (row_gives k) (take_oldest l i q s).part (take_oldest l i q s).slices (oldest_keeps l P keep i q s h) (oldest_gives i q s h))
    where
      by : ((j r : ℕ) (x : State) → P x → each ok (taken_on k l j r x).parts ≡ true) → (o : Option Lot) (x : State) → P x → ((p : Lot) → o ≡ Some p → ok (lot_of p) ≡ true)
          → each ok (on k l i q s (gave o x)).parts ≡ true
      by rec None x kept gave-one = refl
      by rec (Some p) x kept gave-one = and_from (ok (lot_of p)) _ (gave-one p refl) (rec i (q - p.pieces) x kept)

  each_gives : (ws : List Want) (n : ℕ) (s : State) → P s → each ok (taken_each ws l n s).parts ≡ true
  unfolding each
  each_gives [] n s h = refl
  each_gives (w ∷ ws) n s h =
      each_append ok (taken_on (most_lines l - n) l w.item w.pieces s).parts _ (row_gives (most_lines l - n) w.item w.pieces s h)
      (each_gives ws _ _ (row_keeps l P keep (most_lines l - n) w.item w.pieces s h))

  pub parts_pass : (ws : List Want) (s : State) → P s → each ok (take_all l ws s).parts ≡ true
  unfolding take_all
  parts_pass ws s h = each_gives ws 0 s h

  module _ (offs : (w : Want) (x : ℕ) (s : State) → P s → P (off l w x s)) where
    each_off_gives : (ws : List Want) (n x : ℕ) (s : State) → P s → each ok (counted_each ws l n x s).parts ≡ true
    unfolding each
    each_off_gives [] n x s h = refl
    each_off_gives (w ∷ ws) n x s h =
        each_append ok (taken_on (most_lines l - n) l w.item w.pieces s).parts _ (row_gives (most_lines l - n) w.item w.pieces s h)
        (each_off_gives ws _ _ _ (offs w _ _ (row_keeps l P keep (most_lines l - n) w.item w.pieces s h)))

    pub counted_pass : (ws : List Want) (s : State) → P s → each ok (take_counted l ws s).parts ≡ true
    unfolding take_counted
    counted_pass ws s h = each_off_gives ws 0 0 s h

-- the cell of an item's oldest lot is one of the lots'
pub first_inside : (l : Limits) (i : ℕ) (n : List ℕ) (c : ℕ) → first_lot l i n ≡ Some c → c < l.lots
first_inside l i n c =
    let next : ℕ = after_in (lot_rows l) n (header_of (lot_rows l) i) in
    cond_both (ltb i l.items) (cond (ltb next l.lots) (Some next) None) None (λ (o : Option ℕ). o ≡ Some c → c < l.lots)
    (λ _. cond_both (ltb next l.lots) (Some next) None (λ (o : Option ℕ). o ≡ Some c → c < l.lots) (λ lt e. at next (ltb-true next l.lots lt) e) (λ _ e. no e))
    (λ _ e. no e)
  where
    at : (d : ℕ) → d < l.lots → Some d ≡ Some c → c < l.lots
    at d lt e = let same : d ≡ c = cc in omega arith

    no : None ≡ Some c → c < l.lots
    no e = let z : ◌≡◌ {A = ℕ} 0 1 = cc in absurd (omega arith)
