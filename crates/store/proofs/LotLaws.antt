-- Lots kept, taken out and read: what it means for the lists.
use Rattle.std.proofs.Common.{◌≡◌, ℕ, zero, suc, ◌+◌, ◌-◌, ◌<◌, ◌≤◌, ◌⊎◌, List, [], ◌∷◌, ◌++◌, map, length, set, Ok, Err, sym, refl, ap, ◌∙◌, ap₂, inl, inr, arith, length-set, get_or-set_other, get_or-set_same}
use Rattle.std.proofs.lemmas.List.{map-append}
use Rattle.std.proofs.lemmas.Bool.{cases_eq}
use Rattle.layout.proofs.Owners.{differ}
use Rattle.layout.proofs.Placed.{lot_rows_placed, only_wide_none, rows_kept}
use Rattle.layout.specs.Layout.{Good, lot_rows}
use Rattle.layout.specs.Words.{counters, lots, lot_links}
use Rattle.layout.specs.declared.head.Counter.TheVariants.{Lots}
use Rattle.layout.specs.declared.limits.Limits.{Limits}
use Rattle.links.proofs.Counts.{apart, count_here, two_rows, total_set, total_row}
use Rattle.links.proofs.Laws.{first_is, cell_is, walks, follows}
use Rattle.links.proofs.View.{end_is}
use Rattle.links.specs.Model.{row, count, first}
use Rattle.links.specs.Rows.{Rows, nth}
use Rattle.memory.proofs.Head.{count_same}
use Rattle.memory.proofs.Slots.{lot_slots}
use Rattle.memory.specs.Books.{count_of, put_count, lot_record, put_lot}
use Rattle.memory.specs.Slots.{Within}
use Rattle.records.specs.State.{State, state}
use Rattle.records.specs.declared.lot.Lot.{Lot}
use Rattle.store.specs.Laws.{with_lots, AddsLot, RefusesLot, RemovesLot, LacksLot, ReadsLot, WalksLots}
use Rattle.store.specs.Steps.{after, moved_in, moved_out, one_more, lot_placed, on_free, add_lot, lot_freed, on_first, remove_lot, lot_found}
use Rattle.store.specs.View.{Kept, LotsStand, Stands}
use Rattle.store.specs.declared.refusal.Refusal.TheVariants.{NoLot, Full}
use Rattle.store.proofs.Beside.{BesideLots, beside_lots_at_lots, beside_lots_at_lot_links, beside_lots_count, counted}
use Rattle.store.proofs.Kept.{map_same}
use Rattle.store.proofs.LotSteps.{moved_in_rows, moved_in_only, moved_out_rows, moved_out_only}
use Rattle.store.proofs.Tables.{at_same, at_other, when_lt}

-- all but the lots
pub beside : (l : Limits) (s : State) (b : Kept) → Stands l s b → BesideLots l s b
beside l s b st = record { frame = st.frame; orders = st.orders; entries = st.entries; recipes = st.recipes; sums = st.sums }

pub joined : (l : Limits) (s : State) (b : Kept) (i : ℕ) (xs : List Lot) (n : ℕ) → BesideLots l s b → LotsStand l s (with_lots i xs n b).lots_of n → Stands l s (with_lots i xs n b)
joined l s b i xs n rest h = record { frame = rest.frame; lots = h; orders = rest.orders; entries = rest.entries; recipes = rest.recipes; sums = rest.sums }

-- A LOT COMES, on the first free cell c
module _ (l : Limits) (s : State) (b : Kept) (x : Lot) (good : Good l) (st : Stands l s b) (it : x.item < l.items) (c : ℕ) (rest : List ℕ) (is : row st.lots.places l.items ≡ c ∷ rest) where
  abbrev m : List (List ℕ)
  m = st.lots.places

  many : length m ≡ l.items + 1
  many = st.lots.held.many ∙ omega (arith, good.items)

  inside : c < l.lots
  inside = cell_is (lot_rows l) s.narrow m l.items (lot_rows_placed l good).sound st.lots.held (omega (arith, good.items)) c (omega (arith, ap (count c) is, count_here c rest))

  abbrev s₁ : State
  s₁ = put_lot l c x s

  abbrev s₂ : State
  s₂ = state s₁.wide (moved_in l x.item c s₁.narrow)

  abbrev s₃ : State
  s₃ = state s₁.wide (put_count Lots (one_more (count_of Lots s.narrow)) s₂.narrow)

  w₁ : Within lots l s s₁
  w₁ = (lot_slots l).within c x s inside

  rows₁ : Rows (lot_rows l) s₁.narrow m
  rows₁ = rows_kept lot_links lots l (lot_rows l) s.narrow s₁.narrow m (lot_rows_placed l good) (differ _ _ (λ e. omega arith)) w₁.narrow st.lots.held

  w₂ : Within lot_links l s₁ s₂
  w₂ = record { wide = only_wide_none lot_links l s₁.wide; narrow = moved_in_only l s₁.narrow m good rows₁ x.item c rest it is }

  w₃ : Within counters l s₂ s₃
  w₃ = counted Lots (one_more (count_of Lots s.narrow)) l s₂

  abbrev places : List (List ℕ)
  places = set (set m l.items rest) x.item (row (set m l.items rest) x.item ++ c ∷ [])

  rows₃ : Rows (lot_rows l) s₃.narrow places
  rows₃ =
      rows_kept lot_links counters l (lot_rows l) s₂.narrow s₃.narrow places (lot_rows_placed l good) (differ _ _ (λ e. omega arith)) w₃.narrow
      (moved_in_rows l s₁.narrow m good rows₁ x.item c rest it is)

  later : (j : ℕ) → j < l.lots → lot_record l j s₃ ≡ lot_record l j s₁
  later j lt = (lot_slots l).kept j counters s₂ s₃ lt (differ _ _ (λ e. omega arith)) w₃ ∙ (lot_slots l).kept j lot_links s₁ s₂ lt (differ _ _ (λ e. omega arith)) w₂

  -- the cell was free, so in no item's row
  unused : (i : ℕ) → i < l.items → count c (row m i) ≡ 0
  unused i lt = omega (arith, two_rows c m l.items i (omega (arith, many)) (omega (arith, many)) (λ e. omega arith), st.lots.held.held.once c, ap (count c) is, count_here c rest)

  old : (i : ℕ) → i < l.items → map (λ j. lot_record l j s₃) (row m i) ≡ b.lots_of i
  old i lt =
      map_same (λ j. lot_record l j s₃) (λ j. lot_record l j s) (row m i)
      (λ j u. later j (cell_is (lot_rows l) s.narrow m i (lot_rows_placed l good).sound st.lots.held (omega (arith, good.items)) j u)
      ∙ (lot_slots l).other j c x s (λ e. apart c j (row m i) (unused i lt) u (sym e)))
      ∙ st.lots.each i lt

  row_other : (i : ℕ) → i < l.items → row (set m l.items rest) i ≡ row m i
  row_other i lt = get_or-set_other m l.items i rest [] (λ e. omega arith)

  each : (i : ℕ) → i < l.items → map (λ j. lot_record l j s₃) (row places i) ≡ (with_lots x.item (b.lots_of x.item ++ x ∷ []) (b.lots_used + 1) b).lots_of i
  each i lt = at (cases_eq i x.item)
    where
      at : (i ≡ x.item) ⊎ (i ≡ x.item → ⊥) → map (λ j. lot_record l j s₃) (row places i) ≡ (with_lots x.item (b.lots_of x.item ++ x ∷ []) (b.lots_used + 1) b).lots_of i
      at (inl e) =
          ap (map (λ j. lot_record l j s₃))
          (ap (row places) e ∙ get_or-set_same (set m l.items rest) x.item _ [] (omega (arith, length-set m l.items rest, many)) ∙ ap (λ (r : List ℕ). r ++ c ∷ []) (row_other x.item it))
          ∙ map-append (λ j. lot_record l j s₃) (row m x.item) (c ∷ [])
          ∙ ap₂ (λ (r : List Lot) (y : Lot). r ++ y ∷ []) (old x.item it) (later c inside ∙ (lot_slots l).same c x s st.frame.roomy inside)
          ∙ sym (at_same b.lots_of x.item i (b.lots_of x.item ++ x ∷ []) e)
      at (inr ne) =
          ap (map (λ j. lot_record l j s₃)) (get_or-set_other (set m l.items rest) x.item i _ [] ne ∙ row_other i lt) ∙ old i lt
          ∙ sym (at_other b.lots_of x.item i (b.lots_of x.item ++ x ∷ []) ne)

  free_row : row places l.items ≡ rest
  free_row = get_or-set_other (set m l.items rest) x.item l.items _ [] (λ e. omega arith) ∙ get_or-set_same m l.items rest [] (omega (arith, many))

  lot_there : lot_record l c (lot_placed l c x s) ≡ x
  unfolding lot_placed
  lot_there = later c inside ∙ (lot_slots l).same c x s st.frame.roomy inside

  lot_comes : Stands l (lot_placed l c x s) (with_lots x.item (b.lots_of x.item ++ x ∷ []) (b.lots_used + 1) b)
  unfolding lot_placed
  lot_comes =
      joined l s₃ b x.item (b.lots_of x.item ++ x ∷ []) (b.lots_used + 1)
      (beside_lots_count l s₂ b (one_more (count_of Lots s.narrow)) good (beside_lots_at_lot_links l s₁ s₂ b good w₂ (beside_lots_at_lots l s s₁ b good w₁ (beside l s b st))))
      (record {
        places = places;
        held = rows₃;
        each = each;
        used = omega (arith, count_same Lots (one_more (count_of Lots s.narrow)) s₂.narrow (omega (arith, w₁.narrow.long, w₂.narrow.long, st.frame.roomy.narrow)), st.lots.used, st.lots.free, good.lots);
        free = omega (arith, st.lots.free, ap length is, ap length free_row);
      })

-- whether a cell is free
pub adds_lot : AddsLot
adds_lot l s b x good st it less = by (row st.lots.places l.items) refl
  where
    by : (xs : List ℕ) → row st.lots.places l.items ≡ xs →
        (c : ℕ) × (c < l.lots) × (add_lot l x s ≡ after (Ok c) (lot_placed l c x s)) × (lot_record l c (lot_placed l c x s) ≡ x) × Stands l (lot_placed l c x s) (with_lots x.item (b.lots_of x.item ++ x ∷ []) (b.lots_used + 1) b)
    by [] e = absurd (omega (arith, st.lots.free, ap length e))
    by (c ∷ rest) e = (
      c,
      inside l s b x good st it c rest e,
      when_lt x.item l.items _ _ it ∙ ap (on_free l x s) (first_is (lot_rows l) s.narrow st.lots.places l.items (lot_rows_placed l good).sound st.lots.held (omega (arith, good.items)) ∙ ap first e),
      lot_there l s b x good st it c rest e,
      lot_comes l s b x good st it c rest e,
    )

pub refuses_lot : RefusesLot
refuses_lot l s b x good st it full = by (row st.lots.places l.items) refl
  where
    by : (xs : List ℕ) → row st.lots.places l.items ≡ xs → add_lot l x s ≡ after (Err Full) s
    by [] e = when_lt x.item l.items _ _ it ∙ ap (on_free l x s) (first_is (lot_rows l) s.narrow st.lots.places l.items (lot_rows_placed l good).sound st.lots.held (omega (arith, good.items)) ∙ ap first e)
    by (c ∷ rest) e = absurd (omega (arith, st.lots.free, ap length e))

-- THE OLDEST LOT of item i GOES, from the cell c
module _ (l : Limits) (s : State) (b : Kept) (i : ℕ) (xs : List Lot) (good : Good l) (st : Stands l s b) (it : i < l.items) (c : ℕ) (rest : List ℕ) (is : row st.lots.places i ≡ c ∷ rest)
    (left : map (λ j. lot_record l j s) rest ≡ xs) where
  abbrev g : List (List ℕ)
  g = st.lots.places

  g_many : length g ≡ l.items + 1
  g_many = st.lots.held.many ∙ omega (arith, good.items)

  g_inside : c < l.lots
  g_inside = cell_is (lot_rows l) s.narrow g i (lot_rows_placed l good).sound st.lots.held (omega (arith, good.items)) c (omega (arith, ap (count c) is, count_here c rest))

  abbrev t₁ : State
  t₁ = state s.wide (moved_out l i c s.narrow)

  abbrev t₂ : State
  t₂ = state s.wide (put_count Lots (count_of Lots s.narrow - 1) t₁.narrow)

  v₁ : Within lot_links l s t₁
  v₁ = record { wide = only_wide_none lot_links l s.wide; narrow = moved_out_only l s.narrow g good st.lots.held i c it g_inside }

  v₂ : Within counters l t₁ t₂
  v₂ = counted Lots (count_of Lots s.narrow - 1) l t₁

  abbrev gone : List (List ℕ)
  gone = set (set g i rest) l.items (c ∷ row (set g i rest) l.items)

  gone_rows : Rows (lot_rows l) t₂.narrow gone
  gone_rows = rows_kept lot_links counters l (lot_rows l) t₁.narrow t₂.narrow gone (lot_rows_placed l good) (differ _ _ (λ e. omega arith)) v₂.narrow (moved_out_rows l s.narrow g good st.lots.held i c rest it is)

  same_lot : (j : ℕ) → j < l.lots → lot_record l j t₂ ≡ lot_record l j s
  same_lot j lt = (lot_slots l).kept j counters t₁ t₂ lt (differ _ _ (λ e. omega arith)) v₂ ∙ (lot_slots l).kept j lot_links s t₁ lt (differ _ _ (λ e. omega arith)) v₁

  same_map : (k : ℕ) (js : List ℕ) → k < l.items → ((j : ℕ) → 0 < count j js → 0 < count j (row g k)) → map (λ j. lot_record l j t₂) js ≡ map (λ j. lot_record l j s) js
  same_map k js lt within =
      map_same (λ j. lot_record l j t₂) (λ j. lot_record l j s) js (λ j u. same_lot j (cell_is (lot_rows l) s.narrow g k (lot_rows_placed l good).sound st.lots.held (omega (arith, good.items)) j (within j u)))

  gone_each : (k : ℕ) → k < l.items → map (λ j. lot_record l j t₂) (row gone k) ≡ (with_lots i xs (b.lots_used - 1) b).lots_of k
  gone_each k lt = ap (map (λ j. lot_record l j t₂)) (get_or-set_other (set g i rest) l.items k _ [] (λ e. omega arith)) ∙ at (cases_eq k i)
    where
      at : (k ≡ i) ⊎ (k ≡ i → ⊥) → map (λ j. lot_record l j t₂) (row (set g i rest) k) ≡ (with_lots i xs (b.lots_used - 1) b).lots_of k
      at (inl e) =
          ap (map (λ j. lot_record l j t₂)) (ap (row (set g i rest)) e ∙ get_or-set_same g i rest [] (omega (arith, g_many)))
          ∙ same_map i rest it (λ j u. omega (arith, ap (count j) is)) ∙ left ∙ sym (at_same b.lots_of i k xs e)
      at (inr ne) = ap (map (λ j. lot_record l j t₂)) (get_or-set_other g i k rest [] ne) ∙ same_map k (row g k) lt (λ j u. u) ∙ st.lots.each k lt ∙ sym (at_other b.lots_of i k xs ne)

  free_more : length (row gone l.items) ≡ length (row g l.items) + 1
  free_more =
      ap length (get_or-set_same (set g i rest) l.items (c ∷ row (set g i rest) l.items) [] (omega (arith, length-set g i rest, g_many)))
      ∙ omega (arith, ap length (get_or-set_other g i l.items rest [] (λ e. omega arith)))

  -- one lot at the least is in use
  pub some : length (row g l.items) + 1 ≤ l.lots
  some =
      omega (
        arith,
        total_set g i [] (omega (arith, g_many)),
        total_row (set g i []) l.items (omega (arith, length-set g i [], g_many)),
        ap length (get_or-set_other g i l.items [] [] (λ e. omega arith)),
        ap length is,
        st.lots.held.held.room,
        end_is (lot_rows l) s.narrow,
      )

  pub lot_goes : Stands l (state s.wide (lot_freed l i c s.narrow)) (with_lots i xs (b.lots_used - 1) b)
  unfolding lot_freed
  lot_goes =
      joined l t₂ b i xs (b.lots_used - 1) (beside_lots_count l t₁ b (count_of Lots s.narrow - 1) good (beside_lots_at_lot_links l s t₁ b good v₁ (beside l s b st)))
      (record {
        places = gone;
        held = gone_rows;
        each = gone_each;
        used = omega (arith, count_same Lots (count_of Lots s.narrow - 1) t₁.narrow (omega (arith, v₁.narrow.long, st.frame.roomy.narrow)), st.lots.used);
        free = omega (arith, st.lots.free, free_more, some);
      })

pub removes_lot : RemovesLot
removes_lot l s b i x xs good st it has = by (row st.lots.places i) refl
  where
    by : (js : List ℕ) → row st.lots.places i ≡ js →
        (c : ℕ) × (remove_lot l i s ≡ after (Ok x) (lot_freed l i c s.narrow)) × Stands l (state s.wide (lot_freed l i c s.narrow)) (with_lots i xs (b.lots_used - 1) b)
    by [] e = let z : x ∷ xs ≡ [] = sym has ∙ sym (st.lots.each i it) ∙ ap (map (λ j. lot_record l j s)) e in let n : ◌≡◌ {A = ℕ} 0 1 = cc in absurd (omega arith)
    by (c ∷ rest) e =
        let same : lot_record l c s ∷ map (λ j. lot_record l j s) rest ≡ x ∷ xs = sym (ap (map (λ j. lot_record l j s)) e) ∙ st.lots.each i it ∙ has in
        let here : lot_record l c s ≡ x = cc in
        let left : map (λ j. lot_record l j s) rest ≡ xs = cc in (
          c,
          when_lt i l.items _ _ it
              ∙ ap (on_first l i s) (first_is (lot_rows l) s.narrow st.lots.places i (lot_rows_placed l good).sound st.lots.held (omega (arith, good.items)) ∙ ap first e)
              ∙ ap (λ (y : Lot). after (Ok y) (lot_freed l i c s.narrow)) here,
          lot_goes l s b i xs good st it c rest e left,
        )

pub lacks_lot : LacksLot
lacks_lot l s b i good st it none = by (row st.lots.places i) refl
  where
    by : (js : List ℕ) → row st.lots.places i ≡ js → remove_lot l i s ≡ after (Err NoLot) s.narrow
    by [] e = when_lt i l.items _ _ it ∙ ap (on_first l i s) (first_is (lot_rows l) s.narrow st.lots.places i (lot_rows_placed l good).sound st.lots.held (omega (arith, good.items)) ∙ ap first e)
    by (c ∷ rest) e = let z : lot_record l c s ∷ map (λ j. lot_record l j s) rest ≡ [] = sym (ap (map (λ j. lot_record l j s)) e) ∙ st.lots.each i it ∙ none in let n : ◌≡◌ {A = ℕ} 0 1 = cc in absurd (omega arith)

-- READING
found_nth : (l : Limits) (s : State) (js : List ℕ) (k : ℕ) → lot_found l s (nth js k) ≡ nth (map (λ j. lot_record l j s) js) k
found_nth l s [] k = refl
found_nth l s (j ∷ js) zero = refl
found_nth l s (j ∷ js) (suc k) = found_nth l s js k

pub reads_lot : ReadsLot
reads_lot l s b i k good st it =
    when_lt i l.items _ _ it ∙ ap (lot_found l s) (walks (lot_rows l) s.narrow st.lots.places i k (lot_rows_placed l good).sound st.lots.held (omega (arith, good.items)))
    ∙ found_nth l s (row st.lots.places i) k ∙ ap (λ (xs : List Lot). nth xs k) (st.lots.each i it)

pub walks_lots : WalksLots
walks_lots l s b i good st it = record {
  places = row st.lots.places i;
  each = st.lots.each i it;
  starts = when_lt i l.items _ _ it ∙ first_is (lot_rows l) s.narrow st.lots.places i (lot_rows_placed l good).sound st.lots.held (omega (arith, good.items));
  goes_on = λ bs cs c e. follows (lot_rows l) s.narrow st.lots.places i c bs cs (lot_rows_placed l good).sound st.lots.held (omega (arith, good.items)) e;
}
