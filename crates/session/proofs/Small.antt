-- Words stay as many and as small: what each step leaves has as many words as were there, each below its bound. Assumes nothing.
use Rattle.std.proofs.Common.{◌≡◌, ℕ, zero, suc, ◌+◌, ◌-◌, ◌*◌, ◌^◌, ◌<◌, ◌≤◌, min, cond, eqb, ltb, leb, List, [], ◌∷◌, length, get_or, drop, set, replicate, sym, refl, ap, ◌∙◌, subst, inl, inr, ⊎_elim, arith, length-append, length-drop, length-set, get_or-set_other, get_or-set_same}
use Rattle.std.proofs.lemmas.List.{set_past, get_or_past, get_or_append_left, get_or-append_right, get_or-drop, get_or-replicate, length-replicate}
use Rattle.std.proofs.lemmas.Bool.{cond_both, cases_lt, cases_eq, and_parts, leb-true, leb-false}
use Rattle.layout.specs.declared.limits.Limits.{Limits}
use Rattle.layout.specs.declared.head.Total.{Total}
use Rattle.layout.specs.declared.head.Counter.{Counter}
use Rattle.layout.specs.declared.head.Counter.TheVariants.{Orders, Entries, Parts, Lots}
use Rattle.layout.specs.Layout.{Good, lot_rows, order_rows, entry_rows, wide_need, narrow_need, count_at, total_at, order_at, lot_at, wide_lot_at, entry_at, wide_entry_at, part_at, recipe_at, balance_at, stock_at}
use Rattle.links.specs.Area.{place_at, tail_at, header_of, after_in, tail_in, inserted, removed, emptied, chained, filled}
use Rattle.links.specs.declared.shape.Shape.{Shape}
use Rattle.memory.specs.Books.{count_of, put_count, total_of, put_total, order_record, put_order, lot_record, put_lot, entry_record, put_entry, put_part, put_recipe, balance_of, put_balance, stock_of, put_stock}
use Rattle.memory.specs.Opened.{zeroed, with_limits, with_rows, opened}
use Rattle.records.specs.Kind.{fits, word, over, Kind, lies, write, read_wide, write_wide}
use Rattle.records.specs.Kinds.{lot_kind, order_kind, entry_kind, part_kind, recipe_kind, balance_kind, stock_kind}
use Rattle.records.specs.State.{State, state}
use Rattle.records.specs.declared.balance.Balance.{Balance}
use Rattle.records.specs.declared.entry.Entry.{Entry}
use Rattle.records.specs.declared.lot.Lot.{Lot}
use Rattle.records.specs.declared.order.Order.{Order}
use Rattle.records.specs.declared.part.Part.{Part}
use Rattle.records.specs.declared.recipe.Recipe.{Recipe}
use Rattle.records.specs.declared.stock.Stock.{Stock}
use Rattle.records.proofs.Over.{length_over, over_same, over_other}
use Rattle.rules.specs.Totals.{raised, lowered}
use Rattle.session.specs.Means.{Below, Words, Sized}
use Rattle.store.specs.Steps.{free_header, pushed, moved_in, moved_out, lot_placed, lot_freed, order_placed, left_cell, right_cell, entry_linked, entry_placed, part_placed, front, recipe_placed, more_stock, lot_counted, less_stock, counted_out, more_left, more_right, left_posted, right_posted, post}
use Rattle.taking.specs.Parts.{share, part_of, rest_of}
use Rattle.taking.specs.Takes.{take_all}
use Rattle.taking.specs.declared.wants.Want.{Want}
use Rattle.taking.proofs.StepKeeping.{StepsKeep, slices_keep, first_inside}
use Rattle.std.proofs.Math.Nat.{div-le_self}

below_set : (b : ℕ) (xs : List ℕ) (i v : ℕ) → v < b → Below b xs → Below b (set xs i v)
below_set b xs i v lt h j =
    ⊎_elim
    (λ (e : j ≡ i). ⊎_elim (λ (in_range : i < length xs). subst (λ (x : ℕ). x < b) (sym (ap (λ (k : ℕ). get_or (set xs i v) k 0) e ∙ get_or-set_same xs i v 0 in_range)) lt)
    (λ (past : length xs ≤ i). subst (λ (ys : List ℕ). get_or ys j 0 < b) (sym (set_past xs i v past)) (h j)) (cases_lt i (length xs)))
    (λ (ne : j ≡ i → ⊥). subst (λ (x : ℕ). x < b) (sym (get_or-set_other xs i j v 0 ne)) (h j))
    (cases_eq j i)

pub words_set : (n b : ℕ) (xs : List ℕ) (i v : ℕ) → v < b → Words n b xs → Words n b (set xs i v)
words_set n b xs i v lt h = record { long = length-set xs i v ∙ h.long; small = below_set b xs i v lt h.small }

below_over : (b a : ℕ) (ws s : List ℕ) → a + length ws ≤ length s → Below b ws → Below b s → Below b (over a ws s)
below_over b a ws s fit small h i =
    ⊎_elim (λ (lt : i < a). subst (λ (x : ℕ). x < b) (sym (over_other a ws s fit i (inl lt))) (h i))
    (λ (ge : a ≤ i). ⊎_elim
    (λ (lt : i < a + length ws).
    let at : a + (i - a) ≡ i = omega arith in
    subst (λ (x : ℕ). x < b) (sym (ap (λ (k : ℕ). get_or (over a ws s) k 0) (sym at) ∙ over_same a ws s fit (i - a) (omega arith))) (small (i - a)))
    (λ (past : a + length ws ≤ i). subst (λ (x : ℕ). x < b) (sym (over_other a ws s fit i (inr past))) (h i)) (cases_lt i (a + length ws)))
    (cases_lt i a)

words_over : (n b a : ℕ) (ws s : List ℕ) → a + length ws ≤ length s → Below b ws → Words n b s → Words n b (over a ws s)
words_over n b a ws s fit small h = record { long = length_over a ws s fit ∙ h.long; small = below_over b a ws s fit small h.small }

-- lists of some words
below_none : (b : ℕ) → 0 < b → Below b []
below_none b lt i = lt

below_cons : (b x : ℕ) (xs : List ℕ) → x < b → Below b xs → Below b (x ∷ xs)
below_cons b x xs lt h zero = lt
below_cons b x xs lt h (suc i) = h i

below_two : (b x y : ℕ) → x < b → y < b → Below b (x ∷ y ∷ [])
below_two b x y lx ly = below_cons b x (y ∷ []) lx (below_cons b y [] ly (below_none b (omega arith)))

-- ROWS
words_inserted : (k b : ℕ) (h : Shape) (r p x : ℕ) (n : List ℕ) → x < b → Words k b n → Words k b (inserted h r p x n)
unfolding inserted
words_inserted k b h r p x n lt w =
    let two = words_set k b (set n (place_at h x) (after_in h n p)) (place_at h p) x lt (words_set k b n (place_at h x) (after_in h n p) (w.small (place_at h p)) w) in
    cond_both (eqb (tail_in h n r) p) (set (set (set n (place_at h x) (after_in h n p)) (place_at h p) x) (tail_at h r) x) (set (set n (place_at h x) (after_in h n p)) (place_at h p) x) (Words k b)
    (λ _. words_set k b _ (tail_at h r) x lt two) (λ _. two)

words_removed : (k b : ℕ) (h : Shape) (r p x : ℕ) (n : List ℕ) → p < b → Words k b n → Words k b (removed h r p x n)
unfolding removed
words_removed k b h r p x n lt w =
    let one = words_set k b n (place_at h p) (after_in h n x) (w.small (place_at h x)) w in
    cond_both (eqb (tail_in h n r) x) (set (set n (place_at h p) (after_in h n x)) (tail_at h r) p) (set n (place_at h p) (after_in h n x)) (Words k b)
    (λ _. words_set k b _ (tail_at h r) p lt one) (λ _. one)

words_pushed : (k b : ℕ) (h : Shape) (r x : ℕ) (n : List ℕ) → x < b → Words k b n → Words k b (pushed h r x n)
unfolding pushed
words_pushed k b h r x n lt w = words_inserted k b h r (tail_in h n r) x n lt w

words_emptied : (n : ℕ) (h : Shape) (k r : ℕ) (xs : List ℕ) → h.cells < 2 ^ 32 → Words n (2 ^ 32) xs → Words n (2 ^ 32) (emptied k h r xs)
words_emptied n h zero r xs lt w = w
words_emptied n h (suc k) r xs lt w =
    words_emptied n h k (r + 1) _ lt (words_set n (2 ^ 32) _ (tail_at h r) (header_of h r) (omega arith) (words_set n (2 ^ 32) xs (place_at h (header_of h r)) h.cells lt w))

words_chained : (n : ℕ) (h : Shape) (k c : ℕ) (xs : List ℕ) → c + k < 2 ^ 32 → Words n (2 ^ 32) xs → Words n (2 ^ 32) (chained k h c xs)
words_chained n h zero c xs lt w = w
words_chained n h (suc k) c xs lt w = words_chained n h k (c + 1) _ (omega arith) (words_set n (2 ^ 32) xs (place_at h c) (c + 1) (omega arith) w)

words_filled : (n : ℕ) (h : Shape) (r : ℕ) (xs : List ℕ) → h.cells < 2 ^ 32 → Words n (2 ^ 32) xs → Words n (2 ^ 32) (filled h r xs)
unfolding filled
words_filled n h r xs lt w =
    cond_both (eqb h.cells 0) xs (set (set (chained h.cells h 0 xs) (place_at h (header_of h r)) 0) (tail_at h r) (h.cells - 1)) (Words n (2 ^ 32))
    (λ _. w)
    (λ _. words_set n (2 ^ 32) _ (tail_at h r) (h.cells - 1) (omega arith)
    (words_set n (2 ^ 32) _ (place_at h (header_of h r)) 0 (omega arith) (words_chained n h h.cells 0 xs (omega arith) w)))

-- a record that is written
sized_write : {X : Type 0} (k : Kind X) (l : Limits) (a b : ℕ) (x : X) (s : State) → Below (2 ^ 64) (k.wide_words x) → Below (2 ^ 32) (k.narrow_words x) →
    length (k.wide_words x) ≡ k.wide_size → length (k.narrow_words x) ≡ k.narrow_size → Sized l s → Sized l (write k a b x s)
sized_write k l a b x s w n lw ln h =
    cond_both (lies k a b s) (state (over a (k.wide_words x) s.wide) (over b (k.narrow_words x) s.narrow)) s (Sized l)
    (λ e. let both = and_parts (fits a k.wide_size s.wide) (fits b k.narrow_size s.narrow) e in
    let fw : a + length (k.wide_words x) ≤ length s.wide = omega (arith, leb-true _ _ both.0) in
    let fn : b + length (k.narrow_words x) ≤ length s.narrow = omega (arith, leb-true _ _ both.1) in
    record { wide = words_over (wide_need l) (2 ^ 64) a (k.wide_words x) s.wide fw w h.wide; narrow = words_over (narrow_need l) (2 ^ 32) b (k.narrow_words x) s.narrow fn n h.narrow })
    (λ _. h)

pub record SmallOrder (x : Order) : Type 0 where
  pub item : x.item < 2 ^ 32
  pub pieces : x.pieces < 2 ^ 32
  pub price : x.price < 2 ^ 32
  pub moved : x.moved < 2 ^ 32
  pub billed : x.billed < 2 ^ 32

order_words : (x : Order) → SmallOrder x → Below (2 ^ 32) (order_kind.narrow_words x)
order_words x q =
    below_cons (2 ^ 32) (cond x.sells 1 0) (x.item ∷ x.pieces ∷ x.price ∷ x.moved ∷ x.billed ∷ []) (cond_both x.sells 1 0 (λ (v : ℕ). v < 2 ^ 32) (λ _. omega arith) (λ _. omega arith))
    (below_cons (2 ^ 32) x.item (x.pieces ∷ x.price ∷ x.moved ∷ x.billed ∷ []) q.item
    (below_cons (2 ^ 32) x.pieces (x.price ∷ x.moved ∷ x.billed ∷ []) q.pieces
    (below_cons (2 ^ 32) x.price (x.moved ∷ x.billed ∷ []) q.price (below_two (2 ^ 32) x.moved x.billed q.moved q.billed))))

pub sized_put_order : (l : Limits) (k : ℕ) (x : Order) (s : State) → SmallOrder x → Sized l s → Sized l (state s.wide (put_order l k x s.narrow))
unfolding put_order
sized_put_order l k x s q h =
    cond_both (fits (order_at l k) 6 s.narrow) (over (order_at l k) (order_kind.narrow_words x) s.narrow) s.narrow (λ (n : List ℕ). Sized l (state s.wide n))
    (λ e. record { wide = h.wide; narrow = words_over (narrow_need l) (2 ^ 32) (order_at l k) (order_kind.narrow_words x) s.narrow (leb-true _ _ e) (order_words x q) h.narrow })
    (λ _. h)

-- what is read of an order are words
pub order_small : (l : Limits) (k : ℕ) (s : State) → Sized l s → SmallOrder (order_record l k s.narrow)
unfolding order_record
order_small l k s h =
    cond_both (fits (order_at l k) 6 s.narrow) (order_kind.made (word [] 0) (word s.narrow (order_at l k))) order_kind.nothing SmallOrder
    (λ _. record {
      item = h.narrow.small (order_at l k + 1);
      pieces = h.narrow.small (order_at l k + 2);
      price = h.narrow.small (order_at l k + 3);
      moved = h.narrow.small (order_at l k + 4);
      billed = h.narrow.small (order_at l k + 5);
    })
    (λ _. record { item = omega arith; pieces = omega arith; price = omega arith; moved = omega arith; billed = omega arith })

sized_count : (l : Limits) (c : Counter) (v : ℕ) (s : State) → v < 2 ^ 32 → Sized l s → Sized l (state s.wide (put_count c v s.narrow))
unfolding put_count
sized_count l c v s lt h = record { wide = h.wide; narrow = words_set (narrow_need l) (2 ^ 32) s.narrow (count_at c) v lt h.narrow }

pub sized_raised : (l : Limits) (t : Total) (x : ℕ) (s : State) → Sized l s → Sized l (state (raised t x s.wide) s.narrow)
unfolding raised put_total
sized_raised l t x s h = record { wide = words_set (wide_need l) (2 ^ 64) s.wide (total_at t) _ (omega arith) h.wide; narrow = h.narrow }

pub sized_lowered : (l : Limits) (t : Total) (x : ℕ) (s : State) → Sized l s → Sized l (state (lowered t x s.wide) s.narrow)
unfolding lowered put_total total_of
sized_lowered l t x s h =
    record { wide = words_set (wide_need l) (2 ^ 64) s.wide (total_at t) _ (omega (arith, h.wide.small (total_at t))) h.wide; narrow = h.narrow }

sized_pushed : (l : Limits) (r : Shape) (i c : ℕ) (s : State) → c < 2 ^ 32 → Sized l s → Sized l (state s.wide (pushed r i c s.narrow))
sized_pushed l r i c s lt h = record { wide = h.wide; narrow = words_pushed (narrow_need l) (2 ^ 32) r i c s.narrow lt h.narrow }

-- ONE MORE ORDER, LOT, ENTRY
pub sized_order_placed : (l : Limits) (x : Order) (s : State) → SmallOrder x → count_of Orders s.narrow + 1 < 2 ^ 32 → Sized l s → Sized l (state s.wide (order_placed l x s.narrow))
unfolding order_placed
sized_order_placed l x s q few h =
    let k : ℕ = count_of Orders s.narrow in
    sized_count l Orders (k + 1) (state s.wide (pushed (order_rows l) x.item k (put_order l k x s.narrow))) few
    (sized_pushed l (order_rows l) x.item k (state s.wide (put_order l k x s.narrow)) (omega arith) (sized_put_order l k x s q h))

-- A ROW OF A RECIPE MORE, and a recipe begun
pub record SmallPart (x : Part) : Type 0 where
  pub item : x.item < 2 ^ 32
  pub each : x.each < 2 ^ 32

pub sized_part_placed : (l : Limits) (x : Part) (s : State) → SmallPart x → count_of Parts s.narrow + 1 < 2 ^ 32 → Sized l s → Sized l (state s.wide (part_placed l x s.narrow))
unfolding part_placed put_part
sized_part_placed l x s q few h =
    let k : ℕ = count_of Parts s.narrow in
    sized_count l Parts (k + 1) (state s.wide (put_part l k x s.narrow)) few
    (cond_both (fits (part_at l k) 2 s.narrow) (over (part_at l k) (part_kind.narrow_words x) s.narrow) s.narrow (λ (n : List ℕ). Sized l (state s.wide n))
    (λ e. record { wide = h.wide; narrow = words_over (narrow_need l) (2 ^ 32) (part_at l k) (part_kind.narrow_words x) s.narrow (leb-true _ _ e) (below_two (2 ^ 32) x.item x.each q.item q.each) h.narrow })
    (λ _. h))

pub sized_recipe_placed : (l : Limits) (i k : ℕ) (s : State) → SmallPart (front i k) → count_of Parts s.narrow + 1 < 2 ^ 32 → Sized l s → Sized l (state s.wide (recipe_placed l i k s.narrow))
unfolding recipe_placed put_recipe
sized_recipe_placed l i k s q few h =
    let x : Recipe = record { first = count_of Parts s.narrow + 1; parts = k } in
    let t : State = state s.wide (part_placed l (front i k) s.narrow) in
    let ht = sized_part_placed l (front i k) s q few h in
    cond_both (fits (recipe_at i) 2 t.narrow) (over (recipe_at i) (recipe_kind.narrow_words x) t.narrow) t.narrow (λ (n : List ℕ). Sized l (state s.wide n))
    (λ e. record { wide = ht.wide; narrow = words_over (narrow_need l) (2 ^ 32) (recipe_at i) (recipe_kind.narrow_words x) t.narrow (leb-true _ _ e) (below_two (2 ^ 32) x.first k few q.each) ht.narrow })
    (λ _. ht)

pub record SmallLot (x : Lot) : Type 0 where
  pub item : x.item < 2 ^ 32
  pub pieces : x.pieces < 2 ^ 32
  pub cost : x.cost < 2 ^ 64
  pub «document» : x.«document» < 2 ^ 64

sized_put_lot : (l : Limits) (c : ℕ) (x : Lot) (s : State) → SmallLot x → Sized l s → Sized l (put_lot l c x s)
unfolding put_lot
sized_put_lot l c x s q h =
    sized_write lot_kind l (wide_lot_at l c) (lot_at l c) x s (below_two (2 ^ 64) x.cost x.«document» q.cost q.«document»)
    (below_two (2 ^ 32) x.item x.pieces q.item q.pieces) refl refl h

pub sized_lot_placed : (l : Limits) (c : ℕ) (x : Lot) (s : State) → SmallLot x → c < 2 ^ 32 → Sized l s → Sized l (lot_placed l c x s)
unfolding lot_placed moved_in
sized_lot_placed l c x s q lt h =
    let t : State = put_lot l c x s in
    let u : State = state t.wide (removed (lot_rows l) l.items (header_of (lot_rows l) l.items) c t.narrow) in
    let ht = sized_put_lot l c x s q h in
    let hu : Sized l u = record { wide = ht.wide; narrow = words_removed (narrow_need l) (2 ^ 32) (lot_rows l) l.items (header_of (lot_rows l) l.items) c t.narrow (omega arith) ht.narrow } in
    sized_count l Lots _ (state t.wide (pushed (lot_rows l) x.item c u.narrow)) (omega arith) (sized_pushed l (lot_rows l) x.item c u lt hu)

-- A LOT AS IT IS READ, and what is left of one
pub lot_small : (l : Limits) (c : ℕ) (s : State) → Sized l s → SmallLot (lot_record l c s)
unfolding lot_record
lot_small l c s h =
    cond_both (lies lot_kind (wide_lot_at l c) (lot_at l c) s) (lot_kind.made (word s.wide (wide_lot_at l c)) (word s.narrow (lot_at l c))) lot_kind.nothing SmallLot
    (λ _. record { item = h.narrow.small (lot_at l c); pieces = h.narrow.small (lot_at l c + 1); cost = h.wide.small (wide_lot_at l c); «document» = h.wide.small (wide_lot_at l c + 1) })
    (λ _. record { item = omega arith; pieces = omega arith; cost = omega arith; «document» = omega arith })

sized_lot_left : (l : Limits) (c : ℕ) (p : Lot) (s : State) → Sized l s → Sized l (put_lot l c (rest_of (lot_record l c s) p) s)
sized_lot_left l c p s h =
    let q = lot_small l c s h in
    sized_put_lot l c (rest_of (lot_record l c s) p) s
    (record { item = q.item; pieces = omega (arith, q.pieces); cost = omega (arith, q.cost); «document» = q.«document» }) h

-- ONE LOT LESS
sized_lot_freed : (l : Limits) (i c : ℕ) (s : State) → c < 2 ^ 32 → Sized l s → Sized l (state s.wide (lot_freed l i c s.narrow))
unfolding lot_freed moved_out count_of
sized_lot_freed l i c s lt h =
    let u : State = state s.wide (removed (lot_rows l) i (header_of (lot_rows l) i) c s.narrow) in
    let hu : Sized l u = record { wide = h.wide; narrow = words_removed (narrow_need l) (2 ^ 32) (lot_rows l) i (header_of (lot_rows l) i) c s.narrow (omega arith) h.narrow } in
    let v : State = state s.wide (inserted (lot_rows l) l.items (free_header l) c u.narrow) in
    let hv : Sized l v = record { wide = h.wide; narrow = words_inserted (narrow_need l) (2 ^ 32) (lot_rows l) l.items (free_header l) c u.narrow lt hu.narrow } in
    sized_count l Lots (count_of Lots s.narrow - 1) v (omega (arith, h.narrow.small (count_at Lots))) hv

-- so with all that is taken
pub steps_sized : (l : Limits) → Good l → StepsKeep l (Sized l)
steps_sized l good = record { frees = λ i c t e. sized_lot_freed l i c t (omega (arith, first_inside l i t.narrow c e, good.lots)); puts = λ i c t p _. sized_lot_left l c p t }

pub sized_taken : (l : Limits) (ws : List Want) (s : State) → Good l → Sized l s → Sized l (take_all l ws s).slices
sized_taken l ws s good h = slices_keep l (Sized l) (steps_sized l good) ws s h

-- a part of a lot is of words, as the lot is
pub part_small : (l : Limits) (c q : ℕ) (s : State) → Sized l s → SmallLot (part_of (lot_record l c s) q)
unfolding part_of
part_small l c q s h =
    let x : Lot = lot_record l c s in
    let y = lot_small l c s h in
    cond_both (leb x.pieces q) x (record { item = x.item; pieces = q; cost = share x.cost q x.pieces; «document» = x.«document» }) SmallLot (λ _. y)
    (λ less. record {
      item = y.item;
      pieces = omega (arith, y.pieces, leb-false x.pieces q less);
      cost = omega (arith, div-le_self (min (2 ^ 64 - 1) (x.cost * q)) x.pieces);
      «document» = y.«document»;
    })

pub record SmallEntry (x : Entry) : Type 0 where
  pub left : x.left < 2 ^ 32
  pub right : x.right < 2 ^ 32
  pub amount : x.amount < 2 ^ 64
  pub «document» : x.«document» < 2 ^ 64

sized_put_entry : (l : Limits) (k : ℕ) (x : Entry) (s : State) → SmallEntry x → Sized l s → Sized l (put_entry l k x s)
unfolding put_entry
sized_put_entry l k x s q h =
    sized_write entry_kind l (wide_entry_at l k) (entry_at l k) x s (below_two (2 ^ 64) x.amount x.«document» q.amount q.«document»)
    (below_two (2 ^ 32) x.left x.right q.left q.right) refl refl h

pub sized_entry_placed : (l : Limits) (x : Entry) (s : State) → SmallEntry x → count_of Entries s.narrow + 1 < 2 ^ 32 → Sized l s → Sized l (entry_placed l x s)
unfolding entry_placed entry_linked
sized_entry_placed l x s q few h =
    let k : ℕ = count_of Entries s.narrow in
    let t : State = put_entry l k x s in
    let u : State = state t.wide (pushed (entry_rows l) x.left (left_cell k) t.narrow) in
    sized_count l Entries (k + 1) (state t.wide (pushed (entry_rows l) x.right (right_cell k) u.narrow)) few
    (sized_pushed l (entry_rows l) x.right (right_cell k) u (omega arith) (sized_pushed l (entry_rows l) x.left (left_cell k) t (omega arith) (sized_put_entry l k x s q h)))

-- what is read of an entry are words
pub entry_small : (l : Limits) (k : ℕ) (s : State) → Sized l s → SmallEntry (entry_record l k s)
unfolding entry_record
entry_small l k s h =
    cond_both (lies entry_kind (wide_entry_at l k) (entry_at l k) s) (entry_kind.made (word s.wide (wide_entry_at l k)) (word s.narrow (entry_at l k))) entry_kind.nothing SmallEntry
    (λ _. record { left = h.narrow.small (entry_at l k); right = h.narrow.small (entry_at l k + 1); amount = h.wide.small (wide_entry_at l k); «document» = h.wide.small (wide_entry_at l k + 1) })
    (λ _. record { left = omega arith; right = omega arith; amount = omega arith; «document» = omega arith })

-- KEPT SUMS are words, and so is what they become
pub stock_small : (l : Limits) (i : ℕ) (s : State) → Sized l s → ((stock_of i s.wide).pieces < 2 ^ 64) × ((stock_of i s.wide).worth < 2 ^ 64)
unfolding stock_of
stock_small l i s h =
    cond_both (fits (stock_at i) 2 s.wide) (stock_kind.made (word s.wide (stock_at i)) (word [] 0)) stock_kind.nothing (λ (x : Stock). (x.pieces < 2 ^ 64) × (x.worth < 2 ^ 64))
    (λ _. (h.wide.small (stock_at i), h.wide.small (stock_at i + 1))) (λ _. (omega arith, omega arith))

pub balance_small : (l : Limits) (a : ℕ) (s : State) → Sized l s → ((balance_of a s.wide).left < 2 ^ 64) × ((balance_of a s.wide).right < 2 ^ 64)
unfolding balance_of
balance_small l a s h =
    cond_both (ltb a 16) (read_wide balance_kind (balance_at a) s.wide) balance_kind.nothing SmallBalance
    (λ _. cond_both (fits (balance_at a) 2 s.wide) (balance_kind.made (word s.wide (balance_at a)) (word [] 0)) balance_kind.nothing SmallBalance
    (λ _. (h.wide.small (balance_at a), h.wide.small (balance_at a + 1))) (λ _. (omega arith, omega arith)))
    (λ _. (omega arith, omega arith))
  where
    SmallBalance : Balance → Type 0
    SmallBalance x = (x.left < 2 ^ 64) × (x.right < 2 ^ 64)

words_write : {X : Type 0} (k : Kind X) (n a : ℕ) (x : X) (w : List ℕ) → Below (2 ^ 64) (k.wide_words x) → length (k.wide_words x) ≡ k.wide_size → Words n (2 ^ 64) w → Words n (2 ^ 64) (write_wide k a x w)
words_write k n a x w small long h =
    cond_both (fits a k.wide_size w) (over a (k.wide_words x) w) w (Words n (2 ^ 64)) (λ e. words_over n (2 ^ 64) a (k.wide_words x) w (omega (arith, leb-true _ _ e)) small h) (λ _. h)

pub sized_lot_counted : (l : Limits) (x : Lot) (s : State) → Sized l s → Sized l (state (lot_counted l x s.wide) s.narrow)
unfolding lot_counted put_stock
sized_lot_counted l x s h =
    let y : Stock = more_stock (stock_of x.item s.wide) x.pieces x.cost in
    cond_both (ltb x.item l.items) (write_wide stock_kind (stock_at x.item) y s.wide) s.wide (λ (w : List ℕ). Sized l (state w s.narrow))
    (λ _. record { wide = words_write stock_kind (wide_need l) (stock_at x.item) y s.wide (below_two (2 ^ 64) y.pieces y.worth (omega arith) (omega arith)) refl h.wide; narrow = h.narrow })
    (λ _. h)

pub sized_counted_out : (l : Limits) (i q x : ℕ) (s : State) → Sized l s → Sized l (state (counted_out l i q x s.wide) s.narrow)
unfolding counted_out put_stock
sized_counted_out l i q x s h =
    let y : Stock = less_stock (stock_of i s.wide) q x in
    let small = stock_small l i s h in
    cond_both (ltb i l.items) (write_wide stock_kind (stock_at i) y s.wide) s.wide (λ (w : List ℕ). Sized l (state w s.narrow))
    (λ _. record { wide = words_write stock_kind (wide_need l) (stock_at i) y s.wide (below_two (2 ^ 64) y.pieces y.worth (omega (arith, small.0)) (omega (arith, small.1))) refl h.wide; narrow = h.narrow })
    (λ _. h)

sized_put_balance : (l : Limits) (a : ℕ) (y : Balance) (s : State) → y.left < 2 ^ 64 → y.right < 2 ^ 64 → Sized l s → Sized l (state (put_balance a y s.wide) s.narrow)
unfolding put_balance
sized_put_balance l a y s left right h =
    cond_both (ltb a 16) (write_wide balance_kind (balance_at a) y s.wide) s.wide (λ (w : List ℕ). Sized l (state w s.narrow))
    (λ _. record { wide = words_write balance_kind (wide_need l) (balance_at a) y s.wide (below_two (2 ^ 64) y.left y.right left right) refl h.wide; narrow = h.narrow })
    (λ _. h)

pub sized_post : (l : Limits) (x : Entry) (s : State) → Sized l s → Sized l (state (post x s.wide) s.narrow)
unfolding left_posted right_posted
sized_post l x s h =
    let t : State = state (left_posted x.left x.amount s.wide) s.narrow in
    let ht : Sized l t = sized_put_balance l x.left (more_left (balance_of x.left s.wide) x.amount) s (omega arith) (balance_small l x.left s h).1 h in
    sized_put_balance l x.right (more_right (balance_of x.right t.wide) x.amount) t (balance_small l x.right t ht).0 (omega arith) ht

-- OPENED MEMORY
words_zeroed : (b k : ℕ) (xs : List ℕ) → 0 < b → length xs ≡ k → Words k b (zeroed k xs)
unfolding zeroed
words_zeroed b k xs pos e =
    record {
      long = length-append (replicate k 0) (drop k xs) ∙ omega (arith, length-replicate {A = ℕ} k 0, length-drop k xs);
      small = λ i. ⊎_elim
          (λ (lt : i < k). subst (λ (x : ℕ). x < b) (sym (get_or_append_left (replicate k 0) (drop k xs) 0 i (omega (arith, length-replicate {A = ℕ} k 0)) ∙ get_or-replicate k i 0 0 lt)) pos)
          (λ (ge : k ≤ i). subst (λ (x : ℕ). x < b)
          (sym (get_or-append_right (replicate k 0) (drop k xs) k i 0 (length-replicate {A = ℕ} k 0) ge ∙ get_or-drop k xs (i - k) 0 ∙ get_or_past xs (k + (i - k)) 0 (omega arith))) pos)
          (cases_lt i k);
    }

pub sized_opened : (l : Limits) (s : State) → Good l → length s.wide ≡ wide_need l → length s.narrow ≡ narrow_need l → Sized l (opened l s)
unfolding opened with_rows with_limits
sized_opened l s good lw ln =
    let n : ℕ = narrow_need l in
    let z : List ℕ = zeroed (narrow_need l) s.narrow in
    let w = words_set n (2 ^ 32) (set (set (set (set z 0 l.items) 1 l.orders) 2 l.lots) 3 l.parts) 4 l.entries (omega (arith, good.entries))
    (words_set n (2 ^ 32) (set (set (set z 0 l.items) 1 l.orders) 2 l.lots) 3 l.parts (omega (arith, good.parts))
    (words_set n (2 ^ 32) (set (set z 0 l.items) 1 l.orders) 2 l.lots (omega (arith, good.lots))
    (words_set n (2 ^ 32) (set z 0 l.items) 1 l.orders (omega (arith, good.orders))
    (words_set n (2 ^ 32) z 0 l.items (omega (arith, good.items)) (words_zeroed (2 ^ 32) n s.narrow (omega arith) ln))))) in
    let a : List ℕ = set (set (set (set (set z 0 l.items) 1 l.orders) 2 l.lots) 3 l.parts) 4 l.entries in
    let b : List ℕ = emptied (lot_rows l).rows (lot_rows l) 0 a in
    let c : List ℕ = filled (lot_rows l) l.items b in
    let d : List ℕ = emptied (order_rows l).rows (order_rows l) 0 c in
    record {
      wide = words_zeroed (2 ^ 64) (wide_need l) s.wide (omega arith) lw;
      narrow =
          words_emptied n (entry_rows l) (entry_rows l).rows 0 d (omega arith)
          (words_emptied n (order_rows l) (order_rows l).rows 0 c (omega (arith, good.orders))
          (words_filled n (lot_rows l) l.items b (omega (arith, good.lots)) (words_emptied n (lot_rows l) (lot_rows l).rows 0 a (omega (arith, good.lots)) w)));
    }
