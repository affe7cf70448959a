-- Opened books are empty, and keep every word beyond those that the limits ask for.
use Rattle.std.proofs.Common.{◌≡◌, ℕ, ◌+◌, ◌-◌, ◌<◌, ◌≤◌, cond, ltb, ◌≢◌, List, length, get_or, drop, set, replicate, sym, refl, ap, ◌∙◌, subst, ap₂, arith, length-append, length-drop, length-set, get_or-set_other, get_or-set_same}
use lib.ListN.{length-replicate}
use Rattle.std.proofs.lemmas.List.{get_or_append_left, get_or-append_right, get_or-replicate, get_or-drop}
use Rattle.std.proofs.lemmas.Bool.{cond_both}
use Rattle.std.specs.List.{range_with_len}
use Rattle.layout.proofs.Owners.{differ, owns_limit, owns_counter, owns_recipe}
use Rattle.layout.proofs.Placed.{lot_rows_placed, order_rows_placed, entry_rows_placed, only_both, only_rows, rows_kept}
use Rattle.layout.specs.Areas.{Placed}
use Rattle.layout.specs.Layout.{Good, count_at, total_at, balance_at, stock_at, recipe_at, wide_need, narrow_need, lot_rows, order_rows, entry_rows}
use Rattle.layout.specs.Words.{Owner, limits, counters, recipes, order_links, lot_links, entry_links, owner, Only}
use Rattle.layout.specs.declared.limits.Limits.{Limits}
use Rattle.links.proofs.Addresses.{place_inside, tail_inside}
use Rattle.links.proofs.Frames.{emptied_frame, filled_frame}
use Rattle.links.proofs.Opened.{empties, fills}
use Rattle.links.specs.Area.{Lies, filled}
use Rattle.links.specs.Rows.{Rows, Beyond, Frame, blank}
use Rattle.links.specs.declared.shape.Shape.{Shape}
use Rattle.records.specs.Kind.{fits}
use Rattle.records.specs.State.{State}
use Rattle.records.specs.declared.balance.Balance.{Balance}
use Rattle.records.specs.declared.recipe.Recipe.{Recipe}
use Rattle.records.specs.declared.stock.Stock.{Stock}
use Rattle.memory.specs.Books.{limits_in, count_of, total_of, recipe_of, balance_of, stock_of}
use Rattle.memory.specs.Opened.{zeroed, with_limits, all_empty, with_rows, opened}
use Rattle.memory.specs.Slots.{Roomy, Opens}
use Rattle.memory.proofs.Head.{count_place, total_place, limits_same}

-- ZEROED WORDS
module _ (k : ℕ) (s : List ℕ) (long : k ≤ length s) where
  pub length_zeroed : length (zeroed k s) ≡ length s
  unfolding zeroed
  length_zeroed = length-append (replicate k 0) (drop k s) ∙ omega (arith, length-replicate {A = ℕ} k 0, length-drop k s)

  pub zeroed_at : (i : ℕ) → i < k → get_or (zeroed k s) i 0 ≡ 0
  unfolding zeroed
  zeroed_at i lt = get_or_append_left (replicate k 0) (drop k s) 0 i (omega (arith, length-replicate {A = ℕ} k 0)) ∙ get_or-replicate k i 0 0 lt

  pub zeroed_beyond : (i : ℕ) → k ≤ i → get_or (zeroed k s) i 0 ≡ get_or s i 0
  unfolding zeroed
  zeroed_beyond i ge = get_or-append_right (replicate k 0) (drop k s) k i 0 (length-replicate {A = ℕ} k 0) ge ∙ get_or-drop k s (i - k) 0 ∙ ap (λ (j : ℕ). get_or s j 0) (omega arith)

-- THE LIMITS
module _ (l : Limits) (n : List ℕ) where
  abbrev n₁ : List ℕ
  n₁ = set n 0 l.items

  abbrev n₂ : List ℕ
  n₂ = set n₁ 1 l.orders

  abbrev n₃ : List ℕ
  n₃ = set n₂ 2 l.lots

  abbrev n₄ : List ℕ
  n₄ = set n₃ 3 l.parts

  length_limits : length (with_limits l n) ≡ length n
  unfolding with_limits
  length_limits = length-set n₄ 4 l.entries ∙ length-set n₃ 3 l.parts ∙ length-set n₂ 2 l.lots ∙ length-set n₁ 1 l.orders ∙ length-set n 0 l.items

  limits_other : (i : ℕ) → 5 ≤ i → get_or (with_limits l n) i 0 ≡ get_or n i 0
  unfolding with_limits
  limits_other i ge =
      get_or-set_other n₄ 4 i l.entries 0 (λ e. omega arith) ∙ get_or-set_other n₃ 3 i l.parts 0 (λ e. omega arith) ∙ get_or-set_other n₂ 2 i l.lots 0 (λ e. omega arith)
      ∙ get_or-set_other n₁ 1 i l.orders 0 (λ e. omega arith) ∙ get_or-set_other n 0 i l.items 0 (λ e. omega arith)

  limits_are : 5 ≤ length n → limits_in (with_limits l n) ≡ l
  unfolding with_limits
  limits_are long =
      let l₁ : length n₁ ≡ length n = length-set n 0 l.items in
      let l₂ : length n₂ ≡ length n = length-set n₁ 1 l.orders ∙ l₁ in
      let l₃ : length n₃ ≡ length n = length-set n₂ 2 l.lots ∙ l₂ in
      let l₄ : length n₄ ≡ length n = length-set n₃ 3 l.parts ∙ l₃ in
      let past : (m : List ℕ) (f v i : ℕ) → i < f → get_or (set m f v) i 0 ≡ get_or m i 0 = λ m f v i lt. get_or-set_other m f i v 0 (λ e. omega arith) in
      let a = past n₄ 4 l.entries 0 (omega arith) ∙ past n₃ 3 l.parts 0 (omega arith) ∙ past n₂ 2 l.lots 0 (omega arith) ∙ past n₁ 1 l.orders 0 (omega arith) ∙ get_or-set_same n 0 l.items 0 (omega arith) in
      let b = past n₄ 4 l.entries 1 (omega arith) ∙ past n₃ 3 l.parts 1 (omega arith) ∙ past n₂ 2 l.lots 1 (omega arith) ∙ get_or-set_same n₁ 1 l.orders 0 (omega arith) in
      let c = past n₄ 4 l.entries 2 (omega arith) ∙ past n₃ 3 l.parts 2 (omega arith) ∙ get_or-set_same n₂ 2 l.lots 0 (omega arith) in
      let d = past n₄ 4 l.entries 3 (omega arith) ∙ get_or-set_same n₃ 3 l.parts 0 (omega arith) in
      let e = get_or-set_same n₄ 4 l.entries 0 (omega arith) in
      let r : limits_in (set n₄ 4 l.entries) ≡ record { items = l.items; orders = l.orders; lots = l.lots; parts = l.parts; entries = l.entries } = cc (a, b, c, d, e) in
      r

-- ROWS
-- a word beyond the memory that is asked for is none of a row's
beyond_need : (x : Owner) (l : Limits) (h : Shape) → Placed x l h → (i : ℕ) → narrow_need l ≤ i → Beyond h i
beyond_need x l h placed i ge = record {
  places = λ p lt e. omega (arith, place_inside h placed.sound full lies p lt, whole);
  tails = λ r lt e. omega (arith, tail_inside h placed.sound full lies r lt, whole);
}
  where
    full : List ℕ
    full = replicate (narrow_need l) 0

    whole : length full ≡ narrow_need l
    whole = length-replicate (narrow_need l) 0

    lies : Lies h full
    lies = placed.lies full (omega (arith, whole))

module _ (l : Limits) (n : List ℕ) (good : Good l) (long : narrow_need l ≤ length n) where
  abbrev m₁ : List ℕ
  m₁ = all_empty (lot_rows l) n

  abbrev m₂ : List ℕ
  m₂ = filled (lot_rows l) l.items m₁

  abbrev m₃ : List ℕ
  m₃ = all_empty (order_rows l) m₂

  abbrev m₄ : List ℕ
  m₄ = all_empty (entry_rows l) m₃

  last_row : l.items < (lot_rows l).rows
  last_row = omega (arith, good.items)

  f₁ : Frame (lot_rows l) n m₁
  f₁ = emptied_frame (lot_rows l) n (lot_rows_placed l good).sound

  f₂ : Frame (lot_rows l) m₁ m₂
  f₂ = filled_frame (lot_rows l) m₁ l.items (lot_rows_placed l good).sound last_row

  f₃ : Frame (order_rows l) m₂ m₃
  f₃ = emptied_frame (order_rows l) m₂ (order_rows_placed l good).sound

  f₄ : Frame (entry_rows l) m₃ m₄
  f₄ = emptied_frame (entry_rows l) m₃ (entry_rows_placed l good).sound

  o₂ : Only lot_links l n m₂
  o₂ = only_both lot_links l n m₁ m₂ (only_rows lot_links l (lot_rows l) n m₁ (lot_rows_placed l good) f₁) (only_rows lot_links l (lot_rows l) m₁ m₂ (lot_rows_placed l good) f₂)

  o₃ : Only order_links l m₂ m₃
  o₃ = only_rows order_links l (order_rows l) m₂ m₃ (order_rows_placed l good) f₃

  o₄ : Only entry_links l m₃ m₄
  o₄ = only_rows entry_links l (entry_rows l) m₃ m₄ (entry_rows_placed l good) f₄

  rows_long : length m₄ ≡ length n
  rows_long = o₄.long ∙ o₃.long ∙ o₂.long

  rows_beyond : (i : ℕ) → narrow_need l ≤ i → get_or m₄ i 0 ≡ get_or n i 0
  rows_beyond i ge =
      f₄.beyond i (beyond_need entry_links l (entry_rows l) (entry_rows_placed l good) i ge) ∙ f₃.beyond i (beyond_need order_links l (order_rows l) (order_rows_placed l good) i ge)
      ∙ f₂.beyond i (beyond_need lot_links l (lot_rows l) (lot_rows_placed l good) i ge) ∙ f₁.beyond i (beyond_need lot_links l (lot_rows l) (lot_rows_placed l good) i ge)

  -- a word that is no link's stays
  rows_kept_word : (i : ℕ) (x : Owner) → owner l i ≡ x → x ≢ lot_links → x ≢ order_links → x ≢ entry_links → get_or m₄ i 0 ≡ get_or n i 0
  rows_kept_word i x e a b c = o₄.others i (λ q. c (sym e ∙ q)) ∙ o₃.others i (λ q. b (sym e ∙ q)) ∙ o₂.others i (λ q. a (sym e ∙ q))

  lot_rows_open : Rows (lot_rows l) m₄ (set (blank (l.items + 1)) l.items (range_with_len 0 l.lots))
  lot_rows_open =
      rows_kept lot_links entry_links l (lot_rows l) m₃ m₄ _ (lot_rows_placed l good) (differ _ _ (λ e. omega arith)) o₄
      (rows_kept lot_links order_links l (lot_rows l) m₂ m₃ _ (lot_rows_placed l good) (differ _ _ (λ e. omega arith)) o₃
      (subst (λ (r : ℕ). Rows (lot_rows l) m₂ (set (blank r) l.items (range_with_len 0 l.lots))) (omega (arith, good.items))
      (fills (lot_rows l) n l.items (lot_rows_placed l good).sound ((lot_rows_placed l good).lies n long) last_row)))

  order_rows_open : Rows (order_rows l) m₄ (blank l.items)
  order_rows_open =
      rows_kept order_links entry_links l (order_rows l) m₃ m₄ _ (order_rows_placed l good) (differ _ _ (λ e. omega arith)) o₄
      (empties (order_rows l) m₂ (order_rows_placed l good).sound ((order_rows_placed l good).lies m₂ (omega (arith, o₂.long))))

  entry_rows_open : Rows (entry_rows l) m₄ (blank 16)
  entry_rows_open = empties (entry_rows l) m₃ (entry_rows_placed l good).sound ((entry_rows_placed l good).lies m₃ (omega (arith, o₂.long, o₃.long)))

pub opens : (l : Limits) (s : State) → Good l → Roomy l s → Opens l s
unfolding opened with_rows count_of total_of recipe_of balance_of stock_of
opens l s good room = record {
  empty = record {
    roomy = record { wide = omega (arith, wide_same, room.wide); narrow = omega (arith, narrow_same, room.narrow) };
    limits = limits_same b r (λ i lt. kept i limits (owns_limit l i (omega arith)) (differ _ _ (λ e. omega arith)) (differ _ _ (λ e. omega arith)) (differ _ _ (λ e. omega arith))) ∙ limits_are l z (omega (arith, z_long, room.narrow));
    counts = λ c. kept (count_at c) counters (owns_counter l (count_at c) (count_place c).0 (omega (arith, count_place c))) (differ _ _ (λ e. omega arith)) (differ _ _ (λ e. omega arith)) (differ _ _ (λ e. omega arith))
        ∙ zero (count_at c) (omega (arith, count_place c)) (omega (arith, count_place c));
    totals = λ t. zeroed_at (wide_need l) s.wide room.wide (total_at t) (omega (arith, total_place t));
    recipes = λ i lt. none i lt;
    balances = λ a lt. no_balance a lt;
    stocks = λ i lt. no_stock i lt;
    lots = lot_rows_open l b good b_long;
    orders = order_rows_open l b good b_long;
    entries = entry_rows_open l b good b_long;
  };
  wide_long = wide_same;
  narrow_long = narrow_same;
  wide_beyond = λ i ge. zeroed_beyond (wide_need l) s.wide room.wide i ge;
  narrow_beyond = λ i ge. rows_beyond l b good b_long i ge ∙ limits_other l z i (omega arith) ∙ zeroed_beyond (narrow_need l) s.narrow room.narrow i ge;
}
  where
    z : List ℕ
    z = zeroed (narrow_need l) s.narrow

    z_long : length z ≡ length s.narrow
    z_long = length_zeroed (narrow_need l) s.narrow room.narrow

    b : List ℕ
    b = with_limits l z

    b_long : narrow_need l ≤ length b
    b_long = omega (arith, length_limits l z, z_long, room.narrow)

    r : List ℕ
    r = m₄ l b good b_long

    wide_same : length (zeroed (wide_need l) s.wide) ≡ length s.wide
    wide_same = length_zeroed (wide_need l) s.wide room.wide

    narrow_same : length r ≡ length s.narrow
    narrow_same = rows_long l b good b_long ∙ length_limits l z ∙ z_long

    kept : (i : ℕ) (x : Owner) → owner l i ≡ x → x ≢ lot_links → x ≢ order_links → x ≢ entry_links → get_or r i 0 ≡ get_or b i 0
    kept = rows_kept_word l b good b_long

    zero : (i : ℕ) → 5 ≤ i → i < narrow_need l → get_or b i 0 ≡ 0
    zero i ge lt = limits_other l z i ge ∙ zeroed_at (narrow_need l) s.narrow room.narrow i lt

    recipe_zero : (i j : ℕ) → i < l.items → recipe_at i ≤ j → j < recipe_at i + 2 → get_or r j 0 ≡ 0
    recipe_zero i j lt ge below =
        kept j recipes (owns_recipe l i j (omega arith) ge below) (differ _ _ (λ e. omega arith)) (differ _ _ (λ e. omega arith)) (differ _ _ (λ e. omega arith)) ∙ zero j (omega arith) (omega arith)

    recipe : ℕ → ℕ → Recipe
    recipe x y = record { first = x; parts = y }

    none : (i : ℕ) → i < l.items → cond (fits (recipe_at i) 2 r) (recipe (get_or r (recipe_at i) 0) (get_or r (recipe_at i + 1) 0)) (recipe 0 0) ≡ recipe 0 0
    none i lt =
        cond_both (fits (recipe_at i) 2 r) _ _ (λ (q : Recipe). q ≡ recipe 0 0)
        (λ _. ap₂ recipe (recipe_zero i (recipe_at i) lt (omega arith) (omega arith)) (recipe_zero i (recipe_at i + 1) lt (omega arith) (omega arith))) (λ _. refl)

    w : List ℕ
    w = zeroed (wide_need l) s.wide

    wide_zero : (i : ℕ) → i < wide_need l → get_or w i 0 ≡ 0
    wide_zero = zeroed_at (wide_need l) s.wide room.wide

    balance : ℕ → ℕ → Balance
    balance x y = record { left = x; right = y }

    no_balance : (a : ℕ) → a < 16 → cond (ltb a 16) (cond (fits (balance_at a) 2 w) (balance (get_or w (balance_at a) 0) (get_or w (balance_at a + 1) 0)) (balance 0 0)) (balance 0 0) ≡ balance 0 0
    no_balance a lt =
        cond_both (ltb a 16) _ _ (λ (q : Balance). q ≡ balance 0 0)
        (λ _. cond_both (fits (balance_at a) 2 w) _ _ (λ (q : Balance). q ≡ balance 0 0) (λ _. ap₂ balance (wide_zero (balance_at a) (omega arith)) (wide_zero (balance_at a + 1) (omega arith))) (λ _. refl)) (λ _. refl)

    stock : ℕ → ℕ → Stock
    stock x y = record { pieces = x; worth = y }

    no_stock : (i : ℕ) → i < l.items → cond (fits (stock_at i) 2 w) (stock (get_or w (stock_at i) 0) (get_or w (stock_at i + 1) 0)) (stock 0 0) ≡ stock 0 0
    no_stock i lt =
        cond_both (fits (stock_at i) 2 w) _ _ (λ (q : Stock). q ≡ stock 0 0) (λ _. ap₂ stock (wide_zero (stock_at i) (omega arith)) (wide_zero (stock_at i + 1) (omega arith))) (λ _. refl)
