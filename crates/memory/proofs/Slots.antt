-- The laws of slots, once for any kind of record that lies in rows of its own words, and at each kind.
use Rattle.std.proofs.Common.{◌≡◌, ℕ, ◌+◌, ◌<◌, ◌≤◌, Bool, true, false, cond, ◌&&◌, ltb, leb, ◌≢◌, ◌⊎◌, List, [], length, sym, refl, ap, ◌∙◌, subst, inl, inr, ⊎_elim, arith}
use Rattle.std.proofs.lemmas.Bool.{cases_lt, le-leb, cond-true, cond-false, lt-ltb, le-ltb}
use Rattle.layout.proofs.Owners.{owns_balance, owns_stock, owns_recipe, owns_order, owns_lot, owns_part, owns_entry, owns_wide_lot, owns_wide_entry}
use Rattle.layout.specs.Layout.{balance_at, stock_at, recipe_at, order_at, lot_at, part_at, entry_at, wide_lot_at, wide_entry_at, wide_need, narrow_need}
use Rattle.layout.specs.Words.{Owner, balances, stocks, orders, lots, recipes, parts, entries, owner, wide_owner}
use Rattle.layout.specs.declared.limits.Limits.{Limits}
use Rattle.records.proofs.Laws.{record_laws}
use Rattle.records.specs.Kind.{Kind, over, fits, word, read, write, write_wide, Outside, Laws}
use Rattle.records.specs.Kinds.{lot_kind, order_kind, entry_kind, part_kind, recipe_kind, stock_kind, balance_kind}
use Rattle.records.specs.State.{State, state}
use Rattle.records.specs.declared.balance.Balance.{Balance}
use Rattle.memory.specs.Books.{order_record, put_order, lot_record, put_lot, entry_record, put_entry, part_record, put_part, recipe_of, put_recipe, balance_of, put_balance, stock_of, put_stock}
use Rattle.memory.specs.Slots.{Within, Slots}

-- rows of so many words at `at 0`, `at 1` and so on, each before the next
pub record Strip (size : ℕ) (at : ℕ → ℕ) : Type 0 where
  pub above : (j k i : ℕ) → j < k → i < at j + size → i < at k

outside : (size : ℕ) (at : ℕ → ℕ) → Strip size at → (j k i : ℕ) → j ≢ k → at j ≤ i → i < at j + size → Outside (at k) size i
outside size at strip j k i ne ge lt =
    ⊎_elim (λ (b : j < k). inl (strip.above j k i b lt)) (λ (b : k ≤ j). inr (after b (cases_lt i (at k + size)))) (cases_lt j k)
  where
    after : k ≤ j → (i < at k + size) ⊎ (at k + size ≤ i) → at k + size ≤ i
    after b (inl l) = let less : k < j = omega arith in absurd (omega (arith, strip.above k j i less l))
    after b (inr g) = g

-- where the rows of a kind lie
pub record Lie {X : Type 0} (k : Kind X) (x : Owner) (l : Limits) (n : ℕ) (a b : ℕ → ℕ) : Type 0 where
  pub wide_apart : Strip k.wide_size a
  pub narrow_apart : Strip k.narrow_size b
  pub wide_own : (j i : ℕ) → j < n → a j ≤ i → i < a j + k.wide_size → wide_owner l i ≡ x
  pub narrow_own : (j i : ℕ) → j < n → b j ≤ i → i < b j + k.narrow_size → owner l i ≡ x
  pub wide_inside : (j : ℕ) → j < n → a j + k.wide_size ≤ wide_need l
  pub narrow_inside : (j : ℕ) → j < n → b j + k.narrow_size ≤ narrow_need l

module _ {X : Type 0} (k : Kind X) (x : Owner) (l : Limits) (n : ℕ) (a b : ℕ → ℕ) (laws : Laws k) (lie : Lie k x l n a b) where
  -- a word of another owner is none of a row's
  not_wide : (j i : ℕ) → j < n → wide_owner l i ≢ x → Outside (a j) k.wide_size i
  not_wide j i lt ne =
      ⊎_elim (λ (p : i < a j). inl p) (λ (p : a j ≤ i). ⊎_elim (λ (q : i < a j + k.wide_size). absurd (ne (lie.wide_own j i lt p q))) (λ (q : a j + k.wide_size ≤ i). inr q) (cases_lt i (a j + k.wide_size)))
      (cases_lt i (a j))

  not_narrow : (j i : ℕ) → j < n → owner l i ≢ x → Outside (b j) k.narrow_size i
  not_narrow j i lt ne =
      ⊎_elim (λ (p : i < b j). inl p)
      (λ (p : b j ≤ i). ⊎_elim (λ (q : i < b j + k.narrow_size). absurd (ne (lie.narrow_own j i lt p q))) (λ (q : b j + k.narrow_size ≤ i). inr q) (cases_lt i (b j + k.narrow_size))) (cases_lt i (b j))

  pub slots : Slots x l n (λ j s. read k (a j) (b j) s) (λ j v s. write k (a j) (b j) v s)
  slots = record {
    same = λ j v s room lt. laws.same (a j) (b j) v s (omega (arith, lie.wide_inside j lt, room.wide)) (omega (arith, lie.narrow_inside j lt, room.narrow));
    other = λ i j v s ne. laws.depends (a i) (b i) s (write k (a j) (b j) v s) (laws.long (a j) (b j) v s).0 (laws.long (a j) (b j) v s).1
        (λ q ge lt. laws.wide_kept (a j) (b j) v s q (outside k.wide_size a lie.wide_apart i j q ne ge lt))
        (λ q ge lt. laws.narrow_kept (a j) (b j) v s q (outside k.narrow_size b lie.narrow_apart i j q ne ge lt));
    within = λ j v s lt. record {
      wide = record { long = (laws.long (a j) (b j) v s).0; others = λ i ne. laws.wide_kept (a j) (b j) v s i (not_wide j i lt ne) };
      narrow = record { long = (laws.long (a j) (b j) v s).1; others = λ i ne. laws.narrow_kept (a j) (b j) v s i (not_narrow j i lt ne) };
    };
    kept = λ j y s s' lt ne with_in. laws.depends (a j) (b j) s s' with_in.wide.long with_in.narrow.long
        (λ i ge below. with_in.wide.others i (λ e. ne (sym (lie.wide_own j i lt ge below) ∙ e)))
        (λ i ge below. with_in.narrow.others i (λ e. ne (sym (lie.narrow_own j i lt ge below) ∙ e)));
  }

-- the same slots, read and written in other words
slots_as : {X : Type 0} (x : Owner) (l : Limits) (n : ℕ) (get get' : ℕ → State → X) (put put' : ℕ → X → State → State) → ((k : ℕ) (s : State) → get' k s ≡ get k s) →
    ((k : ℕ) (v : X) (s : State) → put' k v s ≡ put k v s) → Slots x l n get put → Slots x l n get' put'
slots_as x l n get get' put put' g p slots = record {
  same = λ k v s room lt. g k (put' k v s) ∙ ap (get k) (p k v s) ∙ slots.same k v s room lt;
  other = λ j k v s ne. g j (put' k v s) ∙ ap (get j) (p k v s) ∙ slots.other j k v s ne ∙ sym (g j s);
  within = λ k v s lt. subst (Within x l s) (sym (p k v s)) (slots.within k v s lt);
  kept = λ k y s s' lt ne with_in. g k s' ∙ slots.kept k y s s' lt ne with_in ∙ sym (g k s);
}

-- a kind that has no wide words
narrow_read : {X : Type 0} (q : Bool) (w : List ℕ) (v z : X) → cond q v z ≡ cond (leb (0 + 0) (length w) && q) v z
narrow_read q w v z = ap (λ (t : Bool). cond (t && q) v z) (sym (le-leb (0 + 0) (length w) (omega arith)))

narrow_write : (q : Bool) (w m n : List ℕ) → state w (cond q m n) ≡ cond (leb (0 + 0) (length w) && q) (state (over 0 [] w) m) (state w n)
unfolding over
narrow_write q w m n = by q ∙ ap (λ (t : Bool). cond (t && q) (state w m) (state w n)) (sym (le-leb (0 + 0) (length w) (omega arith)))
  where
    by : (q : Bool) → state w (cond q m n) ≡ cond q (state w m) (state w n)
    by true = refl
    by false = refl

-- a kind that has no narrow words
wide_read : {X : Type 0} (q : Bool) (n : List ℕ) (v z : X) → cond q v z ≡ cond (q && leb (0 + 0) (length n)) v z
wide_read q n v z = by q ∙ ap (λ (t : Bool). cond (q && t) v z) (sym (le-leb (0 + 0) (length n) (omega arith)))
  where
    by : (q : Bool) → cond q v z ≡ cond (q && true) v z
    by true = refl
    by false = refl

wide_write : (q : Bool) (w m n : List ℕ) → state (cond q m w) n ≡ cond (q && leb (0 + 0) (length n)) (state m (over 0 [] n)) (state w n)
unfolding over
wide_write q w m n = by q ∙ ap (λ (t : Bool). cond (q && t) (state m n) (state w n)) (sym (le-leb (0 + 0) (length n) (omega arith)))
  where
    by : (q : Bool) → state (cond q m w) n ≡ cond (q && true) (state m n) (state w n)
    by true = refl
    by false = refl

-- EACH KIND
pub order_slots : (l : Limits) → Slots orders l l.orders (λ k s. order_record l k s.narrow) (λ k x s. state s.wide (put_order l k x s.narrow))
unfolding order_record put_order
order_slots l =
    slots_as orders l l.orders _ _ _ _
    (λ k s. narrow_read (fits (order_at l k) 6 s.narrow) s.wide (order_kind.made (word s.wide 0) (word s.narrow (order_at l k))) order_kind.nothing)
    (λ k x s. narrow_write (fits (order_at l k) 6 s.narrow) s.wide (over (order_at l k) (order_kind.narrow_words x) s.narrow) s.narrow)
    (slots order_kind orders l l.orders (λ k. 0) (order_at l) record_laws.orders (record {
      wide_apart = record { above = λ j k i lt b. absurd (omega arith) };
      narrow_apart = record { above = λ j k i lt b. omega arith };
      wide_own = λ j i lt ge b. absurd (omega arith);
      narrow_own = λ j i lt ge b. owns_order l j i lt ge b;
      wide_inside = λ j lt. omega arith;
      narrow_inside = λ j lt. omega arith;
    }))

pub part_slots : (l : Limits) → Slots parts l l.parts (λ k s. part_record l k s.narrow) (λ k x s. state s.wide (put_part l k x s.narrow))
unfolding part_record put_part
part_slots l =
    slots_as parts l l.parts _ _ _ _
    (λ k s. narrow_read (fits (part_at l k) 2 s.narrow) s.wide (part_kind.made (word s.wide 0) (word s.narrow (part_at l k))) part_kind.nothing)
    (λ k x s. narrow_write (fits (part_at l k) 2 s.narrow) s.wide (over (part_at l k) (part_kind.narrow_words x) s.narrow) s.narrow)
    (slots part_kind parts l l.parts (λ k. 0) (part_at l) record_laws.parts (record {
      wide_apart = record { above = λ j k i lt b. absurd (omega arith) };
      narrow_apart = record { above = λ j k i lt b. omega arith };
      wide_own = λ j i lt ge b. absurd (omega arith);
      narrow_own = λ j i lt ge b. owns_part l i (omega arith) (omega arith);
      wide_inside = λ j lt. omega arith;
      narrow_inside = λ j lt. omega arith;
    }))

pub recipe_slots : (l : Limits) → Slots recipes l l.items (λ i s. recipe_of i s.narrow) (λ i x s. state s.wide (put_recipe i x s.narrow))
unfolding recipe_of put_recipe
recipe_slots l =
    slots_as recipes l l.items _ _ _ _
    (λ k s. narrow_read (fits (recipe_at k) 2 s.narrow) s.wide (recipe_kind.made (word s.wide 0) (word s.narrow (recipe_at k))) recipe_kind.nothing)
    (λ k x s. narrow_write (fits (recipe_at k) 2 s.narrow) s.wide (over (recipe_at k) (recipe_kind.narrow_words x) s.narrow) s.narrow)
    (slots recipe_kind recipes l l.items (λ k. 0) recipe_at record_laws.recipes (record {
      wide_apart = record { above = λ j k i lt b. absurd (omega arith) };
      narrow_apart = record { above = λ j k i lt b. omega arith };
      wide_own = λ j i lt ge b. absurd (omega arith);
      narrow_own = λ j i lt ge b. owns_recipe l j i (omega arith) ge b;
      wide_inside = λ j lt. omega arith;
      narrow_inside = λ j lt. omega arith;
    }))

pub lot_slots : (l : Limits) → Slots lots l l.lots (lot_record l) (put_lot l)
unfolding lot_record put_lot
lot_slots l =
    slots lot_kind lots l l.lots (wide_lot_at l) (lot_at l) record_laws.lots (record {
      wide_apart = record { above = λ j k i lt b. omega arith };
      narrow_apart = record { above = λ j k i lt b. omega arith };
      wide_own = λ j i lt ge b. owns_wide_lot l i (omega arith) (omega arith);
      narrow_own = λ j i lt ge b. owns_lot l j i lt ge b;
      wide_inside = λ j lt. omega arith;
      narrow_inside = λ j lt. omega arith;
    })

pub entry_slots : (l : Limits) → Slots entries l l.entries (entry_record l) (put_entry l)
unfolding entry_record put_entry
entry_slots l =
    slots entry_kind entries l l.entries (wide_entry_at l) (entry_at l) record_laws.entries (record {
      wide_apart = record { above = λ j k i lt b. omega arith };
      narrow_apart = record { above = λ j k i lt b. omega arith };
      wide_own = λ j i lt ge b. owns_wide_entry l i (omega arith);
      narrow_own = λ j i lt ge b. owns_entry l i (omega arith) (omega arith);
      wide_inside = λ j lt. omega arith;
      narrow_inside = λ j lt. omega arith;
    })

pub stock_slots : (l : Limits) → Slots stocks l l.items (λ i s. stock_of i s.wide) (λ i x s. state (put_stock i x s.wide) s.narrow)
unfolding stock_of put_stock
stock_slots l =
    slots_as stocks l l.items _ _ _ _
    (λ k s. wide_read (fits (stock_at k) 2 s.wide) s.narrow (stock_kind.made (word s.wide (stock_at k)) (word s.narrow 0)) stock_kind.nothing)
    (λ k x s. wide_write (fits (stock_at k) 2 s.wide) s.wide (over (stock_at k) (stock_kind.wide_words x) s.wide) s.narrow)
    (slots stock_kind stocks l l.items stock_at (λ k. 0) record_laws.stocks (record {
      wide_apart = record { above = λ j k i lt b. omega arith };
      narrow_apart = record { above = λ j k i lt b. absurd (omega arith) };
      wide_own = λ j i lt ge b. owns_stock l i (omega arith) (omega arith);
      narrow_own = λ j i lt ge b. absurd (omega arith);
      wide_inside = λ j lt. omega arith;
      narrow_inside = λ j lt. omega arith;
    }))

-- slots of which those from n on are not there: nothing is read of them, and nothing written
slots_below : {X : Type 0} (x : Owner) (l : Limits) (n : ℕ) (get : ℕ → State → X) (put : ℕ → X → State → State) (z : X) → Slots x l n get put →
    Slots x l n (λ k s. cond (ltb k n) (get k s) z) (λ k v s. cond (ltb k n) (put k v s) s)
slots_below {X} x l n get put z base = record {
  same = λ k v s room lt. got k _ lt ∙ ap (get k) (done k v s lt) ∙ base.same k v s room lt;
  other = λ j k v s ne. ⊎_elim
      (λ (lt : k < n). ap (λ (t : State). cond (ltb j n) (get j t) z) (done k v s lt) ∙ ap (λ (r : X). cond (ltb j n) r z) (base.other j k v s ne))
      (λ (ge : n ≤ k). ap (λ (t : State). cond (ltb j n) (get j t) z) (cond-false (ltb k n) (put k v s) s (le-ltb k n ge))) (cases_lt k n);
  within = λ k v s lt. subst (Within x l s) (sym (done k v s lt)) (base.within k v s lt);
  kept = λ k y s s' lt ne with_in. got k s' lt ∙ base.kept k y s s' lt ne with_in ∙ sym (got k s lt);
}
  where
    got : (k : ℕ) (s : State) → k < n → cond (ltb k n) (get k s) z ≡ get k s
    got k s lt = cond-true (ltb k n) (get k s) z (lt-ltb k n lt)

    done : (k : ℕ) (v : X) (s : State) → k < n → cond (ltb k n) (put k v s) s ≡ put k v s
    done k v s lt = cond-true (ltb k n) (put k v s) s (lt-ltb k n lt)

pub balance_slots : (l : Limits) → Slots balances l 16 (λ a s. balance_of a s.wide) (λ a x s. state (put_balance a x s.wide) s.narrow)
unfolding balance_of put_balance
balance_slots l =
    slots_as balances l 16 _ _ _ _
    (λ k s. ap (λ (r : Balance). cond (ltb k 16) r balance_kind.nothing)
    (wide_read (fits (balance_at k) 2 s.wide) s.narrow (balance_kind.made (word s.wide (balance_at k)) (word s.narrow 0)) balance_kind.nothing))
    (λ k x s. tested (ltb k 16) (write_wide balance_kind (balance_at k) x s.wide) s
    ∙ ap (λ (t : State). cond (ltb k 16) t s) (wide_write (fits (balance_at k) 2 s.wide) s.wide (over (balance_at k) (balance_kind.wide_words x) s.wide) s.narrow))
    (slots_below balances l 16 (λ k s. read balance_kind (balance_at k) 0 s) (λ k v s. write balance_kind (balance_at k) 0 v s) balance_kind.nothing
    (slots balance_kind balances l 16 balance_at (λ k. 0) record_laws.balances (record {
      wide_apart = record { above = λ j k i lt b. omega arith };
      narrow_apart = record { above = λ j k i lt b. absurd (omega arith) };
      wide_own = λ j i lt ge b. owns_balance l i (omega arith) (omega arith);
      narrow_own = λ j i lt ge b. absurd (omega arith);
      wide_inside = λ j lt. omega arith;
      narrow_inside = λ j lt. omega arith;
    })))
  where
    tested : (q : Bool) (m : List ℕ) (s : State) → state (cond q m s.wide) s.narrow ≡ cond q (state m s.narrow) s
    tested true m s = refl
    tested false m s = refl
