-- Entries kept and read: what it means for the lists.
use Rattle.std.proofs.Common.{◌≡◌, ℕ, zero, suc, ◌+◌, ◌*◌, ◌/◌, ◌<◌, Bool, true, false, ◌||◌, eqb, leb, List, [], ◌∷◌, ◌++◌, map, length, get_or, set, Ok, sym, refl, ap, ◌∙◌, subst, ap₂, append_assoc, arith, length-set}
use Rattle.std.proofs.lemmas.List.{length_push, map-append}
use Rattle.std.proofs.lemmas.Bool.{cond-false, or_from, lt-leb}
use Rattle.layout.proofs.Owners.{differ}
use Rattle.layout.proofs.Placed.{entry_rows_placed, only_rows, only_both, only_wide_none}
use Rattle.layout.specs.Layout.{Good, entry_rows}
use Rattle.layout.specs.Words.{counters, entries, entry_links}
use Rattle.layout.specs.declared.head.Counter.TheVariants.{Entries}
use Rattle.layout.specs.declared.limits.Limits.{Limits}
use Rattle.links.proofs.Laws.{first_is, walks, follows}
use Rattle.links.specs.Model.{row}
use Rattle.links.specs.Rows.{nth}
use Rattle.memory.proofs.Head.{count_same}
use Rattle.memory.proofs.Slots.{entry_slots}
use Rattle.memory.specs.Books.{count_of, put_count, entry_record, put_entry}
use Rattle.memory.specs.Slots.{Within}
use Rattle.records.specs.Kinds.{entry_kind}
use Rattle.records.specs.State.{State, state}
use Rattle.records.specs.declared.entry.Entry.{Entry}
use Rattle.store.specs.Laws.{with_entries, AddsEntry, RefusesEntry, ReadsEntry, WalksEntries}
use Rattle.store.specs.Steps.{after, pushed, left_cell, right_cell, entry_linked, entry_placed, entry_found}
use Rattle.store.specs.View.{Kept, Numbered, pieces, only_if, cells, EntriesStand, Stands}
use Rattle.store.proofs.Beside.{BesideEntries, beside_entries_at_entries, beside_entries_at_entry_links, beside_entries_count, counted}
use Rattle.store.proofs.Numbered.{push_frame, row_pushed, pieces_push, numbered_kept, push_next}
use Rattle.store.proofs.Tables.{table_push, when_lt, when_ge}

-- all but the entries
beside : (l : Limits) (s : State) (b : Kept) → Stands l s b → BesideEntries l s b
beside l s b st = record { frame = st.frame; lots = st.lots; orders = st.orders; recipes = st.recipes; sums = st.sums }

joined : (l : Limits) (s : State) (b : Kept) (es : List Entry) → BesideEntries l s b → EntriesStand l s es → Stands l s (with_entries es b)
joined l s b es rest h = record { frame = rest.frame; lots = rest.lots; orders = rest.orders; entries = h; recipes = rest.recipes; sums = rest.sums }

module _ (l : Limits) (s : State) (b : Kept) (x : Entry) (good : Good l) (st : Stands l s b) (il : x.left < 16) (ir : x.right < 16) (less : length b.all_entries < l.entries) where
  abbrev es : List Entry
  es = b.all_entries

  abbrev k : ℕ
  k = count_of Entries s.narrow

  is : k ≡ length es
  is = st.entries.count

  few : k < l.entries
  few = omega (arith, is)

  on_left : left_cell k ≡ 2 * k
  on_left = omega (arith, good.entries)

  on_right : right_cell k ≡ 2 * k + 1
  on_right = omega (arith, good.entries)

  abbrev s₁ : State
  s₁ = put_entry l k x s

  abbrev n₂ : List ℕ
  n₂ = pushed (entry_rows l) x.left (left_cell k) s₁.narrow

  abbrev s₂ : State
  s₂ = state s₁.wide (pushed (entry_rows l) x.right (right_cell k) n₂)

  abbrev s₃ : State
  s₃ = state s₁.wide (put_count Entries (k + 1) s₂.narrow)

  abbrev m : List (List ℕ)
  m = st.entries.places

  abbrev m₁ : List (List ℕ)
  m₁ = set m x.left (row m x.left ++ left_cell k ∷ [])

  abbrev m₂ : List (List ℕ)
  m₂ = set m₁ x.right (row m₁ x.right ++ right_cell k ∷ [])

  w₁ : Within entries l s s₁
  w₁ = (entry_slots l).within k x s few

  linked₁ : Numbered (entry_rows l) s₁.narrow m (left_cell k)
  linked₁ =
      numbered_kept entry_links entries l (entry_rows l) s.narrow s₁.narrow m (left_cell k) (entry_rows_placed l good) (differ _ _ (λ e. omega arith)) w₁.narrow
      (subst (Numbered (entry_rows l) s.narrow m) (omega (arith, is, on_left)) st.entries.linked)

  left_in : left_cell k < (entry_rows l).cells
  left_in = omega (arith, on_left, good.entries)

  right_in : right_cell k < (entry_rows l).cells
  right_in = omega (arith, on_right, good.entries)

  linked₂ : Numbered (entry_rows l) n₂ m₁ (right_cell k)
  linked₂ =
      subst (Numbered (entry_rows l) n₂ m₁) (omega (arith, on_left, on_right)) (push_next (entry_rows l) s₁.narrow m x.left (left_cell k) (entry_rows_placed l good).sound il left_in linked₁)

  w₂ : Within entry_links l s₁ s₂
  w₂ = record {
    wide = only_wide_none entry_links l s₁.wide;
    narrow = only_both entry_links l s₁.narrow n₂ s₂.narrow
        (only_rows entry_links l (entry_rows l) s₁.narrow n₂ (entry_rows_placed l good) (push_frame (entry_rows l) s₁.narrow m x.left (left_cell k) (entry_rows_placed l good).sound linked₁.held il left_in))
        (only_rows entry_links l (entry_rows l) n₂ s₂.narrow (entry_rows_placed l good) (push_frame (entry_rows l) n₂ m₁ x.right (right_cell k) (entry_rows_placed l good).sound linked₂.held ir right_in));
  }

  w₃ : Within counters l s₂ s₃
  w₃ = counted Entries (k + 1) l s₂

  linked₃ : Numbered (entry_rows l) s₃.narrow m₂ (2 * length (es ++ x ∷ []))
  linked₃ =
      subst (Numbered (entry_rows l) s₃.narrow m₂) (omega (arith, is, on_right, length_push es x))
      (numbered_kept entry_links counters l (entry_rows l) s₂.narrow s₃.narrow m₂ (right_cell k + 1) (entry_rows_placed l good) (differ _ _ (λ e. omega arith)) w₃.narrow
      (push_next (entry_rows l) n₂ m₁ x.right (right_cell k) (entry_rows_placed l good).sound ir right_in linked₂))

  later : (j : ℕ) → j < l.entries → entry_record l j s₃ ≡ entry_record l j s₁
  later j lt = (entry_slots l).kept j counters s₂ s₃ lt (differ _ _ (λ e. omega arith)) w₃ ∙ (entry_slots l).kept j entry_links s₁ s₂ lt (differ _ _ (λ e. omega arith)) w₂

  many : length m ≡ 16
  many = st.entries.linked.held.many

  of_account : (a : ℕ) → a < 16 → row m₂ a ≡ cells a 0 (es ++ x ∷ [])
  of_account a lt =
      row_pushed m₁ x.right (right_cell k) a (omega (arith, many, length-set m x.left (row m x.left ++ left_cell k ∷ [])))
      ∙ ap (λ (r : List ℕ). r ++ only_if (eqb x.right a) (right_cell k)) (row_pushed m x.left (left_cell k) a (omega (arith, many)))
      ∙ append_assoc (row m a) (only_if (eqb x.left a) (left_cell k)) (only_if (eqb x.right a) (right_cell k))
      ∙ ap₂ (λ (p q : ℕ). row m a ++ (only_if (eqb x.left a) p ++ only_if (eqb x.right a) q)) on_left on_right
      ∙ ap₂ (λ (r : List ℕ) (j : ℕ). r ++ (only_if (eqb x.left a) (2 * j) ++ only_if (eqb x.right a) (2 * j + 1))) (st.entries.of_account a lt) (omega (arith, is))
      ∙ sym (pieces_push (λ j e. only_if (eqb e.left a) (2 * j) ++ only_if (eqb e.right a) (2 * j + 1)) 0 es x)

  entry_comes : Stands l (entry_placed l x s) (with_entries (es ++ x ∷ []) b)
  unfolding entry_placed entry_linked
  entry_comes =
      joined l s₃ b (es ++ x ∷ []) (beside_entries_count l s₂ b (k + 1) good (beside_entries_at_entry_links l s₁ s₂ b good w₂ (beside_entries_at_entries l s s₁ b good w₁ (beside l s b st))))
      (record {
        count = count_same Entries (k + 1) s₂.narrow (omega (arith, w₁.narrow.long, w₂.narrow.long, st.frame.roomy.narrow)) ∙ omega (arith, is, length_push es x);
        few = omega (arith, length_push es x);
        each = table_push (λ j. entry_record l j s) (λ j. entry_record l j s₃) entry_kind.nothing x es
            (ap (λ (j : ℕ). entry_record l j s₃) (sym is) ∙ later k few ∙ (entry_slots l).same k x s st.frame.roomy few)
            (λ j lt. later j (omega arith) ∙ (entry_slots l).other j k x s (λ e. omega (arith, is))) st.entries.each;
        places = m₂;
        linked = linked₃;
        of_account = of_account;
      })

pub adds_entry : AddsEntry
adds_entry l s b x good st il ir less = (
  cond-false (leb 16 x.left || leb 16 x.right) _ _ (or_from _ _ (lt-leb 16 x.left il) (lt-leb 16 x.right ir))
      ∙ when_lt (count_of Entries s.narrow) l.entries _ _ (omega (arith, st.entries.count)) ∙ ap (λ (j : ℕ). after (Ok j) (entry_placed l x s)) st.entries.count,
  entry_comes l s b x good st il ir less,
)

pub refuses_entry : RefusesEntry
refuses_entry l s b x st il ir full =
    cond-false (leb 16 x.left || leb 16 x.right) _ _ (or_from _ _ (lt-leb 16 x.left il) (lt-leb 16 x.right ir))
    ∙ when_ge (count_of Entries s.narrow) l.entries _ _ (omega (arith, st.entries.count))

-- READING
found_nth : (l : Limits) (s : State) (js : List ℕ) (k : ℕ) → entry_found l s (nth js k) ≡ nth (map (λ c. entry_record l (c / 2) s) js) k
found_nth l s [] k = refl
found_nth l s (j ∷ js) zero = refl
found_nth l s (j ∷ js) (suc k) = found_nth l s js k

-- the cells of an account lead to its entries
cells_read : (get : ℕ → Entry) (a k : ℕ) (es : List Entry) → ((j : ℕ) → j < length es → get (k + j) ≡ get_or es j entry_kind.nothing) →
    map (λ c. get (c / 2)) (cells a k es) ≡ pieces (λ j e. only_if (eqb e.left a) e ++ only_if (eqb e.right a) e) k es
cells_read get a k [] each = refl
cells_read get a k (e ∷ es) each =
    map-append (λ c. get (c / 2)) (only_if (eqb e.left a) (2 * k) ++ only_if (eqb e.right a) (2 * k + 1)) (cells a (k + 1) es)
    ∙ ap₂ (λ (p q : List Entry). p ++ q)
    (map-append (λ c. get (c / 2)) (only_if (eqb e.left a) (2 * k)) (only_if (eqb e.right a) (2 * k + 1))
    ∙ ap₂ (λ (p q : List Entry). p ++ q) (one (eqb e.left a) (2 * k) (omega arith)) (one (eqb e.right a) (2 * k + 1) (omega arith)))
    (cells_read get a (k + 1) es (λ j lt. ap get (omega arith) ∙ each (suc j) (omega arith)))
  where
    here : get k ≡ e
    here = ap get (omega arith) ∙ each 0 (omega arith)

    one : (t : Bool) (c : ℕ) → c / 2 ≡ k → map (λ i. get (i / 2)) (only_if t c) ≡ only_if t e
    one true c q = ap (λ (y : Entry). y ∷ []) (ap get q ∙ here)
    one false c q = refl

pub reads_entry : ReadsEntry
reads_entry l s b a k good st it =
    when_lt a 16 _ _ it ∙ ap (entry_found l s) (walks (entry_rows l) s.narrow st.entries.places a k (entry_rows_placed l good).sound st.entries.linked.held it)
    ∙ found_nth l s (row st.entries.places a) k
    ∙ ap (λ (js : List ℕ). nth (map (λ c. entry_record l (c / 2) s) js) k) (st.entries.of_account a it)
    ∙ ap (λ (xs : List Entry). nth xs k) (cells_read (λ j. entry_record l j s) a 0 b.all_entries (λ j lt. ap (λ (i : ℕ). entry_record l i s) (omega arith) ∙ st.entries.each j lt))

pub walks_entries : WalksEntries
walks_entries l s b a good st it = record {
  places = row st.entries.places a;
  each = ap (map (λ c. entry_record l (c / 2) s)) (st.entries.of_account a it)
      ∙ cells_read (λ j. entry_record l j s) a 0 b.all_entries (λ j lt. ap (λ (i : ℕ). entry_record l i s) (omega arith) ∙ st.entries.each j lt);
  starts = when_lt a 16 _ _ it ∙ first_is (entry_rows l) s.narrow st.entries.places a (entry_rows_placed l good).sound st.entries.linked.held it;
  goes_on = λ bs cs c e. follows (entry_rows l) s.narrow st.entries.places a c bs cs (entry_rows_placed l good).sound st.entries.linked.held it e;
}
