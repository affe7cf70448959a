-- Orders kept, changed and read: what it means for the lists.
use Rattle.std.proofs.Common.{◌≡◌, ℕ, ◌+◌, ◌<◌, eqb, List, [], ◌∷◌, ◌++◌, length, set, Ok, sym, ap, ◌∙◌, subst, arith, length-set}
use Rattle.std.proofs.lemmas.List.{length_push, map-id}
use Rattle.layout.proofs.Owners.{differ}
use Rattle.layout.proofs.Placed.{order_rows_placed, only_rows, only_wide_none}
use Rattle.layout.specs.Layout.{Good, order_rows}
use Rattle.layout.specs.Words.{counters, orders, order_links}
use Rattle.layout.specs.declared.head.Counter.TheVariants.{Orders}
use Rattle.layout.specs.declared.limits.Limits.{Limits}
use Rattle.links.proofs.Laws.{first_is, walks, follows}
use Rattle.links.specs.Model.{row}
use Rattle.links.specs.Rows.{nth}
use Rattle.memory.proofs.Head.{count_same, count_kept}
use Rattle.memory.proofs.Slots.{order_slots}
use Rattle.memory.specs.Books.{count_of, put_count, order_record, put_order}
use Rattle.memory.specs.Slots.{Within}
use Rattle.records.specs.Kinds.{order_kind}
use Rattle.records.specs.State.{State, state}
use Rattle.records.specs.declared.order.Order.{Order}
use Rattle.store.specs.Laws.{with_orders, AddsOrder, RefusesOrder, SetsOrder, ReadsOrder, WalksOrders}
use Rattle.store.specs.Steps.{after, pushed, order_placed}
use Rattle.store.specs.View.{Kept, Numbered, only_if, numbers, OrdersStand, Stands}
use Rattle.store.proofs.Beside.{BesideOrders, beside_orders_at_orders, beside_orders_at_order_links, beside_orders_count, counted}
use Rattle.store.proofs.Numbered.{push_frame, row_pushed, pieces_push, pieces_set, numbered_kept, push_next}
use Rattle.store.proofs.Tables.{table_push, table_set, when_lt, when_ge}

-- all but the orders
beside : (l : Limits) (s : State) (b : Kept) → Stands l s b → BesideOrders l s b
beside l s b st = record { frame = st.frame; lots = st.lots; entries = st.entries; recipes = st.recipes; sums = st.sums }

joined : (l : Limits) (s : State) (b : Kept) (os : List Order) → BesideOrders l s b → OrdersStand l s os → Stands l s (with_orders os b)
joined l s b os rest h = record { frame = rest.frame; lots = rest.lots; orders = h; entries = rest.entries; recipes = rest.recipes; sums = rest.sums }

module _ (l : Limits) (s : State) (b : Kept) (x : Order) (good : Good l) (st : Stands l s b) (it : x.item < l.items) (less : length b.all_orders < l.orders) where
  abbrev os : List Order
  os = b.all_orders

  abbrev k : ℕ
  k = count_of Orders s.narrow

  is : k ≡ length os
  is = st.orders.count

  few : k < l.orders
  few = omega (arith, is)

  abbrev s₁ : State
  s₁ = state s.wide (put_order l k x s.narrow)

  abbrev s₂ : State
  s₂ = state s.wide (pushed (order_rows l) x.item k s₁.narrow)

  abbrev s₃ : State
  s₃ = state s.wide (put_count Orders (k + 1) s₂.narrow)

  w₁ : Within orders l s s₁
  w₁ = (order_slots l).within k x s few

  linked₁ : Numbered (order_rows l) s₁.narrow st.orders.places k
  linked₁ =
      numbered_kept order_links orders l (order_rows l) s.narrow s₁.narrow st.orders.places k (order_rows_placed l good) (differ _ _ (λ e. omega arith)) w₁.narrow
      (subst (Numbered (order_rows l) s.narrow st.orders.places) (sym is) st.orders.linked)

  w₂ : Within order_links l s₁ s₂
  w₂ = record {
    wide = only_wide_none order_links l s.wide;
    narrow = only_rows order_links l (order_rows l) s₁.narrow s₂.narrow (order_rows_placed l good) (push_frame (order_rows l) s₁.narrow st.orders.places x.item k (order_rows_placed l good).sound linked₁.held it few);
  }

  w₃ : Within counters l s₂ s₃
  w₃ = counted Orders (k + 1) l s₂

  abbrev places : List (List ℕ)
  places = set st.orders.places x.item (row st.orders.places x.item ++ k ∷ [])

  linked₃ : Numbered (order_rows l) s₃.narrow places (length (os ++ x ∷ []))
  linked₃ =
      subst (Numbered (order_rows l) s₃.narrow places) (omega (arith, is, length_push os x))
      (numbered_kept order_links counters l (order_rows l) s₂.narrow s₃.narrow places (k + 1) (order_rows_placed l good) (differ _ _ (λ e. omega arith)) w₃.narrow
      (push_next (order_rows l) s₁.narrow st.orders.places x.item k (order_rows_placed l good).sound it few linked₁))

  later : (j : ℕ) → j < l.orders → order_record l j s₃.narrow ≡ order_record l j s₁.narrow
  later j lt = (order_slots l).kept j counters s₂ s₃ lt (differ _ _ (λ e. omega arith)) w₃ ∙ (order_slots l).kept j order_links s₁ s₂ lt (differ _ _ (λ e. omega arith)) w₂

  order_comes : Stands l (state s.wide (order_placed l x s.narrow)) (with_orders (os ++ x ∷ []) b)
  unfolding order_placed
  order_comes =
      joined l s₃ b (os ++ x ∷ []) (beside_orders_count l s₂ b (k + 1) good (beside_orders_at_order_links l s₁ s₂ b good w₂ (beside_orders_at_orders l s s₁ b good w₁ (beside l s b st))))
      (record {
        count = count_same Orders (k + 1) s₂.narrow (omega (arith, w₁.narrow.long, w₂.narrow.long, st.frame.roomy.narrow)) ∙ omega (arith, is, length_push os x);
        few = omega (arith, length_push os x);
        each = table_push (λ j. order_record l j s.narrow) (λ j. order_record l j s₃.narrow) order_kind.nothing x os
            (ap (λ (j : ℕ). order_record l j s₃.narrow) (sym is) ∙ later k few ∙ (order_slots l).same k x s st.frame.roomy few)
            (λ j lt. later j (omega arith) ∙ (order_slots l).other j k x s (λ e. omega (arith, is))) st.orders.each;
        places = places;
        linked = linked₃;
        of_item = λ i lt. row_pushed st.orders.places x.item k i (omega (arith, st.orders.linked.held.many))
            ∙ ap (λ (r : List ℕ). r ++ only_if (eqb x.item i) k) (st.orders.of_item i lt) ∙ ap (λ (j : ℕ). numbers i 0 os ++ only_if (eqb x.item i) j) (omega (arith, is))
            ∙ sym (pieces_push (λ j o. only_if (eqb o.item i) j) 0 os x);
      })

pub adds_order : AddsOrder
adds_order l s b x good st it less = (
  when_lt x.item l.items _ _ it ∙ when_lt (count_of Orders s.narrow) l.orders _ _ (omega (arith, st.orders.count))
      ∙ ap (λ (j : ℕ). after (Ok j) (order_placed l x s.narrow)) st.orders.count,
  order_comes l s b x good st it less,
)

pub refuses_order : RefusesOrder
refuses_order l s b x st it full = when_lt x.item l.items _ _ it ∙ when_ge (count_of Orders s.narrow) l.orders _ _ (omega (arith, st.orders.count))

pub sets_order : SetsOrder
sets_order l s b k x good st lt same = (
  when_lt k (count_of Orders s.narrow) _ _ (omega (arith, st.orders.count)),
  joined l t b (set b.all_orders k x) (beside_orders_at_orders l s t b good w (beside l s b st)) (record {
    count = count_kept Orders orders l s.narrow t.narrow (differ _ _ (λ e. omega arith)) w.narrow ∙ st.orders.count ∙ sym (length-set b.all_orders k x);
    few = omega (arith, st.orders.few, length-set b.all_orders k x);
    each = table_set (λ j. order_record l j s.narrow) (λ j. order_record l j t.narrow) order_kind.nothing b.all_orders k x ((order_slots l).same k x s st.frame.roomy few)
        (λ j lj ne. (order_slots l).other j k x s ne) st.orders.each;
    places = st.orders.places;
    linked = subst (Numbered (order_rows l) t.narrow st.orders.places) (sym (length-set b.all_orders k x))
        (numbered_kept order_links orders l (order_rows l) s.narrow t.narrow st.orders.places _ (order_rows_placed l good) (differ _ _ (λ e. omega arith)) w.narrow st.orders.linked);
    of_item = λ i li. st.orders.of_item i li
        ∙ sym (pieces_set (λ j o. only_if (eqb o.item i) j) 0 b.all_orders k x order_kind.nothing lt (ap (λ (q : ℕ). only_if (eqb q i) (0 + k)) same));
  }),
)
  where
    t : State
    t = state s.wide (put_order l k x s.narrow)

    few : k < l.orders
    few = omega (arith, st.orders.few)

    w : Within orders l s t
    w = (order_slots l).within k x s few

pub reads_order : ReadsOrder
reads_order l s b i k good st it =
    when_lt i l.items _ _ it ∙ walks (order_rows l) s.narrow st.orders.places i k (order_rows_placed l good).sound st.orders.linked.held it ∙ ap (λ (xs : List ℕ). nth xs k) (st.orders.of_item i it)

pub walks_orders : WalksOrders
walks_orders l s b i good st it = record {
  places = row st.orders.places i;
  each = map-id (row st.orders.places i) ∙ st.orders.of_item i it;
  starts = when_lt i l.items _ _ it ∙ first_is (order_rows l) s.narrow st.orders.places i (order_rows_placed l good).sound st.orders.linked.held it;
  goes_on = λ bs cs c e. follows (order_rows l) s.narrow st.orders.places i c bs cs (order_rows_placed l good).sound st.orders.linked.held it e;
}
