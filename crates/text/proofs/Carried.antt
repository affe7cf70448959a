-- Every answer on memory of small words has numbers that its bytes can carry. Assumes nothing.
use Rattle.std.proofs.Common.{◌≡◌, ℕ, ◌+◌, ◌*◌, ◌^◌, ◌<◌, ◌≤◌, Bool, true, false, cond, ltb, leb, eqb, ◌&&◌, ◌-◌, List, [], ◌∷◌, ◌++◌, length, Ok, Err, Result, refl, arith, mul-le-mul}
use Rattle.std.proofs.lemmas.Bool.{cond_both, and_from, and_parts, leb-true, lt-ltb}
use Rattle.firm.specs.Stock as stock
use Rattle.firm.specs.Calls.{Call, Answer, refused, number, two, lots, field, readable}
use Rattle.firm.specs.Calls as calls
use Rattle.firm.specs.Refusals.{some_pieces, some_money}
use Rattle.layout.specs.Layout.{Good, lot_rows}
use Rattle.layout.specs.declared.head.Counter.TheVariants.{Orders}
use Rattle.layout.specs.declared.head.Total.TheVariants.{Documents}
use Rattle.layout.specs.declared.limits.Limits.{Limits}
use Rattle.memory.specs.Books.{recipe_of, count_of, total_of, order_record, put_order, lot_record, balance_of, stock_of}
use Rattle.questions.specs.Listing.{lot_of, lots_step, lots_met}
use Rattle.std.specs.List.{fold}
use Rattle.links.specs.Walk.{cells_in}
use Rattle.questions.proofs.Listed.{met_few}
use Rattle.records.specs.State.{State, state}
use Rattle.records.specs.declared.lot.Lot.{Lot}
use Rattle.records.specs.declared.order.Order.{Order}
use Rattle.records.specs.declared.stock.Stock.{Stock}
use Rattle.rules.specs.Billing.{bill_fits, bill_of, entries_of, amount_of, billed, charged}
use Rattle.rules.specs.declared.billing.Bill.{Bill}
use Rattle.rules.specs.Counting as counting
use Rattle.rules.specs.Making as making
use Rattle.rules.specs.Recipes.{some_parts, recipe_fits, recipe_kept}
use Rattle.rules.specs.Checks.{one, owed, document_fits, moved_more}
use Rattle.rules.specs.Ordering.{new_order, order_fields, added, ordered}
use Rattle.rules.specs.Outcome.{Outcome, outcome, refuse}
use Rattle.rules.specs.Going.{gone, goods_fit, let_go}
use Rattle.rules.specs.Paying.{paid, pays_fits, pays}
use Rattle.rules.specs.Receiving.{comes_fits, new_lot, placed, stored, with_order}
use Rattle.taking.specs.Parts.{part_of}
use Rattle.taking.specs.Takes.{want, take_all, take_counted}
use Rattle.taking.specs.declared.wants.Want.{Want}
use Rattle.taking.proofs.CountingOff.{counted_few}
use Rattle.taking.proofs.StepKeeping.{parts_pass, counted_pass}
use Rattle.taking.proofs.TakingLaws.{takes_few}
use Rattle.session.specs.Calling.{done}
use Rattle.text.proofs.EntriesCarried.{entries_carried}
use Rattle.session.specs.Means.{Sized}
use Rattle.session.proofs.Small.{sized_counted_out, SmallLot, balance_small, stock_small, order_small, lot_small, part_small, sized_put_order, steps_sized}
use Rattle.store.specs.Steps.{After, add_order, add_lot, order_placed}
use Rattle.store.specs.Steps as steps
use Rattle.store.specs.declared.refusal.Refusal.{Refusal}
use Rattle.store.specs.declared.refusal.Refusal.TheVariants.{Full, NoSuchItem, NoSuchOrder}
use Rattle.wire.specs.Answers.{carries, each, lot_fits}

small : (n : ℕ) → n < 2 ^ 64 → field n ≡ true
small n h = lt-ltb n 18446744073709551616 (omega arith)

abbrev Carried : Answer → Type 0
Carried a = carries a ≡ true

two_carried : (a b : ℕ) → a < 2 ^ 64 → b < 2 ^ 64 → Carried (two a b)
two_carried a b h k = and_from (field a) (field b) (small a h) (small b k)

-- ALONG A ROW: what each step keeps holds at the end
walk_keeps : {A : Type 0} (P : A → Type 0) (f : A → ℕ → A) → ((a : A) (c : ℕ) → P a → P (f a c)) → (cs : List ℕ) (a : A) → P a → P (fold f a cs)
walk_keeps P f step [] a p = p
walk_keeps P f step (c ∷ cs) a p = walk_keeps P f step cs (f a c) (step a c p)

each_push : (xs : List stock.Lot) (x : stock.Lot) → each lot_fits xs ≡ true → lot_fits x ≡ true → each lot_fits (xs ++ (x ∷ [])) ≡ true
unfolding each
each_push [] x h k = and_from (lot_fits x) true k refl
each_push (y ∷ ys) x h k =
    let p = and_parts (lot_fits y) (each lot_fits ys) h in
    and_from (lot_fits y) (each lot_fits (ys ++ (x ∷ []))) p.0 (each_push ys x p.1 k)

none_carried : each lot_fits [] ≡ true
unfolding each
none_carried = refl

-- A LOT of words, and parts of lots that are taken
lot_carried : (x : Lot) → SmallLot x → lot_fits (lot_of x) ≡ true
lot_carried x q =
    and_from (field x.item) _ (small _ (omega (arith, q.item))) (and_from (field x.pieces) _ (small _ (omega (arith, q.pieces))) (and_from (field x.cost) (field x.«document») (small _ q.cost) (small _ q.«document»)))

taken_carried : (l : Limits) (ws : List Want) (s : State) → Good l → Sized l s → Carried (lots (take_all l ws s).parts)
taken_carried l ws s good z =
    and_from (field (length (take_all l ws s).parts)) _ (small _ (omega (arith, takes_few l ws s)))
    (parts_pass l (Sized l) (steps_sized l good) lot_fits (λ c q t h. lot_carried (part_of (lot_record l c t) q) (part_small l c q t h)) ws s z)

counted_off_carried : (l : Limits) (ws : List Want) (s : State) → Good l → Sized l s → Carried (lots (take_counted l ws s).parts)
counted_off_carried l ws s good z =
    and_from (field (length (take_counted l ws s).parts)) _ (small _ (omega (arith, counted_few l ws s)))
    (counted_pass l (Sized l) (steps_sized l good) lot_fits (λ c q t h. lot_carried (part_of (lot_record l c t) q) (part_small l c q t h)) (λ w x t h. sized_counted_out l w.item w.pieces x t h) ws s z)

module _ (l : Limits) (s : State) (z : Sized l s) where
  -- records that are read from small words
  orders_small : count_of Orders s.narrow < 2 ^ 64
  unfolding count_of
  orders_small = omega (arith, z.narrow.small 16)

  documents_small : total_of Documents s.wide < 2 ^ 64
  unfolding total_of
  documents_small = z.wide.small 0

  -- an item's lots
  met_carried : (i : ℕ) → each lot_fits (lots_met l i s) ≡ true
  unfolding lots_met
  met_carried i =
      walk_keeps (λ xs. each lot_fits xs ≡ true) (lots_step l s) (λ xs c p. each_push xs (lot_of (lot_record l c s)) p (lot_carried (lot_record l c s) (lot_small l c s z))) (cells_in (lot_rows l) s.narrow i) [] none_carried

  lots_carried : Good l → (i : ℕ) → Carried (lots (lots_met l i s))
  lots_carried g i = and_from (field (length (lots_met l i s))) (each lot_fits (lots_met l i s)) (small _ (omega (arith, met_few l s i, g.lots))) (met_carried i)

  -- the calls of this stage that change something
  abbrev ToldCarried : Outcome → Type 0
  ToldCarried o = Carried o.answer

  ordered_carried : (b : Bool) (i q p : ℕ) → ToldCarried (ordered l b i q p s)
  ordered_carried b i q p =
      cond_both (order_fields l i q p) (cond (document_fits s) (added s.wide (add_order l (new_order b i q p) s.narrow)) (refuse 9 0 s)) (refuse 2 0 s) ToldCarried
      (λ _. cond_both (document_fits s) (added s.wide (add_order l (new_order b i q p) s.narrow)) (refuse 9 0 s) ToldCarried
      (λ _. cond_both (ltb i l.items) (cond (ltb (count_of Orders s.narrow) l.orders) (steps.after (Ok (count_of Orders s.narrow)) (order_placed l (new_order b i q p) s.narrow)) (steps.after (Err Full) s.narrow)) (steps.after (Err NoSuchItem) s.narrow)
      (λ (a : After ℕ (List ℕ)). ToldCarried (added s.wide a))
      (λ _. cond_both (ltb (count_of Orders s.narrow) l.orders) (steps.after (Ok (count_of Orders s.narrow)) (order_placed l (new_order b i q p) s.narrow)) (steps.after (Err Full) s.narrow)
      (λ (a : After ℕ (List ℕ)). ToldCarried (added s.wide a)) (λ _. small _ orders_small) (λ _. refl))
      (λ _. refl))
      (λ _. refl))
      (λ _. refl)

  stored_carried : (k q : ℕ) (o : Order) (t : State) (r : Result ℕ Refusal) → ToldCarried (stored l k o q (total_of Documents s.wide) t r)
  stored_carried k q o t (Ok c) = small _ documents_small
  stored_carried k q o t (Err e) = refl

  -- the order that goods come on, the number of the document, and what is done if it fits
  abbrev wanted : ℕ → Order
  wanted k = order_record l k s.narrow

  abbrev document : ℕ
  document = total_of Documents s.wide

  abbrev fitting : ℕ → ℕ → Outcome
  fitting k q = cond (comes_fits l (q * (wanted k).price) s) (placed l k (wanted k) q document (add_lot l (new_lot (wanted k) q document) s)) (refuse 9 0 s)

  abbrev few_enough : ℕ → ℕ → Outcome
  few_enough k q = cond (leb ((wanted k).moved + q) (wanted k).pieces) (fitting k q) (refuse 6 1 s)

  abbrev to_buy : ℕ → ℕ → Outcome
  to_buy k q = cond (wanted k).sells (refuse 5 0 s) (few_enough k q)

  comes_carried : (k q : ℕ) → ToldCarried (done l (calls.comes k q) s)
  comes_carried k q =
      cond_both (some_pieces q) (cond (ltb k (count_of Orders s.narrow)) (to_buy k q) (refuse 4 0 s)) (refuse 2 0 s) ToldCarried
      (λ _. cond_both (ltb k (count_of Orders s.narrow)) (to_buy k q) (refuse 4 0 s) ToldCarried
      (λ _. cond_both (wanted k).sells (refuse 5 0 s) (few_enough k q) ToldCarried
      (λ _. refl)
      (λ _. cond_both (leb ((wanted k).moved + q) (wanted k).pieces) (fitting k q) (refuse 6 1 s) ToldCarried
      (λ _. cond_both (comes_fits l (q * (wanted k).price) s) (placed l k (wanted k) q document (add_lot l (new_lot (wanted k) q document) s)) (refuse 9 0 s) ToldCarried
      (λ _. stored_carried k q (wanted k) (add_lot l (new_lot (wanted k) q document) s).left (add_lot l (new_lot (wanted k) q document) s).came) (λ _. refl))
      (λ _. refl)))
      (λ _. refl))
      (λ _. refl)

  -- goods that go: what was taken of memory whose order has moved, which is of words too
  moved_small : (k q : ℕ) → (wanted k).moved + q ≤ (wanted k).pieces → Sized l (with_order l k (moved_more (wanted k) q) s)
  moved_small k q le =
      let o = order_small l k s z in
      cond_both (ltb k (count_of Orders s.narrow)) (steps.after (Ok k) (put_order l k (moved_more (wanted k) q) s.narrow)) (steps.after (Err NoSuchOrder) s.narrow)
      (λ (a : After ℕ (List ℕ)). Sized l (state s.wide a.left))
      (λ _. sized_put_order l k (moved_more (wanted k) q) s (record { item = o.item; pieces = o.pieces; price = o.price; moved = omega (arith, le, o.pieces); billed = o.billed }) z)
      (λ _. z)

  abbrev let_fit : ℕ → ℕ → Outcome
  let_fit k q = cond (goods_fit l (want (wanted k).item q) s) (let_go l (wanted k) q document (gone l k q s)) (refuse 9 0 s)

  abbrev there : ℕ → ℕ → Outcome
  there k q = cond (leb q (stock_of (wanted k).item s.wide).pieces) (let_fit k q) (refuse 7 1 s)

  abbrev moving : ℕ → ℕ → Outcome
  moving k q = cond (leb ((wanted k).moved + q) (wanted k).pieces) (there k q) (refuse 6 1 s)

  abbrev to_sell : ℕ → ℕ → Outcome
  to_sell k q = cond (wanted k).sells (moving k q) (refuse 5 0 s)

  goes_carried : Good l → (k q : ℕ) → ToldCarried (done l (calls.goes k q) s)
  goes_carried g k q =
      cond_both (some_pieces q) (cond (ltb k (count_of Orders s.narrow)) (to_sell k q) (refuse 4 0 s)) (refuse 2 0 s) ToldCarried
      (λ _. cond_both (ltb k (count_of Orders s.narrow)) (to_sell k q) (refuse 4 0 s) ToldCarried
      (λ _. cond_both (wanted k).sells (moving k q) (refuse 5 0 s) ToldCarried
      (λ _. cond_both (leb ((wanted k).moved + q) (wanted k).pieces) (there k q) (refuse 6 1 s) ToldCarried
      (λ le. cond_both (leb q (stock_of (wanted k).item s.wide).pieces) (let_fit k q) (refuse 7 1 s) ToldCarried
      (λ _. cond_both (goods_fit l (want (wanted k).item q) s) (let_go l (wanted k) q document (gone l k q s)) (refuse 9 0 s) ToldCarried
      (λ _. taken_carried l _ (with_order l k (moved_more (wanted k) q) s) g (moved_small k q (leb-true _ _ le)))
      (λ _. refl))
      (λ _. refl))
      (λ _. refl))
      (λ _. refl))
      (λ _. refl))
      (λ _. refl)

  -- payments
  pays_carried : (a b x : ℕ) → ToldCarried (pays l a b x s)
  pays_carried a b x = cond_both (pays_fits l x s) (outcome (number document) (paid l a b x document s)) (refuse 9 0 s) ToldCarried (λ _. small _ documents_small) (λ _. refl)

  pays_out_carried : (x : ℕ) → ToldCarried (done l (calls.pays_out x) s)
  pays_out_carried x =
      cond_both (some_money x) (cond (owed x s.wide) (pays l 2 4 x s) (refuse 6 0 s)) (refuse 2 0 s) ToldCarried
      (λ _. cond_both (owed x s.wide) (pays l 2 4 x s) (refuse 6 0 s) ToldCarried (λ _. pays_carried 2 4 x) (λ _. refl))
      (λ _. refl)

  pays_in_carried : (x : ℕ) → ToldCarried (done l (calls.pays_in x) s)
  pays_in_carried x = cond_both (some_money x) (pays l 4 3 x s) (refuse 2 0 s) ToldCarried (λ _. pays_carried 4 3 x) (λ _. refl)

  -- bills
  billed_by_carried : (k q x : ℕ) → ToldCarried (done l (calls.billed_by k q x) s)
  billed_by_carried k q x =
      cond_both (some_pieces q) (cond (leb x 1000000000000) (known k q x) (refuse 2 0 s)) (refuse 2 0 s) ToldCarried
      (λ _. cond_both (leb x 1000000000000) (known k q x) (refuse 2 0 s) ToldCarried
      (λ _. cond_both (ltb k (count_of Orders s.narrow)) (of_kind k q x) (refuse 4 0 s) ToldCarried
      (λ _. cond_both (wanted k).sells (refuse 5 0 s) (enough k q x) ToldCarried
      (λ _. refl)
      (λ _. cond_both (leb ((wanted k).billed + q) (wanted k).moved) (bill k q x) (refuse 6 1 s) ToldCarried
      (λ _. cond_both (bill_fits l (entries_of (asked k q x)) (amount_of (asked k q x)) s) (outcome (number document) (billed l k (wanted k) q (asked k q x) document s)) (refuse 9 0 s) ToldCarried
      (λ _. small _ documents_small)
      (λ _. refl))
      (λ _. refl)))
      (λ _. refl))
      (λ _. refl))
      (λ _. refl)
    where
      asked : ℕ → ℕ → ℕ → Bill
      asked k q x = bill_of (q * (wanted k).price) x

      bill : ℕ → ℕ → ℕ → Outcome
      bill k q x = cond (bill_fits l (entries_of (asked k q x)) (amount_of (asked k q x)) s) (outcome (number document) (billed l k (wanted k) q (asked k q x) document s)) (refuse 9 0 s)

      enough : ℕ → ℕ → ℕ → Outcome
      enough k q x = cond (leb ((wanted k).billed + q) (wanted k).moved) (bill k q x) (refuse 6 1 s)

      of_kind : ℕ → ℕ → ℕ → Outcome
      of_kind k q x = cond (wanted k).sells (refuse 5 0 s) (enough k q x)

      known : ℕ → ℕ → ℕ → Outcome
      known k q x = cond (ltb k (count_of Orders s.narrow)) (of_kind k q x) (refuse 4 0 s)

  bills_carried : (k q : ℕ) → ToldCarried (done l (calls.bills k q) s)
  bills_carried k q =
      cond_both (some_pieces q) (cond (ltb k (count_of Orders s.narrow)) (of_kind k q) (refuse 4 0 s)) (refuse 2 0 s) ToldCarried
      (λ g. cond_both (ltb k (count_of Orders s.narrow)) (of_kind k q) (refuse 4 0 s) ToldCarried
      (λ _. cond_both (wanted k).sells (enough k q) (refuse 5 0 s) ToldCarried
      (λ _. cond_both (leb ((wanted k).billed + q) (wanted k).moved) (charge k q) (refuse 6 1 s) ToldCarried
      (λ _. cond_both (bill_fits l (one (price k q)) (price k q) s) (outcome (number (price k q)) (charged l k (wanted k) q (price k q) document s)) (refuse 9 0 s) ToldCarried
      (λ _. small _ (price_small g))
      (λ _. refl))
      (λ _. refl))
      (λ _. refl))
      (λ _. refl))
      (λ _. refl)
    where
      price : ℕ → ℕ → ℕ
      price k q = q * (wanted k).price

      -- no more than a million pieces, at a price that is a word of 32 bits
      price_small : some_pieces q ≡ true → price k q < 2 ^ 64
      price_small g =
          let few : q ≤ 1000000 = leb-true q 1000000 (and_parts (leb 1 q) (leb q 1000000) g).1 in
          let dear : (wanted k).price ≤ 4294967296 = omega (arith, (order_small l k s z).price) in
          omega (arith, mul-le-mul few dear)

      charge : ℕ → ℕ → Outcome
      charge k q = cond (bill_fits l (one (price k q)) (price k q) s) (outcome (number (price k q)) (charged l k (wanted k) q (price k q) document s)) (refuse 9 0 s)

      enough : ℕ → ℕ → Outcome
      enough k q = cond (leb ((wanted k).billed + q) (wanted k).moved) (charge k q) (refuse 6 1 s)

      of_kind : ℕ → ℕ → Outcome
      of_kind k q = cond (wanted k).sells (enough k q) (refuse 5 0 s)

  -- recipes, making and counts
  made_of_carried : (i : ℕ) (ps : List stock.Part) → ToldCarried (done l (calls.made_of i ps) s)
  made_of_carried i ps =
      let keeps : Outcome = outcome (number document) (recipe_kept l i ps s) in
      let fitting : Outcome = cond (recipe_fits l (length ps) s) keeps (refuse 9 0 s) in
      cond_both (ltb i l.items && some_parts ps i) fitting (refuse 2 0 s) ToldCarried
      (λ _. cond_both (recipe_fits l (length ps) s) keeps (refuse 9 0 s) ToldCarried (λ _. small _ documents_small) (λ _. refl))
      (λ _. refl)

  makes_carried : Good l → (i q : ℕ) → ToldCarried (done l (calls.makes i q) s)
  makes_carried g i q =
      let ws : List Want = making.item_wants l i q s in
      let makes_it : Outcome = making.made_of l i q document (making.made l i q s) in
      let fitting : Outcome = cond (making.makes_fits l ws s) makes_it (refuse 9 0 s) in
      let lying : Outcome = cond (making.all_lie ws s.wide) fitting (refuse 7 1 s) in
      let by_recipe : Outcome = cond (leb 1 (recipe_of i s.narrow).parts) lying (refuse 8 0 s) in
      cond_both (ltb i l.items) (cond (some_pieces q) by_recipe (refuse 2 0 s)) (refuse 2 0 s) ToldCarried
      (λ _. cond_both (some_pieces q) by_recipe (refuse 2 0 s) ToldCarried
      (λ _. cond_both (leb 1 (recipe_of i s.narrow).parts) lying (refuse 8 0 s) ToldCarried
      (λ _. cond_both (making.all_lie ws s.wide) fitting (refuse 7 1 s) ToldCarried
      (λ _. cond_both (making.makes_fits l ws s) makes_it (refuse 9 0 s) ToldCarried (λ _. counted_off_carried l ws s g z) (λ _. refl))
      (λ _. refl))
      (λ _. refl))
      (λ _. refl))
      (λ _. refl)

  counted_carried : (i q : ℕ) → ToldCarried (done l (calls.counted i q) s)
  counted_carried i q =
      cond_both (ltb i l.items) (cond (leb q 1000000000) settling (refuse 2 0 s)) (refuse 2 0 s) ToldCarried
      (λ _. cond_both (leb q 1000000000) settling (refuse 2 0 s) ToldCarried
      (λ _. cond_both (ltb q a.pieces) losing (cond (eqb q a.pieces) agreeing finding) ToldCarried
      (λ _. cond_both (goods_fit l (want i (a.pieces - q)) s) _ (refuse 9 0 s) ToldCarried (λ _. before_carried) (λ _. refl))
      (λ _. cond_both (eqb q a.pieces) agreeing finding ToldCarried
      (λ _. cond_both (document_fits s) _ (refuse 9 0 s) ToldCarried (λ _. before_carried) (λ _. refl))
      (λ _. cond_both (document_fits s) (counting.placed l a lot_more) (refuse 9 0 s) ToldCarried (λ _. found_carried lot_more.left lot_more.came) (λ _. refl))))
      (λ _. refl))
      (λ _. refl)
    where
      a : Stock
      a = stock_of i s.wide

      lot_more : After ℕ State
      lot_more = add_lot l (counting.found_lot i (q - a.pieces) document) s

      losing : Outcome
      losing = counting.lost l (want i (a.pieces - q)) a s

      agreeing : Outcome
      agreeing = counting.agreed a s

      finding : Outcome
      finding = counting.found l i (q - a.pieces) a s

      settling : Outcome
      settling = counting.settled l i q a s

      before_carried : Carried (counting.before a)
      before_carried = two_carried _ _ (stock_small l i s z).0 (stock_small l i s z).1

      found_carried : (t : State) (r : Result ℕ Refusal) → ToldCarried (counting.stored l a t r)
      found_carried t (Ok c) = before_carried
      found_carried t (Err e) = refl

  -- EVERY ANSWER
  pub carried : Good l → (c : Call) → readable c ≡ true → Carried (done l c s).answer
  unfolding readable
  carried g (calls.buys i q p) h = ordered_carried false i q p
  carried g (calls.sells i q p) h = ordered_carried true i q p
  carried g (calls.comes o q) h = comes_carried o q
  carried g (calls.goes o q) h = goes_carried g o q
  carried g (calls.billed_by o q x) h = billed_by_carried o q x
  carried g (calls.bills o q) h = bills_carried o q
  carried g (calls.pays_out x) h = pays_out_carried x
  carried g (calls.pays_in x) h = pays_in_carried x
  carried g (calls.made_of i ps) h = made_of_carried i ps
  carried g (calls.makes i q) h = makes_carried g i q
  carried g (calls.counted i q) h = counted_carried i q
  carried g (calls.stock_of i) h =
      cond_both (ltb i l.items) (two (stock_of i s.wide).pieces (stock_of i s.wide).worth) (refused 2 0) Carried (λ _. two_carried _ _ (stock_small l i s z).0 (stock_small l i s z).1) (λ _. refl)
  carried g (calls.account a) h =
      cond_both (ltb a 9) (two (balance_of a s.wide).left (balance_of a s.wide).right) (refused 2 0) Carried (λ _. two_carried _ _ (balance_small l a s z).0 (balance_small l a s z).1) (λ _. refl)
  carried g (calls.order k) h =
      cond_both (ltb k (count_of Orders s.narrow)) (two (order_record l k s.narrow).moved (order_record l k s.narrow).billed) (refused 4 0) Carried (λ _. two_carried (order_record l k s.narrow).moved (order_record l k s.narrow).billed (omega (arith, (order_small l k s z).moved)) (omega (arith, (order_small l k s z).billed))) (λ _. refl)
  carried g (calls.lots_of i) h = cond_both (ltb i l.items) (lots (lots_met l i s)) (refused 2 0) Carried (λ _. lots_carried g i) (λ _. refl)
  carried g (calls.entries_from n k) h = entries_carried l s z n k
  carried g (calls.garbled n) h = and_from true (field n) refl h
