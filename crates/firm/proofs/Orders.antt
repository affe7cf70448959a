-- Statements 4 and 5: nobody is paid for, or sold, what was not there; and what is open on orders is what the accounts say. Assumes nothing.
use Rattle.std.proofs.Common.{◌≡◌, ℕ, zero, suc, ◌+◌, ◌-◌, ◌*◌, ◌<◌, ◌≤◌, Bool, true, false, ◌&&◌, ltb, leb, List, [], ◌∷◌, ◌++◌, length, get_or, set, sym, refl, ap, ◌∙◌, add-mul, arith}
use Rattle.std.proofs.lemmas.Bool.{and_parts, and_from, leb-true, le-leb, ltb-true}
use Rattle.firm.specs.Stock.{pick, on_hand}
use Rattle.firm.specs.Ledger.{left_side, right_side}
use Rattle.firm.specs.Firm.{Firm, Order, no_order, the_order, moved_by, billed_more}
use Rattle.firm.specs.Calls.{Call, buys, sells, comes, goes, billed_by, bills, pays_out, pays_in, made_of, makes, counted, stock_of, account, order, lots_of, entries_from, garbled}
use Rattle.firm.specs.Changes.{changed}
use Rattle.firm.specs.Refusals.{kind_is, turned_by}
use Rattle.firm.specs.Statements.{InThreeWays, OpenOrders, orders_fine, not_billed, billed_sales}
use Rattle.firm.proofs.Picks.{pick-both, pick_true, pick_false, pick_zero}
use Rattle.firm.proofs.Cases.{counted_cases, reached_keeps}
use Rattle.firm.proofs.Sums.{Sums, sum_push, sum_set}
use Rattle.firm.proofs.Ledger.{ledger}

-- what is known of an order that a call was not turned away for: it is there, of that kind, and the further test passed
pub kind_known : (f : Firm) (o : ℕ) (s : Bool) (n : ℕ) → kind_is f o s n ≡ 0 → (o < length f.orders) × ((the_order f o).sells ≡ s) × (n ≡ 0)
kind_known f o true n =
    pick-both (ltb o (length f.orders)) (pick (the_order f o).sells n 5) 4 (λ m. m ≡ 0 → (o < length f.orders) × ((the_order f o).sells ≡ true) × (n ≡ 0))
    (λ h. pick-both (the_order f o).sells n 5 (λ m. m ≡ 0 → (o < length f.orders) × ((the_order f o).sells ≡ true) × (n ≡ 0))
    (λ k e. (ltb-true o (length f.orders) h, k, e)) (λ _ e. absurd (omega arith)))
    (λ _ e. absurd (omega arith))
kind_known f o false n =
    pick-both (ltb o (length f.orders)) (pick (the_order f o).sells 5 n) 4 (λ m. m ≡ 0 → (o < length f.orders) × ((the_order f o).sells ≡ false) × (n ≡ 0))
    (λ h. pick-both (the_order f o).sells 5 n (λ m. m ≡ 0 → (o < length f.orders) × ((the_order f o).sells ≡ false) × (n ≡ 0))
    (λ _ e. absurd (omega arith)) (λ k e. (ltb-true o (length f.orders) h, k, e)))
    (λ _ e. absurd (omega arith))

-- an order of which no more is billed than moved, and moved than ordered
abbrev pub Fine : Order → Type 0
Fine o = (o.billed ≤ o.moved) × (o.moved ≤ o.pieces)

fine_test : (o : Order) → Fine o → (leb o.billed o.moved && leb o.moved o.pieces) ≡ true
fine_test o h = and_from (leb o.billed o.moved) (leb o.moved o.pieces) (le-leb _ _ h.0) (le-leb _ _ h.1)

fine_cons : (o : Order) (os : List Order) → orders_fine (o ∷ os) ≡ true → Fine o × (orders_fine os ≡ true)
unfolding orders_fine
fine_cons o os h =
    let p = and_parts (leb o.billed o.moved && leb o.moved o.pieces) (orders_fine os) h in
    let r = and_parts (leb o.billed o.moved) (leb o.moved o.pieces) p.0 in
    ((leb-true _ _ r.0, leb-true _ _ r.1), p.1)

fine_from : (o : Order) (os : List Order) → Fine o → orders_fine os ≡ true → orders_fine (o ∷ os) ≡ true
unfolding orders_fine
fine_from o os h k = and_from (leb o.billed o.moved && leb o.moved o.pieces) (orders_fine os) (fine_test o h) k

fine_push : (os : List Order) (o : Order) → orders_fine os ≡ true → Fine o → orders_fine (os ++ (o ∷ [])) ≡ true
unfolding orders_fine
fine_push [] o h k = fine_from o [] k refl
fine_push (p ∷ os) o h k = let c = fine_cons p os h in fine_from p (os ++ (o ∷ [])) c.0 (fine_push os o c.1 k)

fine_set : (os : List Order) (n : ℕ) (o : Order) → orders_fine os ≡ true → Fine o → orders_fine (set os n o) ≡ true
fine_set [] n o h k = h
fine_set (p ∷ os) zero o h k = fine_from o os k (fine_cons p os h).1
fine_set (p ∷ os) (suc n) o h k = let c = fine_cons p os h in fine_from p (set os n o) c.0 (fine_set os n o c.1 k)

pub fine_at : (os : List Order) (n : ℕ) → orders_fine os ≡ true → Fine (get_or os n no_order)
fine_at [] n h = (omega arith, omega arith)
fine_at (p ∷ os) zero h = (fine_cons p os h).0
fine_at (p ∷ os) (suc n) h = fine_at os n (fine_cons p os h).1

-- STATEMENT 4
abbrev InOrder : Firm → Type 0
InOrder f = (orders_fine f.orders ≡ true) × (left_side f.entries 2 ≤ right_side f.entries 2)

-- an order that was fine is fine once more is moved or billed, within what was tested
moved_fine : (f : Firm) (o q : ℕ) → orders_fine f.orders ≡ true → (the_order f o).moved + q ≤ (the_order f o).pieces →
    orders_fine (set f.orders o (moved_by (the_order f o) q)) ≡ true
moved_fine f o q h k = let a = fine_at f.orders o h in fine_set f.orders o (moved_by (the_order f o) q) h (omega arith)

billed_fine : (f : Firm) (o q : ℕ) → orders_fine f.orders ≡ true → (the_order f o).billed + q ≤ (the_order f o).moved →
    orders_fine (set f.orders o (billed_more (the_order f o) q)) ≡ true
billed_fine f o q h k = let a = fine_at f.orders o h in fine_set f.orders o (billed_more (the_order f o) q) h (omega arith)

-- what the tests of `turned_by` say of the calls that change an order
record Known (f : Firm) (o : ℕ) (s : Bool) (a b : ℕ) : Type 0 where
  there : o < length f.orders
  kind : (the_order f o).sells ≡ s
  within : a ≤ b

known : (f : Firm) (o : ℕ) (s : Bool) (a b n : ℕ) → kind_is f o s (pick (leb a b) n 6) ≡ 0 → Known f o s a b
known f o s a b n e =
    let k = kind_known f o s (pick (leb a b) n 6) e in
    record { there = k.0; kind = k.1; within = leb-true a b (pick_zero (leb a b) n 6 (omega arith) k.2) }

in_order_keeps : (f : Firm) (c : Call) → turned_by f c ≡ 0 → InOrder f → InOrder (changed f c)
unfolding changed turned_by
in_order_keeps f (buys i q p) t h = (fine_push f.orders _ h.0 (omega arith), simp ledger (omega arith))
in_order_keeps f (sells i q p) t h = (fine_push f.orders _ h.0 (omega arith), simp ledger (omega arith))
in_order_keeps f (comes o q) t h =
    (moved_fine f o q h.0 (known f o false ((the_order f o).moved + q) (the_order f o).pieces 0 t).within, simp ledger (omega arith))
in_order_keeps f (goes o q) t h = (
  moved_fine f o q h.0 (known f o true ((the_order f o).moved + q) (the_order f o).pieces (pick (leb q (on_hand f.lots (the_order f o).item)) 0 7) t).within,
  simp ledger (omega arith),
)
in_order_keeps f (billed_by o q x) t h =
    (billed_fine f o q h.0 (known f o false ((the_order f o).billed + q) (the_order f o).moved 0 t).within, simp ledger (omega arith))
in_order_keeps f (bills o q) t h =
    (billed_fine f o q h.0 (known f o true ((the_order f o).billed + q) (the_order f o).moved 0 t).within, simp ledger (omega arith))
in_order_keeps f (pays_out x) t h =
    let owed : left_side f.entries 2 + x ≤ right_side f.entries 2 = leb-true _ _ (pick_zero (leb (left_side f.entries 2 + x) (right_side f.entries 2)) 0 6 (omega arith) t) in
    (h.0, simp ledger (omega arith))
in_order_keeps f (pays_in x) t h = (h.0, simp ledger (omega arith))
in_order_keeps f (made_of i ps) t h = (h.0, simp ledger (omega arith))
in_order_keeps f (makes i q) t h = (h.0, simp ledger (omega arith))
in_order_keeps f (counted i q) t h =
    counted_cases f i q InOrder (λ _. (h.0, simp ledger (omega arith))) (λ _. (h.0, simp ledger (omega arith))) (λ _. (h.0, simp ledger (omega arith)))
in_order_keeps f (stock_of i) t h = h
in_order_keeps f (account a) t h = h
in_order_keeps f (order o) t h = h
in_order_keeps f (lots_of i) t h = h
in_order_keeps f (entries_from n k) t h = h
in_order_keeps f (garbled n) t h = h

pub in_three_ways : InThreeWays
unfolding orders_fine left_side right_side
in_three_ways l = reached_keeps l InOrder (λ f c g. in_order_keeps f c g.known) (refl, omega arith)

-- STATEMENT 5: both sums over the orders, by what each order weighs
abbrev open_weight : Order → ℕ
open_weight o = pick o.sells 0 ((o.moved - o.billed) * o.price)

abbrev sales_weight : Order → ℕ
sales_weight o = pick o.sells (o.billed * o.price) 0

open_sums : Sums open_weight not_billed
unfolding not_billed
open_sums = record { none = refl; more = λ o os. refl }

sales_sums : Sums sales_weight billed_sales
unfolding billed_sales
sales_sums = record { none = refl; more = λ o os. refl }

-- an order to buy is open for what came and was not billed; to sell, it has sold what is billed
open_bought : (o : Order) → o.sells ≡ false → open_weight o ≡ (o.moved - o.billed) * o.price
open_bought o k = pick_false o.sells 0 ((o.moved - o.billed) * o.price) k

open_sold : (o : Order) → o.sells ≡ true → open_weight o ≡ 0
open_sold o k = pick_true o.sells 0 ((o.moved - o.billed) * o.price) k

sales_bought : (o : Order) → o.sells ≡ false → sales_weight o ≡ 0
sales_bought o k = pick_false o.sells (o.billed * o.price) 0 k

sales_sold : (o : Order) → o.sells ≡ true → sales_weight o ≡ o.billed * o.price
sales_sold o k = pick_true o.sells (o.billed * o.price) 0 k

more_open : (m b q p : ℕ) → b ≤ m → (m + q - b) * p ≡ (m - b) * p + q * p
more_open m b q p h = let e : m + q - b ≡ (m - b) + q = omega arith in rw e (add-mul (m - b) q p)

less_open : (m b q p : ℕ) → b + q ≤ m → (m - (b + q)) * p + q * p ≡ (m - b) * p
less_open m b q p h = let e : (m - (b + q)) + q ≡ m - b = omega arith in sym (add-mul (m - (b + q)) q p) ∙ ap (λ n. n * p) e

-- both sums where an order in the books gives way to b
module _ (f : Firm) (k : ℕ) (b : Order) (there : k < length f.orders) where
  open_set : not_billed (set f.orders k b) + open_weight (the_order f k) ≡ not_billed f.orders + open_weight b
  open_set = sum_set open_sums f.orders k b no_order there

  sales_set : billed_sales (set f.orders k b) + sales_weight (the_order f k) ≡ billed_sales f.orders + sales_weight b
  sales_set = sum_set sales_sums f.orders k b no_order there

-- how both sums change: the orders os of f are now ps, of x more and y less that is open, and z more that is sold
abbrev SumsMove : Firm → List Order → ℕ → ℕ → ℕ → Type 0
SumsMove f ps x y z = (not_billed ps + y ≡ not_billed f.orders + x) × (billed_sales ps ≡ billed_sales f.orders + z)

-- bought pieces come, sold ones go, bought ones are billed, sold ones are billed
module _ (f : Firm) (o q : ℕ) (there : o < length f.orders) where
  came : (the_order f o).sells ≡ false → (the_order f o).billed ≤ (the_order f o).moved →
      SumsMove f (set f.orders o (moved_by (the_order f o) q)) (q * (the_order f o).price) 0 0
  came k h =
      let a = the_order f o in
      let b = moved_by a q in
      omega (
        arith,
        open_set f o b there,
        sales_set f o b there,
        open_bought a k,
        open_bought b k,
        sales_bought a k,
        sales_bought b k,
        more_open a.moved a.billed q a.price h,
      )

  went : (the_order f o).sells ≡ true → SumsMove f (set f.orders o (moved_by (the_order f o) q)) 0 0 0
  went k =
      let a = the_order f o in
      let b = moved_by a q in
      omega (arith, open_set f o b there, sales_set f o b there, open_sold a k, open_sold b k, sales_sold a k, sales_sold b k)

  bought_billed : (the_order f o).sells ≡ false → (the_order f o).billed + q ≤ (the_order f o).moved →
      SumsMove f (set f.orders o (billed_more (the_order f o) q)) 0 (q * (the_order f o).price) 0
  bought_billed k h =
      let a = the_order f o in
      let b = billed_more a q in
      omega (
        arith,
        open_set f o b there,
        sales_set f o b there,
        open_bought a k,
        open_bought b k,
        sales_bought a k,
        sales_bought b k,
        less_open a.moved a.billed q a.price h,
      )

  sold_billed : (the_order f o).sells ≡ true → SumsMove f (set f.orders o (billed_more (the_order f o) q)) 0 0 (q * (the_order f o).price)
  sold_billed k =
      let a = the_order f o in
      let b = billed_more a q in
      omega (arith, open_set f o b there, sales_set f o b there, open_sold a k, open_sold b k, sales_sold a k, sales_sold b k)

abbrev Open : Firm → Type 0
Open f =
    (right_side f.entries 1 ≡ left_side f.entries 1 + not_billed f.orders) × (left_side f.entries 3 ≡ billed_sales f.orders)

open_keeps : (f : Firm) (c : Call) → turned_by f c ≡ 0 → orders_fine f.orders ≡ true → Open f → Open (changed f c)
unfolding changed turned_by
open_keeps f (buys i q p) t g h =
    let a : Order = record { sells = false; item = i; pieces = q; price = p; moved = 0; billed = 0 } in
    (simp (ledger, sum_push open_sums f.orders a) (omega arith), simp (ledger, sum_push sales_sums f.orders a) (omega arith))
open_keeps f (sells i q p) t g h =
    let a : Order = record { sells = true; item = i; pieces = q; price = p; moved = 0; billed = 0 } in
    (simp (ledger, sum_push open_sums f.orders a) (omega arith), simp (ledger, sum_push sales_sums f.orders a) (omega arith))
open_keeps f (comes o q) t g h =
    let k = known f o false ((the_order f o).moved + q) (the_order f o).pieces 0 t in
    let m = came f o q k.there k.kind (fine_at f.orders o g).0 in
    (simp ledger (omega arith), simp ledger (omega arith))
open_keeps f (goes o q) t g h =
    let k = known f o true ((the_order f o).moved + q) (the_order f o).pieces (pick (leb q (on_hand f.lots (the_order f o).item)) 0 7) t in
    let m = went f o q k.there k.kind in
    (simp ledger (omega arith), simp ledger (omega arith))
open_keeps f (billed_by o q x) t g h =
    let k = known f o false ((the_order f o).billed + q) (the_order f o).moved 0 t in
    let m = bought_billed f o q k.there k.kind k.within in
    (simp ledger (omega arith), simp ledger (omega arith))
open_keeps f (bills o q) t g h =
    let k = known f o true ((the_order f o).billed + q) (the_order f o).moved 0 t in
    let m = sold_billed f o q k.there k.kind in
    (simp ledger (omega arith), simp ledger (omega arith))
open_keeps f (pays_out x) t g h = (simp ledger (omega arith), simp ledger (omega arith))
open_keeps f (pays_in x) t g h = (simp ledger (omega arith), simp ledger (omega arith))
open_keeps f (made_of i ps) t g h = (simp ledger (omega arith), simp ledger (omega arith))
open_keeps f (makes i q) t g h = (simp ledger (omega arith), simp ledger (omega arith))
open_keeps f (counted i q) t g h =
    counted_cases f i q Open
    (λ _. (simp ledger (omega arith), simp ledger (omega arith)))
    (λ _. (simp ledger (omega arith), simp ledger (omega arith)))
    (λ _. (simp ledger (omega arith), simp ledger (omega arith)))
open_keeps f (stock_of i) t g h = h
open_keeps f (account a) t g h = h
open_keeps f (order o) t g h = h
open_keeps f (lots_of i) t g h = h
open_keeps f (entries_from n k) t g h = h
open_keeps f (garbled n) t g h = h

-- the invariant is both: what is open rests on orders that are fine
pub open_orders : OpenOrders
unfolding orders_fine left_side right_side not_billed billed_sales
open_orders l f r =
    (reached_keeps l (λ g. InOrder g × Open g) (λ g c k h. (in_order_keeps g c k.known h.0, open_keeps g c k.known h.0.0 h.1))
    ((refl, omega arith), (refl, refl)) f r).1
