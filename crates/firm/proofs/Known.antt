-- In books that are reached each order is of an item there is, and its numbers are small. Assumes nothing.
use Rattle.std.proofs.Common.{◌≡◌, ℕ, zero, suc, ◌<◌, true, ◌&&◌, ltb, leb, List, [], ◌∷◌, ◌++◌, length, get_or, set, arith}
use Rattle.std.proofs.lemmas.Bool.{and_parts, ltb-true, leb-true}
use Rattle.firm.specs.Firm.{Firm, Order, no_order, the_order, moved_by, billed_more}
use Rattle.firm.specs.Calls.{Call, buys, sells, comes, goes, billed_by, bills, pays_out, pays_in, made_of, makes, counted, stock_of, account, order, lots_of, entries_from, garbled, Limits, call_number}
use Rattle.firm.specs.Changes.{changed}
use Rattle.firm.specs.Refusals.{some_pieces, good_fields, good_call}
use Rattle.firm.specs.Laws.{Known, OrdersKnown}
use Rattle.firm.proofs.Cases.{counted_cases, reached_keeps}

abbrev AllKnown : Limits → List Order → Type 0
AllKnown l [] = Unit
AllKnown l (o ∷ os) = Known l o × AllKnown l os

known_push : (l : Limits) (os : List Order) (o : Order) → AllKnown l os → Known l o → AllKnown l (os ++ (o ∷ []))
known_push l [] o h k = (k, tt)
known_push l (p ∷ os) o h k = (h.0, known_push l os o h.1 k)

-- an order that is changed in what has moved or is billed
known_set : (l : Limits) (os : List Order) (n : ℕ) (o : Order) → AllKnown l os → (n < length os → Known l (get_or os n no_order) → Known l o) → AllKnown l (set os n o)
known_set l [] n o h k = tt
known_set l (p ∷ os) zero o h k = (k (omega arith) h.0, h.1)
known_set l (p ∷ os) (suc n) o h k = (h.0, known_set l os n o h.1 (λ lt. k (omega arith)))

known_at : (l : Limits) (os : List Order) (n : ℕ) → AllKnown l os → n < length os → Known l (get_or os n no_order)
known_at l [] n h lt = absurd (omega arith)
known_at l (p ∷ os) zero h lt = h.0
known_at l (p ∷ os) (suc n) h lt = known_at l os n h.1 (omega arith)

new_known : (l : Limits) (o : Order) → (ltb o.item l.items && (some_pieces o.pieces && leb o.price 1000000)) ≡ true → Known l o
new_known l o g =
    let p = and_parts (ltb o.item l.items) (some_pieces o.pieces && leb o.price 1000000) g in
    let q = and_parts (some_pieces o.pieces) (leb o.price 1000000) p.1 in
    record {
      item = ltb-true o.item l.items p.0;
      pieces = leb-true o.pieces 1000000 (and_parts (leb 1 o.pieces) (leb o.pieces 1000000) q.0).1;
      price = leb-true o.price 1000000 q.1;
    }

abbrev Knows : Limits → Firm → Type 0
Knows l f = AllKnown l f.orders

known_keeps : (l : Limits) (f : Firm) (c : Call) → good_call l c ≡ true → Knows l f → Knows l (changed f c)
unfolding changed good_fields call_number
known_keeps l f (buys i q p) g h = known_push l f.orders _ h (new_known l _ (and_parts _ (ltb i l.items && (some_pieces q && leb p 1000000)) g).1)
known_keeps l f (sells i q p) g h = known_push l f.orders _ h (new_known l _ (and_parts _ (ltb i l.items && (some_pieces q && leb p 1000000)) g).1)
known_keeps l f (comes o q) g h = known_set l f.orders o (moved_by (the_order f o) q) h (λ _ k. record { item = k.item; pieces = k.pieces; price = k.price })
known_keeps l f (goes o q) g h = known_set l f.orders o (moved_by (the_order f o) q) h (λ _ k. record { item = k.item; pieces = k.pieces; price = k.price })
known_keeps l f (billed_by o q x) g h = known_set l f.orders o (billed_more (the_order f o) q) h (λ _ k. record { item = k.item; pieces = k.pieces; price = k.price })
known_keeps l f (bills o q) g h = known_set l f.orders o (billed_more (the_order f o) q) h (λ _ k. record { item = k.item; pieces = k.pieces; price = k.price })
known_keeps l f (pays_out x) g h = h
known_keeps l f (pays_in x) g h = h
known_keeps l f (made_of i ps) g h = h
known_keeps l f (makes i q) g h = h
known_keeps l f (counted i q) g h = counted_cases f i q (Knows l) (λ _. h) (λ _. h) (λ _. h)
known_keeps l f (stock_of i) g h = h
known_keeps l f (account a) g h = h
known_keeps l f (order o) g h = h
known_keeps l f (lots_of i) g h = h
known_keeps l f (entries_from n k) g h = h
known_keeps l f (garbled n) g h = h

pub reached_known : OrdersKnown
reached_known l f r n lt = known_at l f.orders n (reached_keeps l (Knows l) (λ f c k. known_keeps l f c k.good) tt f r) lt
