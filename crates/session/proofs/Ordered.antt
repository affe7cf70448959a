-- An order of the books as it lies in memory, and by which check a call for one is turned away. Assumes nothing.
use Rattle.std.proofs.Common.{◌≡◌, ℕ, ◌<◌, Bool, true, false, ltb, List, length, get_or, sym, ap, ◌∙◌, subst, arith}
use Rattle.std.proofs.lemmas.List.{length-map, get_or-map}
use Rattle.std.proofs.lemmas.Bool.{ltb-true}
use Rattle.firm.specs.Firm.{Firm, no_order, the_order}
use Rattle.firm.specs.Firm as firm
use Rattle.firm.specs.Calls.{Limits}
use Rattle.firm.specs.Laws.{Known}
use Rattle.firm.specs.Refusals.{kind_is}
use Rattle.firm.specs.Statements.{Reached}
use Rattle.firm.proofs.Known.{reached_known}
use Rattle.firm.proofs.Picks.{pick_true, pick_false}
use Rattle.layout.specs.declared.head.Counter.TheVariants.{Orders, Entries}
use Rattle.layout.specs.declared.head.Total.TheVariants.{Documents}
use Rattle.memory.specs.Books.{count_of, total_of, order_record}
use Rattle.questions.specs.Entries.{entry_of}
use Rattle.records.specs.Kinds.{order_kind}
use Rattle.records.specs.State.{State}
use Rattle.records.specs.declared.order.Order.{Order}
use Rattle.store.specs.View.{Kept}
use Rattle.session.specs.Means.{Means, order_of, limits_of}

module _ (l : Limits) (s : State) (f : Firm) (k : ℕ) (r : Reached l f) (h : Means (limits_of l) s f) where
  abbrev m : Kept
  m = h.kept

  -- the order as it lies in memory and as it is in the books
  abbrev o : Order
  o = order_record (limits_of l) k s.narrow

  abbrev a : firm.Order
  a = the_order f k

  pub documents_are : total_of Documents s.wide ≡ f.documents
  documents_are = h.stands.frame.totals Documents ∙ h.documents

  pub orders_are : length m.all_orders ≡ length f.orders
  orders_are = sym (length-map m.all_orders order_of) ∙ ap length h.orders

  pub entries_are : count_of Entries s.narrow ≡ length f.entries
  entries_are = h.stands.entries.count ∙ sym (length-map m.all_entries entry_of) ∙ ap length h.entries

  there : ltb k (length f.orders) ≡ ltb k (count_of Orders s.narrow)
  there = ap (ltb k) (sym (h.stands.orders.count ∙ orders_are))

  -- no such order
  pub not_there : (b : Bool) (n : ℕ) → ltb k (count_of Orders s.narrow) ≡ false → kind_is f k b n ≡ 4
  not_there b n e = pick_false (ltb k (length f.orders)) _ 4 (there ∙ e)

  module _ (e : ltb k (count_of Orders s.narrow) ≡ true) where
    few : k < length f.orders
    few = ltb-true k (length f.orders) (there ∙ e)

    pub in_all : k < length m.all_orders
    in_all = omega (arith, few, orders_are)

    pub at_k : o ≡ get_or m.all_orders k order_kind.nothing
    at_k = h.stands.orders.each k in_all

    pub same : order_of o ≡ a
    same =
        ap order_of at_k ∙ sym (get_or-map order_of m.all_orders k order_kind.nothing no_order in_all)
        ∙ ap (λ (os : List firm.Order). get_or os k no_order) h.orders

    pub known : Known l (order_of o)
    known = subst (Known l) (sym same) (reached_known l f r k few)

    kind : o.sells ≡ a.sells
    kind = ap (λ (z : firm.Order). z.sells) same

    -- an order of the other kind
    pub sells_not : (n : ℕ) → o.sells ≡ true → kind_is f k false n ≡ 5
    sells_not n y = pick_true (ltb k (length f.orders)) _ 4 (there ∙ e) ∙ pick_true a.sells 5 n (sym kind ∙ y)

    pub buys_not : (n : ℕ) → o.sells ≡ false → kind_is f k true n ≡ 5
    buys_not n y = pick_true (ltb k (length f.orders)) _ 4 (there ∙ e) ∙ pick_false a.sells n 5 (sym kind ∙ y)

    -- an order of the kind that is asked for
    pub buys_so : (n : ℕ) → o.sells ≡ false → kind_is f k false n ≡ n
    buys_so n y = pick_true (ltb k (length f.orders)) _ 4 (there ∙ e) ∙ pick_false a.sells 5 n (sym kind ∙ y)

    pub sells_so : (n : ℕ) → o.sells ≡ true → kind_is f k true n ≡ n
    sells_so n y = pick_true (ltb k (length f.orders)) _ 4 (there ∙ e) ∙ pick_true a.sells n 5 (sym kind ∙ y)
