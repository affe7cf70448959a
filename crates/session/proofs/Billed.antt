-- Pieces of an order that are billed: the order, the entries and the totals, whatever is entered. Assumes nothing.
use Rattle.std.proofs.Common.{◌≡◌, ℕ, suc, ◌+◌, ◌-◌, ◌*◌, ◌^◌, ◌<◌, ◌≤◌, min, Bool, true, false, ◌&&◌, ltb, leb, List, length, set, Ok, sym, refl, ap, ◌∙◌, subst, mul-le-mul, arith, length-set}
use Rattle.std.proofs.lemmas.List.{length-map, map-set}
use Rattle.std.proofs.lemmas.Bool.{and_parts, leb-true, ltb-true}
use Rattle.firm.specs.Stock.{pick}
use Rattle.firm.specs.Ledger.{sum_of}
use Rattle.firm.specs.Ledger as ledger
use Rattle.firm.specs.Firm.{Firm, the_order}
use Rattle.firm.specs.Firm as firm
use Rattle.firm.specs.Calls.{Limits}
use Rattle.firm.specs.Refusals.{some_pieces, fits}
use Rattle.firm.specs.Statements.{Reached}
use Rattle.firm.proofs.Bounds.{reached_parts}
use Rattle.firm.proofs.Fitting.{fits_by}
use Rattle.layout.specs.Layout.{Good}
use Rattle.layout.specs.declared.head.Counter.TheVariants.{Orders, Entries}
use Rattle.layout.specs.declared.head.Total.TheVariants.{Documents, Booked}
use Rattle.layout.specs.declared.limits.Limits as memory
use Rattle.memory.specs.Books.{count_of, total_of, order_record, put_order}
use Rattle.questions.specs.Entries.{entry_of}
use Rattle.records.specs.State.{State, state}
use Rattle.records.specs.declared.order.Order.{Order}
use Rattle.rules.specs.Billing.{bill_fits, order_billed}
use Rattle.rules.specs.Checks.{document_fits, room, billed_more}
use Rattle.rules.specs.Totals.{raised, booked}
use Rattle.store.specs.Laws.{with_orders, with_entries, with_total, with_balances}
use Rattle.store.specs.Steps.{After, after, set_order}
use Rattle.store.specs.View.{Kept, Stands}
use Rattle.store.proofs.OrderLaws.{sets_order}
use Rattle.session.specs.Means.{Means, order_of, limits_of, Sized}
use Rattle.session.proofs.Entering.{Entered}
use Rattle.session.proofs.Ordered.{documents_are, entries_are, in_all, at_k, same, known}
use Rattle.session.proofs.Steps.{raised_stands}
use Rattle.session.proofs.Small.{sized_put_order, sized_raised, order_small}

-- as many entries are counted as the books have
pub entered_count : (l : memory.Limits) (t : State) (b : Kept) (es : List ledger.Entry) (n : Entered l t b es) → count_of Entries t.narrow ≡ length es
entered_count l t b es n = n.stands.entries.count ∙ sym (length-map n.all entry_of) ∙ ap length n.entries

module _ (l : Limits) (s : State) (f : Firm) (k q : ℕ) (good : Good (limits_of l)) (r : Reached l f) (h : Means (limits_of l) s f) where
  abbrev m : Kept
  m = h.kept

  abbrev o : Order
  o = order_record (limits_of l) k s.narrow

  abbrev d : ℕ
  d = total_of Documents s.wide

  -- the books with that order billed, these entries, and a document more
  abbrev pub billed_firm : firm.Order → List ledger.Entry → Firm
  billed_firm y es = record { documents = suc f.documents; lots = f.lots; orders = set f.orders k (firm.billed_more y q); recipes = f.recipes; entries = es }

  -- WHETHER IT FITS, with n entries more that come to x
  pub billed_fits : (y : firm.Order) (es : List ledger.Entry) (n x : ℕ) → length es ≡ length f.entries + n → sum_of es ≡ sum_of f.entries + x →
      fits l (billed_firm y es) ≡ bill_fits (limits_of l) n x s
  billed_fits y es n x long sum =
      let fit = reached_parts l f r in
      fits_by l (billed_firm y es) true true true (leb (count_of Entries s.narrow + n) l.entries) (leb (total_of Booked s.wide + x) 1000000000000000) true (document_fits s)
      (ap (λ (i : ℕ). leb i l.orders) (length-set f.orders k (firm.billed_more y q)) ∙ fit.orders)
      fit.lots
      fit.parts
      (ap (λ (i : ℕ). leb i l.entries) (long ∙ ap (λ (i : ℕ). i + n) (sym (entries_are l s f k r h))))
      (ap (λ (i : ℕ). leb i 1000000000000000) (sum ∙ ap (λ (i : ℕ). i + x) (sym (h.stands.frame.totals Booked ∙ h.booked))))
      fit.worth
      (ap (λ (i : ℕ). leb (suc i) 1099511627776) (sym (documents_are l s f k r h)))
      ∙ both (leb (count_of Entries s.narrow + n) l.entries) (leb (total_of Booked s.wide + x) 1000000000000000) (document_fits s)
    where
      both : (u v g : Bool) → ((true && true) && ((true && u) && (v && (true && g)))) ≡ ((u && v) && g)
      both true true g = refl
      both true false g = refl
      both false v g = refl

  abbrev pub Room : ℕ → ℕ → Type 0
  Room n x = (count_of Entries s.narrow + n ≤ l.entries) × (total_of Booked s.wide + x ≤ 1000000000000000) × (d < 1099511627776)

  pub tested : (n x : ℕ) → bill_fits (limits_of l) n x s ≡ true → Room n x
  tested n x fit =
      let u = and_parts (room (limits_of l) n x s) (document_fits s) fit in
      let v = and_parts (leb (count_of Entries s.narrow + n) l.entries) (leb (total_of Booked s.wide + x) 1000000000000000) u.0 in
      (leb-true _ _ v.0, leb-true _ _ v.1, ltb-true _ _ u.1)

  module _ (e : ltb k (count_of Orders s.narrow) ≡ true) where
    pub by_pieces : pick {A = ℕ} (leb ((the_order f k).billed + q) (the_order f k).moved) 0 6 ≡ pick (leb (o.billed + q) o.moved) 0 6
    by_pieces = ap (λ (z : firm.Order). pick (leb (z.billed + q) z.moved) 0 6) (sym (same l s f k r h e))

    -- so many pieces come to at most 10^12
    pub price_small : some_pieces q ≡ true → q * o.price ≤ 1000000000000
    price_small g = mul-le-mul (leb-true q 1000000 (and_parts (leb 1 q) (leb q 1000000) g).1) (known l s f k r h e).price

    -- IT IS DONE: the order
    module _ (enough : o.billed + q ≤ o.moved) where
      abbrev o' : Order
      o' = billed_more o q

      abbrev pub order_kept : Kept
      order_kept = with_orders (set m.all_orders k o') m

      sets : (set_order (limits_of l) k o' s.narrow ≡ after (Ok k) (put_order (limits_of l) k o' s.narrow)) × Stands (limits_of l) (state s.wide (put_order (limits_of l) k o' s.narrow)) order_kept
      sets = sets_order (limits_of l) s m k o' good h.stands (in_all l s f k r h e) (ap (λ (z : Order). z.item) (at_k l s f k r h e))

      abbrev s₀ : State
      s₀ = order_billed (limits_of l) k o q s

      stands₀ : Stands (limits_of l) s₀ order_kept
      stands₀ = subst (λ (n : After ℕ (List ℕ)). Stands (limits_of l) (state s.wide n.left) order_kept) (sym sets.0) sets.1

      sized₀ : Sized (limits_of l) s₀
      sized₀ =
          let small = order_small (limits_of l) k s h.sized in
          subst (λ (n : After ℕ (List ℕ)). Sized (limits_of l) (state s.wide n.left)) (sym sets.0)
          (sized_put_order (limits_of l) k o' s (record { item = small.item; pieces = small.pieces; price = small.price; moved = small.moved; billed = omega (arith, enough, small.moved) }) h.sized)

      -- nothing is entered so far
      pub order_entered : Entered (limits_of l) s₀ order_kept f.entries
      order_entered = record { all = m.all_entries; sides = m.balances; stands = stands₀; sized = sized₀; entries = h.entries; balances = h.balances }

      -- the totals, and what all of it stands for
      pub booked_means : (t : State) (es : List ledger.Entry) (x : ℕ) → Entered (limits_of l) t order_kept es → sum_of es ≡ sum_of f.entries + x →
          total_of Booked s.wide + x ≤ 1000000000000000 → d < 1099511627776 → Means (limits_of l) (booked x t) (billed_firm (order_of o) es)
      booked_means t es x n sum most few =
          record {
            kept = k₂;
            stands = raised_stands (limits_of l) t₁ k₁ Documents 1 good (raised_stands (limits_of l) t k₀ Booked x good n.stands);
            documents = omega (arith, few, h.documents, documents_are l s f k r h);
            booked = omega (arith, most, h.booked, h.stands.frame.totals Booked, sum);
            worth = h.worth;
            lots = h.lots;
            used = h.used;
            orders = map-set order_of m.all_orders k o' ∙ ap (λ (os : List firm.Order). set os k (order_of o')) h.orders;
            entries = n.entries;
            stocks = h.stocks;
            balances = n.balances;
            recipes = h.recipes;
            sized = sized_raised (limits_of l) Documents 1 t₁ (sized_raised (limits_of l) Booked x t n.sized);
          }
        where
          k₀ : Kept
          k₀ = with_balances n.sides (with_entries n.all order_kept)

          t₁ : State
          t₁ = state (raised Booked x t.wide) t.narrow

          k₁ : Kept
          k₁ = with_total Booked (min (2 ^ 64 - 1) (k₀.totals Booked + x)) k₀

          k₂ : Kept
          k₂ = with_total Documents (min (2 ^ 64 - 1) (k₁.totals Documents + 1)) k₁
