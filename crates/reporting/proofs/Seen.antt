-- What is seen in memory that stands for a firm is what the firm has. Assumes nothing.
use Rattle.std.proofs.Common.{◌≡◌, ℕ, ◌<◌, true, eqb, List, ◌++◌, length, get_or, codes, sym, refl, ap, ◌∙◌, ap₂, append_assoc, arith}
use Rattle.std.proofs.lemmas.List.{length-map, get_or-map}
use Rattle.std.proofs.lemmas.Bool.{lt-ltb, eq-eqb}
use Rattle.firm.specs.Stock.{on_hand, worth}
use Rattle.firm.specs.Ledger.{left_side, right_side}
use Rattle.firm.specs.Firm.{Firm, no_order, the_order}
use Rattle.firm.specs.Firm as firm
use Rattle.firm.specs.Calls.{Call, Answer, two, call_number}
use Rattle.firm.specs.Calls as calls
use Rattle.firm.specs.Changes.{changed}
use Rattle.firm.specs.Refusals.{good_fields, good_call, turned_by, turned, fits}
use Rattle.firm.specs.Answers.{told, answer}
use Rattle.firm.proofs.Bounds.{reached_fits}
use Rattle.firm.proofs.Picks.{pick_true}
use Rattle.firm.proofs.Turned.{turned_not}
use Rattle.layout.specs.declared.limits.Limits.{Limits}
use Rattle.memory.specs.Books.{order_record}
use Rattle.records.specs.Kinds.{order_kind}
use Rattle.records.specs.State.{State}
use Rattle.rules.specs.Asking.{stock_told, account_told}
use Rattle.session.specs.Means.{order_of}
use Rattle.session.proofs.Keeping.{done_means}
use Rattle.text.specs.Run.{books_limits}
use Rattle.text.specs.Standing.{Standing}
use Rattle.reporting.specs.Columns.{rows_to}
use Rattle.reporting.specs.Shown.{two_shown, stock_shown, account_shown, order_shown, stock_seen, accounts_seen, orders_seen, tables_seen}
use Rattle.reporting.specs.Tables.{stock_heading, stock_row, stock_table, accounts_heading, account_row, accounts_table, orders_heading, order_row, orders_table}
use Rattle.reporting.proofs.Rows.{rows_same}

module _ (l : Limits) (s : State) (f : Firm) (room : ℕ) (h : Standing (books_limits l) f s room) where
  -- a question that is taken is told
  asked : (c : Call) → good_call (books_limits l) c ≡ true → turned_by f c ≡ 0 → changed f c ≡ f → answer (books_limits l) f c ≡ told f c
  asked c g by same =
      pick_true (eqb (turned (books_limits l) f c) 0) (told f c) _
      (eq-eqb (turned (books_limits l) f c) 0 (turned_not (books_limits l) f c g by (ap (fits (books_limits l)) same ∙ reached_fits (books_limits l) f h.reached)))

  -- STOCK
  stock_is : (i : ℕ) → i < l.items → stock_told l i s.wide ≡ two (on_hand f.lots i) (worth f.lots i)
  unfolding call_number good_fields turned_by changed told
  stock_is i lt = (done_means (books_limits l) s f h.good h.cans h.reached h.means (calls.stock_of i)).says ∙ asked (calls.stock_of i) (lt-ltb i l.items lt) refl refl

  stock_same : stock_seen l s ≡ stock_table (books_limits l) f
  unfolding stock_seen stock_table
  stock_same =
      ap (λ (t : List ℕ). stock_heading ++ t)
      (rows_same (stock_shown l s) (λ i. stock_row i (on_hand f.lots i) (worth f.lots i)) l.items (λ i lt. ap (two_shown (stock_row i)) (stock_is i lt)))

  -- ACCOUNTS
  account_is : (a : ℕ) → a < 9 → account_told a s.wide ≡ two (left_side f.entries a) (right_side f.entries a)
  unfolding call_number good_fields turned_by changed told
  account_is a lt = (done_means (books_limits l) s f h.good h.cans h.reached h.means (calls.account a)).says ∙ asked (calls.account a) (lt-ltb a 9 lt) refl refl

  accounts_same : accounts_seen l s ≡ accounts_table f
  unfolding accounts_seen accounts_table
  accounts_same =
      ap (λ (t : List ℕ). accounts_heading ++ t)
      (rows_same (account_shown l s) (λ a. account_row a (left_side f.entries a) (right_side f.entries a)) 9 (λ a lt. ap (two_shown (account_row a)) (account_is a lt)))

  -- ORDERS
  orders_are : length h.means.kept.all_orders ≡ length f.orders
  orders_are = sym (length-map h.means.kept.all_orders order_of) ∙ ap length h.means.orders

  order_is : (k : ℕ) → k < length f.orders → order_of (order_record l k s.narrow) ≡ the_order f k
  order_is k lt =
      let few : k < length h.means.kept.all_orders = omega (arith, orders_are) in
      ap order_of (h.means.stands.orders.each k few) ∙ sym (get_or-map order_of h.means.kept.all_orders k order_kind.nothing no_order few)
      ∙ ap (λ (os : List firm.Order). get_or os k no_order) h.means.orders

  orders_same : orders_seen l s.narrow ≡ orders_table f
  unfolding orders_seen orders_table
  orders_same =
      ap (λ (n : ℕ). orders_heading ++ rows_to (order_shown l s.narrow) n) (h.means.stands.orders.count ∙ orders_are)
      ∙ ap (λ (t : List ℕ). orders_heading ++ t) (rows_same (order_shown l s.narrow) (λ k. order_row k (the_order f k)) (length f.orders) (λ k lt. ap (order_row k) (order_is k lt)))

  -- THE TABLES, and what comes behind them
  pub tables_are : (last : List ℕ) → tables_seen l s ++ last ≡ stock_table (books_limits l) f ++ (codes "\n" ++ (accounts_table f ++ (codes "\n" ++ (orders_table f ++ (codes "\n" ++ last)))))
  unfolding tables_seen
  tables_are last =
      ap (λ (t : List ℕ). t ++ last) (ap₂ (λ (x y : List ℕ). x ++ (codes "\n" ++ y)) stock_same (ap₂ (λ (x y : List ℕ). x ++ (codes "\n" ++ (y ++ codes "\n"))) accounts_same orders_same)) ∙ simp append_assoc
