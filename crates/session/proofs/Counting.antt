-- What lots and entries come to: sums of one item or account, of all, and those that are kept. Assumes nothing.
use Rattle.std.proofs.Common.{◌≡◌, ℕ, ◌+◌, ◌-◌, ◌*◌, ◌^◌, ◌<◌, ◌≤◌, Bool, true, false, cond, eqb, ◌≢◌, ◌⊎◌, List, [], ◌∷◌, ◌++◌, map, length, sym, refl, ap, ◌∙◌, subst, ap₂, inl, inr, append_assoc, append-nil, arith}
use Rattle.std.proofs.lemmas.Bool.{cond_both, cond-true, cond-false, cases_eq, eq-eqb, ne_eqb}
use Rattle.firm.specs.Stock.{pick, take, on_hand, worth, all_worth, of_item}
use Rattle.firm.specs.Stock as stock
use Rattle.firm.specs.Ledger.{left_side, right_side, sum_of}
use Rattle.firm.specs.Ledger as ledger
use Rattle.firm.specs.Firm.{Firm}
use Rattle.firm.specs.Statements.{all_pieces}
use Rattle.firm.proofs.Bounds.{take_lacking}
use Rattle.firm.proofs.Cases.{take_cases}
use Rattle.firm.proofs.ItemLots.{lots_come_to_stock}
use Rattle.firm.proofs.Taking.{take_keeps}
use Rattle.firm.proofs.Ledger.{left_append, right_append, on_hand_push, item_worth_push}
use Rattle.firm.proofs.Picks.{pick-both}
use Rattle.layout.specs.Layout.{Good, lot_rows, lot_at}
use Rattle.layout.specs.declared.limits.Limits.{Limits}
use Rattle.links.specs.Model.{row}
use Rattle.links.proofs.Counts.{total_row}
use Rattle.links.proofs.View.{end_is}
use Rattle.memory.specs.Books.{lot_record}
use Rattle.questions.specs.Entries.{entry_of}
use Rattle.questions.specs.Listing.{lot_of, lots_step}
use Rattle.std.specs.List.{fold}
use Rattle.records.specs.Kind.{word, lies}
use Rattle.records.specs.Kinds.{lot_kind}
use Rattle.records.specs.State.{State}
use Rattle.records.specs.declared.balance.Balance.{Balance}
use Rattle.records.specs.declared.entry.Entry.{Entry}
use Rattle.records.specs.declared.lot.Lot.{Lot}
use Rattle.records.specs.declared.stock.Stock.{Stock}
use Rattle.store.specs.Laws.{stock_with, stock_without, balance_with}
use Rattle.store.specs.Steps.{sum, more_stock, less_stock}
use Rattle.taking.proofs.OneItem.{one_item}
use Rattle.session.specs.Means.{Means, stock_sums, account_sums, Sized}

-- ONE OF ALL: what an item's lots cost is no more than all cost, and so with a side of an account
pub worth_most : (ls : List stock.Lot) (i : ℕ) → worth ls i ≤ all_worth ls
unfolding worth all_worth
worth_most [] i = omega arith
worth_most (x ∷ ls) i = pick-both (eqb x.item i) x.cost 0 (λ (n : ℕ). n + worth ls i ≤ x.cost + all_worth ls) (λ _. omega (arith, worth_most ls i)) (λ _. omega (arith, worth_most ls i))

left_most : (es : List ledger.Entry) (a : ℕ) → left_side es a ≤ sum_of es
unfolding left_side sum_of
left_most [] a = omega arith
left_most (e ∷ es) a = pick-both (eqb e.on_left a) e.amount 0 (λ (n : ℕ). n + left_side es a ≤ e.amount + sum_of es) (λ _. omega (arith, left_most es a)) (λ _. omega (arith, left_most es a))

right_most : (es : List ledger.Entry) (a : ℕ) → right_side es a ≤ sum_of es
unfolding right_side sum_of
right_most [] a = omega arith
right_most (e ∷ es) a = pick-both (eqb e.on_right a) e.amount 0 (λ (n : ℕ). n + right_side es a ≤ e.amount + sum_of es) (λ _. omega (arith, right_most es a)) (λ _. omega (arith, right_most es a))

-- AN ITEM'S LOTS along its cells
pub lots_along : (l : Limits) (s : State) (cs : List ℕ) (xs : List stock.Lot) → fold (lots_step l s) xs cs ≡ xs ++ map lot_of (map (λ c. lot_record l c s) cs)
lots_along l s [] xs = sym (append-nil xs)
lots_along l s (c ∷ cs) xs = lots_along l s cs (xs ++ (lot_of (lot_record l c s) ∷ [])) ∙ append_assoc xs (lot_of (lot_record l c s) ∷ []) (map lot_of (map (λ d. lot_record l d s) cs))

on_hand_is : (ls : List stock.Lot) (i : ℕ) → on_hand ls i ≡ all_pieces (of_item ls i)
unfolding on_hand all_pieces of_item
on_hand_is [] i = refl
on_hand_is (x ∷ ls) i = at (eqb x.item i) (on_hand_is ls i)
  where
    at : (b : Bool) → on_hand ls i ≡ all_pieces (of_item ls i) → pick b x.pieces 0 + on_hand ls i ≡ all_pieces (pick b (x ∷ of_item ls i) (of_item ls i))
    at true e = omega (arith, e)
    at false e = omega (arith, e)

worth_is : (ls : List stock.Lot) (i : ℕ) → worth ls i ≡ all_worth (of_item ls i)
worth_is ls i = sym (lots_come_to_stock ls i).1

-- a lot has fewer than 2 ^ 32 pieces, being read from a word
lot_pieces_small : (l : Limits) (c : ℕ) (s : State) → Sized l s → (lot_record l c s).pieces < 2 ^ 32
unfolding lot_record
lot_pieces_small l c s h =
    cond_both (lies lot_kind _ (lot_at l c) s) (lot_kind.made (word s.wide _) (word s.narrow (lot_at l c))) lot_kind.nothing (λ (x : Lot). x.pieces < 2 ^ 32)
    (λ _. h.narrow.small (lot_at l c + 1)) (λ _. omega arith)

pieces_most : (l : Limits) (s : State) (cs : List ℕ) → Sized l s → all_pieces (map lot_of (map (λ c. lot_record l c s) cs)) ≤ length cs * 4294967296
unfolding all_pieces
pieces_most l s [] h = omega arith
pieces_most l s (c ∷ cs) h = omega (arith, pieces_most l s cs h, lot_pieces_small l c s h)

module _ (l : Limits) (s : State) (f : Firm) (good : Good l) (h : Means l s f) (i : ℕ) (lt : i < l.items) where
  abbrev places : List ℕ
  places = row h.stands.lots.places i

  pub lots_there : map lot_of (map (λ c. lot_record l c s) places) ≡ of_item f.lots i
  lots_there = ap (map lot_of) (h.stands.lots.each i lt) ∙ h.lots i lt

  few_places : length places ≤ 65536
  few_places =
      omega (
        arith,
        good.lots,
        total_row h.stands.lots.places i (omega (arith, h.stands.lots.held.many, good.items)),
        h.stands.lots.held.held.room,
        end_is (lot_rows l) s.narrow,
      )

  -- so what lies on hand of it is far below the largest word
  pub on_hand_small : on_hand f.lots i ≤ 2 ^ 48
  on_hand_small = omega (arith, on_hand_is f.lots i, ap all_pieces lots_there, pieces_most l s places h.sized, few_places)

-- KEPT SUMS: with a lot or an entry more they are the meaning's with one more
pub stock_more : (ls : List stock.Lot) (x : Lot) (i : ℕ) (a : Stock) → a ≡ stock_sums ls i → on_hand ls i + x.pieces < 2 ^ 64 → worth ls i + x.cost < 2 ^ 64 →
    stock_with x i a ≡ stock_sums (ls ++ (lot_of x ∷ [])) i
stock_more ls x i a is hp hw =
    ap (stock_with x i) is ∙ at (eqb x.item i) ∙ sym (ap₂ (λ (p w : ℕ). record { pieces = p; worth = w }) (on_hand_push ls (lot_of x) i) (item_worth_push ls (lot_of x) i))
  where
    at : (t : Bool) → cond t (more_stock (stock_sums ls i) x.pieces x.cost) (stock_sums ls i) ≡ record { pieces = on_hand ls i + pick t x.pieces 0; worth = worth ls i + pick t x.cost 0 }
    at true = ap₂ (λ (p w : ℕ). record { pieces = p; worth = w }) (omega arith) (omega arith)
    at false = ap₂ (λ (p w : ℕ). record { pieces = p; worth = w }) (omega arith) (omega arith)

-- WITH PIECES FEWER, which are there, they are the meaning's of what taking leaves
module _ (ls : List stock.Lot) (i q : ℕ) where
  abbrev taken : stock.Taken
  taken = take ls i q

  pieces_left : q ≤ on_hand ls i → on_hand ls i - q ≡ on_hand taken.left i
  pieces_left enough = omega (arith, (take_keeps ls i q).2, (take_keeps ls i q).3, take_lacking ls i q)

  -- what is taken costs no more than all that is there
  pub cost_most : taken.cost ≤ worth ls i
  cost_most = omega (arith, worth_is ls i, (one_item ls i q).cost, (take_keeps (of_item ls i) i q).0)

  worth_left : worth ls i - taken.cost ≡ worth taken.left i
  worth_left =
      omega (
        arith,
        worth_is ls i,
        worth_is taken.left i,
        ap all_worth (one_item ls i q).left,
        (one_item ls i q).cost,
        (take_keeps (of_item ls i) i q).0,
      )

  worth_other : (j : ℕ) → j ≢ i → worth ls j ≡ worth taken.left j
  worth_other j ne = worth_is ls j ∙ ap all_worth (sym ((one_item ls i q).others j ne)) ∙ sym (worth_is taken.left j)

  pub stock_less : (j : ℕ) (a : Stock) → a ≡ stock_sums ls j → q ≤ on_hand ls i → stock_without i q taken.cost j a ≡ stock_sums taken.left j
  stock_less j a is enough = ap (stock_without i q taken.cost j) is ∙ at (cases_eq i j)
    where
      at : (i ≡ j) ⊎ (i ≡ j → ⊥) → stock_without i q taken.cost j (stock_sums ls j) ≡ stock_sums taken.left j
      at (inl e) =
          subst (λ (n : ℕ). stock_without i q taken.cost n (stock_sums ls n) ≡ stock_sums taken.left n) e
          (cond-true (eqb i i) (less_stock (stock_sums ls i) q taken.cost) (stock_sums ls i) (eq-eqb i i refl)
          ∙ ap₂ (λ (p w : ℕ). record { pieces = p; worth = w }) (pieces_left enough) worth_left)
      at (inr ne) =
          cond-false (eqb i j) (less_stock (stock_sums ls j) q taken.cost) (stock_sums ls j) (ne_eqb i j ne)
          ∙ ap₂ (λ (p w : ℕ). record { pieces = p; worth = w }) (sym ((take_keeps ls i q).4 j (λ e. ne (sym e)))) (worth_other j (λ e. ne (sym e)))

-- and there are no more lots than before
pub take_few : (ls : List stock.Lot) (i q : ℕ) → length (take ls i q).left ≤ length ls
unfolding take
take_few [] i q = omega arith
take_few (x ∷ ls) i q =
    take_cases x ls i q (λ t. length t.left ≤ length (x ∷ ls)) (λ _. omega arith) (λ _ _. omega (arith, take_few ls i q)) (λ _ _ _. omega (arith, take_few ls i (q - x.pieces))) (λ _ _ _. omega arith)

pub balance_more : (es : List ledger.Entry) (x : Entry) (a : ℕ) (b : Balance) → b ≡ account_sums es a → sum_of es + x.amount < 2 ^ 64 → balance_with x a b ≡ account_sums (es ++ (entry_of x ∷ [])) a
unfolding left_side right_side
balance_more es x a b is few =
    ap (balance_with x a) is
    ∙ ap₂ (λ (p q : ℕ). record { left = p; right = q })
    (side (eqb x.left a) (left_side es a) (omega (arith, left_most es a)) ∙ omega (arith, left_append es (entry_of x ∷ []) a))
    (side (eqb x.right a) (right_side es a) (omega (arith, right_most es a)) ∙ omega (arith, right_append es (entry_of x ∷ []) a))
  where
    side : (t : Bool) (n : ℕ) → n + x.amount < 2 ^ 64 → cond t (sum n x.amount) n ≡ n + pick t x.amount 0
    side true n lt = omega arith
    side false n lt = omega arith
