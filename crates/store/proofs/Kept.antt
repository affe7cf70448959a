-- What each part of the books needs of a step to stand after it: that the step keeps to words of others, and its own counter.
use Rattle.std.proofs.Common.{◌≡◌, ℕ, ◌<◌, ◌≢◌, List, [], ◌∷◌, map, refl, ◌∙◌, ap₂, arith}
use Rattle.layout.proofs.Placed.{lot_rows_placed, order_rows_placed, entry_rows_placed, rows_kept}
use Rattle.layout.specs.Layout.{Good, lot_rows, order_rows, entry_rows}
use Rattle.layout.specs.Words.{Owner, limits, totals, balances, stocks, orders, order_links, lots, lot_links, recipes, parts, entries, entry_links}
use Rattle.layout.specs.declared.head.Counter.TheVariants.{Orders, Entries, Parts, Lots}
use Rattle.layout.specs.declared.head.Total.{Total}
use Rattle.layout.specs.declared.limits.Limits.{Limits}
use Rattle.links.proofs.Counts.{count_here}
use Rattle.links.proofs.Laws.{cell_is}
use Rattle.links.specs.Model.{row, count}
use Rattle.memory.proofs.Head.{limits_kept, total_kept}
use Rattle.memory.proofs.Slots.{order_slots, lot_slots, entry_slots, part_slots, recipe_slots, stock_slots, balance_slots}
use Rattle.memory.specs.Books.{count_of, lot_record}
use Rattle.memory.specs.Slots.{Within}
use Rattle.records.specs.State.{State}
use Rattle.records.specs.declared.balance.Balance.{Balance}
use Rattle.records.specs.declared.entry.Entry.{Entry}
use Rattle.records.specs.declared.lot.Lot.{Lot}
use Rattle.records.specs.declared.order.Order.{Order}
use Rattle.records.specs.declared.part.Part.{Part}
use Rattle.records.specs.declared.recipe.Recipe.{Recipe}
use Rattle.records.specs.declared.stock.Stock.{Stock}
use Rattle.store.specs.View.{Frame, LotsStand, OrdersStand, EntriesStand, RecipesStand, SumsStand}

-- a map stays where each of its values does
pub map_same : {X : Type 0} (f g : ℕ → X) (xs : List ℕ) → ((c : ℕ) → 0 < count c xs → f c ≡ g c) → map f xs ≡ map g xs
map_same f g [] same = refl
map_same f g (x ∷ xs) same = ap₂ (λ a l. a ∷ l) (same x (omega (arith, count_here x xs))) (map_same f g xs (λ c u. same c (omega arith)))

module _ (l : Limits) (s s' : State) (good : Good l) (y : Owner) (with_in : Within y l s s') where
  pub frame_kept : (ts : Total → ℕ) → limits ≢ y → totals ≢ y → Frame l s ts → Frame l s' ts
  frame_kept ts ne ne' fr = record {
    limits = limits_kept y l s.narrow s'.narrow ne with_in.narrow ∙ fr.limits;
    roomy = record { wide = omega (arith, fr.roomy.wide, with_in.wide.long); narrow = omega (arith, fr.roomy.narrow, with_in.narrow.long) };
    totals = λ t. total_kept t y l s.wide s'.wide ne' with_in.wide ∙ fr.totals t;
  }

  pub lots_kept : (of : ℕ → List Lot) (many : ℕ) → lots ≢ y → lot_links ≢ y → count_of Lots s'.narrow ≡ count_of Lots s.narrow → LotsStand l s of many → LotsStand l s' of many
  lots_kept of many ne ne' same h = record {
    places = h.places;
    held = rows_kept lot_links y l (lot_rows l) s.narrow s'.narrow h.places (lot_rows_placed l good) ne' with_in.narrow h.held;
    each = λ i lt. map_same (λ c. lot_record l c s') (λ c. lot_record l c s) (row h.places i)
        (λ c u. (lot_slots l).kept c y s s' (cell_is (lot_rows l) s.narrow h.places i (lot_rows_placed l good).sound h.held (omega (arith, good.items)) c u) ne with_in) ∙ h.each i lt;
    used = same ∙ h.used;
    free = h.free;
  }

  pub orders_kept : (os : List Order) → orders ≢ y → order_links ≢ y → count_of Orders s'.narrow ≡ count_of Orders s.narrow → OrdersStand l s os → OrdersStand l s' os
  orders_kept os ne ne' same h = record {
    count = same ∙ h.count;
    few = h.few;
    each = λ k lt. (order_slots l).kept k y s s' (omega (arith, h.few)) ne with_in ∙ h.each k lt;
    places = h.places;
    linked = record {
      held = rows_kept order_links y l (order_rows l) s.narrow s'.narrow h.places (order_rows_placed l good) ne' with_in.narrow h.linked.held;
      all = h.linked.all;
      fresh = h.linked.fresh;
    };
    of_item = h.of_item;
  }

  pub entries_kept : (es : List Entry) → entries ≢ y → entry_links ≢ y → count_of Entries s'.narrow ≡ count_of Entries s.narrow → EntriesStand l s es → EntriesStand l s' es
  entries_kept es ne ne' same h = record {
    count = same ∙ h.count;
    few = h.few;
    each = λ k lt. (entry_slots l).kept k y s s' (omega (arith, h.few)) ne with_in ∙ h.each k lt;
    places = h.places;
    linked = record {
      held = rows_kept entry_links y l (entry_rows l) s.narrow s'.narrow h.places (entry_rows_placed l good) ne' with_in.narrow h.linked.held;
      all = h.linked.all;
      fresh = h.linked.fresh;
    };
    of_account = h.of_account;
  }

  pub recipes_kept : (ps : List Part) (of : ℕ → Recipe) → parts ≢ y → recipes ≢ y → count_of Parts s'.narrow ≡ count_of Parts s.narrow → RecipesStand l s ps of → RecipesStand l s' ps of
  recipes_kept ps of ne ne' same h = record {
    count = same ∙ h.count;
    few = h.few;
    each = λ k lt. (part_slots l).kept k y s s' (omega (arith, h.few)) ne with_in ∙ h.each k lt;
    first = λ i lt. (recipe_slots l).kept i y s s' lt ne' with_in ∙ h.first i lt;
  }

  pub sums_kept : (of : ℕ → Stock) (on : ℕ → Balance) → stocks ≢ y → balances ≢ y → SumsStand l s of on → SumsStand l s' of on
  sums_kept of on ne ne' h = record {
    stocks = λ i lt. (stock_slots l).kept i y s s' lt ne with_in ∙ h.stocks i lt;
    balances = λ a lt. (balance_slots l).kept a y s s' lt ne' with_in ∙ h.balances a lt;
  }
