-- Opened memory keeps nothing.
use Rattle.std.proofs.Common.{ℕ, ◌+◌, ◌<◌, List, [], map, length, set, ap, ◌∙◌, arith, get_or-set_other, get_or-set_same}
use lib.ListN.{length-replicate}
use Rattle.std.proofs.lemmas.List.FromFn.{length-range_with_len}
use Rattle.std.proofs.lemmas.List.{get_or-replicate}
use Rattle.std.specs.List.{range_with_len}
use Rattle.layout.specs.declared.head.Counter.TheVariants.{Orders, Entries, Parts, Lots}
use Rattle.layout.specs.declared.limits.Limits.{Limits}
use Rattle.links.proofs.Opened.{uses_none, total_none}
use Rattle.links.specs.Rows.{blank}
use Rattle.memory.proofs.Opened.{opens}
use Rattle.memory.specs.Books.{lot_record}
use Rattle.memory.specs.Opened.{opened}
use Rattle.memory.specs.Slots.{Empty}
use Rattle.records.specs.State.{State}
use Rattle.store.specs.Laws.{nothing_kept, OpensEmpty, StoreLaws}
use Rattle.store.specs.View.{Stands}
use Rattle.store.proofs.LotLaws.{adds_lot, refuses_lot, removes_lot, lacks_lot, reads_lot, walks_lots}
use Rattle.store.proofs.OrderLaws.{adds_order, refuses_order, sets_order, reads_order, walks_orders}
use Rattle.store.proofs.EntryLaws.{adds_entry, refuses_entry, reads_entry, walks_entries}
use Rattle.store.proofs.RecipeLaws.{adds_part, refuses_part, adds_recipe, refuses_recipe}
use Rattle.store.proofs.TotalLaws.{puts_total}
use Rattle.store.proofs.SumLaws.{counts_in, counts_out, posts}

empty_stands : (l : Limits) (s : State) → Empty l s → Stands l s nothing_kept
empty_stands l s e = record {
  frame = record { limits = e.limits; roomy = e.roomy; totals = e.totals };
  lots = record {
    places = all;
    held = e.lots;
    each = λ i lt. ap (map (λ c. lot_record l c s)) (get_or-set_other (blank (l.items + 1)) l.items i _ [] (λ q. omega arith) ∙ get_or-replicate (l.items + 1) i [] [] (omega arith));
    used = e.counts Lots;
    free = omega (arith, ap length (get_or-set_same (blank (l.items + 1)) l.items (range_with_len 0 l.lots) [] inside), length-range_with_len 0 l.lots);
  };
  orders = record {
    count = e.counts Orders;
    few = omega arith;
    each = λ k lt. absurd (omega arith);
    places = blank l.items;
    linked = record { held = e.orders; all = total_none l.items; fresh = λ c ge. uses_none c l.items };
    of_item = λ i lt. get_or-replicate l.items i [] [] lt;
  };
  entries = record {
    count = e.counts Entries;
    few = omega arith;
    each = λ k lt. absurd (omega arith);
    places = blank 16;
    linked = record { held = e.entries; all = total_none 16; fresh = λ c ge. uses_none c 16 };
    of_account = λ a lt. get_or-replicate 16 a [] [] lt;
  };
  recipes = record { count = e.counts Parts; few = omega arith; each = λ k lt. absurd (omega arith); first = e.recipes };
  sums = record { stocks = e.stocks; balances = e.balances };
}
  where
    all : List (List ℕ)
    all = set (blank (l.items + 1)) l.items (range_with_len 0 l.lots)

    inside : l.items < length (blank (l.items + 1))
    inside = omega (arith, length-replicate {A = List ℕ} (l.items + 1) [])

pub opens_empty : OpensEmpty
opens_empty l s good room = empty_stands l (opened l s) (opens l s good room).empty

pub store_laws : StoreLaws
store_laws = record {
  opens_empty = opens_empty;
  adds_lot = adds_lot;
  refuses_lot = refuses_lot;
  removes_lot = removes_lot;
  lacks_lot = lacks_lot;
  reads_lot = reads_lot;
  walks_lots = walks_lots;
  adds_order = adds_order;
  refuses_order = refuses_order;
  sets_order = sets_order;
  reads_order = reads_order;
  walks_orders = walks_orders;
  adds_entry = adds_entry;
  refuses_entry = refuses_entry;
  reads_entry = reads_entry;
  walks_entries = walks_entries;
  adds_part = adds_part;
  refuses_part = refuses_part;
  adds_recipe = adds_recipe;
  refuses_recipe = refuses_recipe;
  puts_total = puts_total;
  counts_in = counts_in;
  counts_out = counts_out;
  posts = posts;
}
