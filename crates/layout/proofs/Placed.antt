-- The rows of lots, orders and entries lie apart, in the memory that is asked for, and in their own words; and what follows for steps that keep to their words.
use Rattle.std.proofs.Common.{◌≡◌, ℕ, ◌+◌, ◌≢◌, List, sym, refl, ap, ◌∙◌, arith}
use Rattle.links.proofs.Addresses.{Place, cell, head, place_of, cell_at, head_at, tail_lies}
use Rattle.links.proofs.Laws.{stays}
use Rattle.links.specs.Area.{place_at, tail_at}
use Rattle.links.specs.Rows.{Rows, Frame}
use Rattle.links.specs.declared.shape.Shape.{Shape}
use Rattle.layout.specs.Areas.{Placed, Areas}
use Rattle.layout.specs.Layout.{Good, lot_rows, order_rows, entry_rows}
use Rattle.layout.specs.Words.{Owner, lot_links, order_links, entry_links, owner, Only, OnlyWide}
use Rattle.layout.specs.declared.limits.Limits.{Limits}
use Rattle.layout.proofs.Owners.{owns_account, owns_order_link, owns_lot_link, owns_entry_link, owns_lot_head, owns_order_head}

pub lot_rows_placed : (l : Limits) → Good l → Placed lot_links l (lot_rows l)
lot_rows_placed l good = record {
  sound = record { cells_apart = omega arith; heads_apart = omega arith; heads_first = omega (arith, good.items, good.orders); places_few = omega (arith, good.items, good.lots) };
  lies = λ n long. record { heads = omega (arith, good.items); cells = omega (arith, good.items, good.orders) };
  places = λ p lt. at p (place_of (lot_rows l) p lt);
  tails = λ r lt. owns_lot_head l r (tail_at (lot_rows l) r) (omega (arith, good.items)) (omega (arith, tail_lies (lot_rows l) r)) (omega (arith, tail_lies (lot_rows l) r));
}
  where
    at : (p : ℕ) → Place (lot_rows l) p → owner l (place_at (lot_rows l) p) ≡ lot_links
    at _ (cell c lt) =
        owns_lot_link l c (place_at (lot_rows l) c) lt (omega (arith, cell_at (lot_rows l) c lt, good.items, good.orders)) (omega (arith, cell_at (lot_rows l) c lt, good.items, good.orders))
    at _ (head r lt) =
        owns_lot_head l r (place_at (lot_rows l) (l.lots + r)) (omega (arith, good.items)) (omega (arith, head_at (lot_rows l) r)) (omega (arith, head_at (lot_rows l) r))

pub order_rows_placed : (l : Limits) → Good l → Placed order_links l (order_rows l)
order_rows_placed l good = record {
  sound = record { cells_apart = omega arith; heads_apart = omega arith; heads_first = omega (arith, good.items); places_few = omega (arith, good.items, good.orders) };
  lies = λ n long. record { heads = omega (arith, good.items); cells = omega (arith, good.items) };
  places = λ p lt. at p (place_of (order_rows l) p lt);
  tails = λ r lt. owns_order_head l r (tail_at (order_rows l) r) (omega arith) (omega (arith, tail_lies (order_rows l) r)) (omega (arith, tail_lies (order_rows l) r));
}
  where
    at : (p : ℕ) → Place (order_rows l) p → owner l (place_at (order_rows l) p) ≡ order_links
    at _ (cell c lt) = owns_order_link l c (place_at (order_rows l) c) lt (omega (arith, cell_at (order_rows l) c lt, good.items)) (omega (arith, cell_at (order_rows l) c lt, good.items))
    at _ (head r lt) = owns_order_head l r (place_at (order_rows l) (l.orders + r)) (omega arith) (omega (arith, head_at (order_rows l) r)) (omega (arith, head_at (order_rows l) r))

pub entry_rows_placed : (l : Limits) → Good l → Placed entry_links l (entry_rows l)
entry_rows_placed l good = record {
  sound = record {
    cells_apart = omega arith;
    heads_apart = omega arith;
    heads_first = omega (arith, good.items, good.orders, good.lots, good.parts, good.entries);
    places_few = omega (arith, good.entries);
  };
  lies = λ n long. record { heads = omega arith; cells = omega (arith, good.items, good.orders, good.lots, good.parts, good.entries) };
  places = λ p lt. at p (place_of (entry_rows l) p lt);
  tails = λ r lt. owns_account l (tail_at (entry_rows l) r) (omega (arith, tail_lies (entry_rows l) r)) (omega (arith, tail_lies (entry_rows l) r));
}
  where
    at : (p : ℕ) → Place (entry_rows l) p → owner l (place_at (entry_rows l) p) ≡ entry_links
    at _ (cell c lt) = owns_entry_link l (place_at (entry_rows l) c) (omega (arith, cell_at (entry_rows l) c lt, good.items, good.orders, good.lots, good.parts, good.entries))
    at _ (head r lt) = owns_account l (place_at (entry_rows l) ((entry_rows l).cells + r)) (omega (arith, head_at (entry_rows l) r)) (omega (arith, head_at (entry_rows l) r))

pub areas : Areas
areas = record { lot_rows_placed = lot_rows_placed; order_rows_placed = order_rows_placed; entry_rows_placed = entry_rows_placed }

-- STEPS that keep to their words
pub only_none : (x : Owner) (l : Limits) (n : List ℕ) → Only x l n n
only_none x l n = record { long = refl; others = λ i ne. refl }

pub only_both : (x : Owner) (l : Limits) (a b c : List ℕ) → Only x l a b → Only x l b c → Only x l a c
only_both x l a b c f g = record { long = g.long ∙ f.long; others = λ i ne. g.others i ne ∙ f.others i ne }

pub only_wide_none : (x : Owner) (l : Limits) (n : List ℕ) → OnlyWide x l n n
only_wide_none x l n = record { long = refl; others = λ i ne. refl }

-- what is done to rows is done to their subject's words
pub only_rows : (x : Owner) (l : Limits) (h : Shape) (n n' : List ℕ) → Placed x l h → Frame h n n' → Only x l n n'
only_rows x l h n n' placed frame = record {
  long = frame.long;
  others = λ i ne. frame.beyond i (record { places = λ p lt e. ne (ap (owner l) e ∙ placed.places p lt); tails = λ r lt e. ne (ap (owner l) e ∙ placed.tails r lt) });
}

-- rows stay while another subject's words change
pub rows_kept : (x y : Owner) (l : Limits) (h : Shape) (n n' : List ℕ) (m : List (List ℕ)) → Placed x l h → x ≢ y → Only y l n n' → Rows h n m → Rows h n' m
rows_kept x y l h n n' m placed ne only rows =
    stays h n n' m only.long (λ p lt. only.others (place_at h p) (λ e. ne (sym (placed.places p lt) ∙ e))) (λ r lt. only.others (tail_at h r) (λ e. ne (sym (placed.tails r lt) ∙ e))) rows
