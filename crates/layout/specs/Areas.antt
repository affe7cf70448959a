-- The rows in the layout: for good limits their words lie apart, in the memory that is asked for, and are their subject's alone.
use Rattle.std.specs.Prelude.{◌≡◌, ℕ, ◌+◌, ◌<◌, ◌≤◌, List, length}
use Rattle.links.specs.Area.{place_at, tail_at, Sound, Lies}
use Rattle.links.specs.declared.shape.Shape.{Shape}
use Rattle.layout.specs.Layout.{Good, narrow_need, lot_rows, order_rows, entry_rows}
use Rattle.layout.specs.Words.{Owner, lot_links, order_links, entry_links, owner}
use Rattle.layout.specs.declared.limits.Limits.{Limits}

-- the rows h are those of the subject x
pub record Placed (x : Owner) (l : Limits) (h : Shape) : Type 0 where
  pub sound : Sound h
  pub lies : (n : List ℕ) → narrow_need l ≤ length n → Lies h n
  pub places : (p : ℕ) → p < h.cells + h.rows → owner l (place_at h p) ≡ x
  pub tails : (r : ℕ) → r < h.rows → owner l (tail_at h r) ≡ x

pub record Areas : Type 0 where
  pub lot_rows_placed : (l : Limits) → Good l → Placed lot_links l (lot_rows l)
  pub order_rows_placed : (l : Limits) → Good l → Placed order_links l (order_rows l)
  pub entry_rows_placed : (l : Limits) → Good l → Placed entry_links l (entry_rows l)
