-- The rows of lots while a cell goes from the free row to an item's, or back.
use Rattle.std.proofs.Common.{◌≡◌, ℕ, ◌+◌, ◌<◌, ◌≤◌, List, [], ◌∷◌, ◌++◌, set, refl, ◌∙◌, arith}
use Rattle.layout.proofs.Placed.{lot_rows_placed, only_both, only_rows}
use Rattle.layout.specs.Layout.{Good, lot_rows}
use Rattle.layout.specs.Words.{lot_links, Only}
use Rattle.layout.specs.declared.limits.Limits.{Limits}
use Rattle.links.proofs.Addresses.{header_is}
use Rattle.links.proofs.Frames.{inserted_frame, removed_frame}
use Rattle.links.proofs.Laws.{inserts, removes, put_last}
use Rattle.links.specs.Area.{header_of, tail_in, removed}
use Rattle.links.specs.Model.{row}
use Rattle.links.specs.Rows.{Rows, Frame}
use Rattle.store.specs.Steps.{pushed, free_header, moved_in, moved_out}
use Rattle.store.proofs.Numbered.{tail_place}

-- THE ROWS while a cell moves from the front of row f to another place of row r
module _ (l : Limits) (n : List ℕ) (m : List (List ℕ)) (good : Good l) (rows : Rows (lot_rows l) n m) where
  pub small : (r : ℕ) → r ≤ l.items → r < (lot_rows l).rows
  small r le = omega (arith, good.items)

  pub header_small : (r : ℕ) → r ≤ l.items → header_of (lot_rows l) r < l.lots + (lot_rows l).rows
  header_small r le = omega (arith, header_is (lot_rows l) r (lot_rows_placed l good).sound (small r le), good.items)

  -- from the free row to the end of row i
  pub moved_in_rows : (i c : ℕ) (rest : List ℕ) → i < l.items → row m l.items ≡ c ∷ rest →
      Rows (lot_rows l) (moved_in l i c n) (set (set m l.items rest) i (row (set m l.items rest) i ++ c ∷ []))
  unfolding moved_in pushed
  moved_in_rows i c rest lt e =
      let out = removes (lot_rows l) n m l.items [] rest c (lot_rows_placed l good).sound rows (small l.items (omega arith)) e in
      put_last (lot_rows l) (removed (lot_rows l) l.items (free_header l) c n) (set m l.items rest) i c (lot_rows_placed l good).sound out.0 (small i (omega arith)) out.1

  pub moved_in_only : (i c : ℕ) (rest : List ℕ) → i < l.items → row m l.items ≡ c ∷ rest → Only lot_links l n (moved_in l i c n)
  unfolding moved_in pushed
  moved_in_only i c rest lt e =
      let out = removes (lot_rows l) n m l.items [] rest c (lot_rows_placed l good).sound rows (small l.items (omega arith)) e in
      let n₁ : List ℕ = removed (lot_rows l) l.items (free_header l) c n in
      let below : tail_in (lot_rows l) n₁ i < l.lots + (lot_rows l).rows =
      tail_place (lot_rows l) n₁ (set m l.items rest) i (lot_rows_placed l good).sound out.0 (small i (omega arith)) in
      only_rows lot_links l (lot_rows l) n _ (lot_rows_placed l good)
      (frame_both n n₁ _ (removed_frame (lot_rows l) n l.items (free_header l) c (small l.items (omega arith)) (header_small l.items (omega arith)))
      (inserted_frame (lot_rows l) n₁ i (tail_in (lot_rows l) n₁ i) c (small i (omega arith)) below out.1.cell))
    where
      frame_both : (a b d : List ℕ) → Frame (lot_rows l) a b → Frame (lot_rows l) b d → Frame (lot_rows l) a d
      frame_both a b d f g = record { long = g.long ∙ f.long; beyond = λ i out. g.beyond i out ∙ f.beyond i out }

  -- from the front of row i to that of the free row
  pub moved_out_rows : (i c : ℕ) (rest : List ℕ) → i < l.items → row m i ≡ c ∷ rest → Rows (lot_rows l) (moved_out l i c n) (set (set m i rest) l.items (c ∷ row (set m i rest) l.items))
  unfolding moved_out
  moved_out_rows i c rest lt e =
      let out = removes (lot_rows l) n m i [] rest c (lot_rows_placed l good).sound rows (small i (omega arith)) e in
      inserts (lot_rows l) (removed (lot_rows l) i (header_of (lot_rows l) i) c n) (set m i rest) l.items [] (row (set m i rest) l.items) c (lot_rows_placed l good).sound out.0 (small l.items (omega arith)) refl
      out.1

  pub moved_out_only : (i c : ℕ) → i < l.items → c < l.lots → Only lot_links l n (moved_out l i c n)
  unfolding moved_out
  moved_out_only i c lt lc =
      let n₁ : List ℕ = removed (lot_rows l) i (header_of (lot_rows l) i) c n in
      only_both lot_links l n n₁ _ (only_rows lot_links l (lot_rows l) n n₁ (lot_rows_placed l good) (removed_frame (lot_rows l) n i (header_of (lot_rows l) i) c (small i (omega arith)) (header_small i (omega arith))))
      (only_rows lot_links l (lot_rows l) n₁ _ (lot_rows_placed l good) (inserted_frame (lot_rows l) n₁ l.items (free_header l) c (small l.items (omega arith)) (header_small l.items (omega arith)) lc))
