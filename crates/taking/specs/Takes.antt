-- What is taken of an item's lots, the oldest first, and what is written of it, on any memory. Definitions only: nothing is assumed.
use Rattle.std.specs.Prelude.{ℕ, zero, suc, ◌+◌, ◌-◌, ◌^◌, min, cond, List, [], ◌∷◌, ◌++◌, length, Some, None, Option, ◌==◌}
use Rattle.fields.specs.Written.{written, line_put}
use Rattle.firm.specs.Stock as firm
use Rattle.layout.specs.declared.limits.Limits.{Limits}
use Rattle.memory.specs.Books.{lot_record, put_lot}
use Rattle.questions.specs.Listing.{lot_of}
use Rattle.store.specs.Steps.{sum}
use Rattle.records.specs.State.{State, state}
use Rattle.records.specs.declared.lot.Lot.{Lot}
use Rattle.store.specs.Steps.{one_more, first_lot, lot_after, lot_freed, counted_out}
use Rattle.wire.specs.Answers.{list_head}
use Rattle.wire.specs.Rows.{lot_bytes}
use Rattle.taking.specs.Parts.{part_of, rest_of}
use Rattle.taking.specs.declared.wants.Taken.{Taken}
use Rattle.taking.specs.declared.wants.Want.{Want}

abbrev pub want : ℕ → ℕ → Want
want i q = record { item = i; pieces = q }

-- WHAT IT WOULD COST: k lots at most, from a cell on, while pieces are wanted
abbrev pub cost_on : ℕ → Limits → State → Option ℕ → ℕ → ℕ → ℕ
cost_on zero l s o q x = x
cost_on (suc k) l s None q x = x
cost_on (suc k) l s (Some c) q x =
    cond (q == 0) x (cost_on k l s (lot_after l c s.narrow) (q - (part_of (lot_record l c s) q).pieces) (sum x (part_of (lot_record l c s) q).cost))

unfoldable pub cost_of : Limits → Want → State → ℕ
cost_of l w s = cost_on l.lots l s (first_lot l w.item s.narrow) w.pieces 0

-- THE OLDEST LOT: what it gave, if there is one, and the slices afterwards
pub record Gave : Type 0 where
  pub part : Option Lot
  pub slices : State

abbrev pub gave : Option Lot → State → Gave
gave p s = record { part = p; slices = s }

-- the lot x of item i in the cell c gives a part: it goes, or what is left of it takes its place
unfoldable pub given : Limits → ℕ → ℕ → Lot → Lot → State → State
given l i c x p s = cond (p.pieces == x.pieces) (state s.wide (lot_freed l i c s.narrow)) (put_lot l c (rest_of x p) s)

abbrev pub on_oldest : Limits → ℕ → ℕ → State → Option ℕ → Gave
on_oldest l i q s None = gave None s
on_oldest l i q s (Some c) = gave (Some (part_of (lot_record l c s) q)) (given l i c (lot_record l c s) (part_of (lot_record l c s) q) s)

unfoldable pub take_oldest : Limits → ℕ → ℕ → State → Gave
take_oldest l i q s = on_oldest l i q s (first_lot l i s.narrow)

-- TAKING: the slices afterwards, and what was taken of which lots
pub record Taking : Type 0 where
  pub slices : State
  pub parts : List firm.Lot

abbrev pub taking : State → List firm.Lot → Taking
taking s ps = record { slices = s; parts = ps }

-- a part, and then what else was taken
abbrev pub behind : firm.Lot → Taking → Taking
behind p t = taking t.slices (p ∷ t.parts)

-- q pieces of item i, from k lots at most
abbrev pub taken_on : ℕ → Limits → ℕ → ℕ → State → Taking
taken_on zero l i q s = taking s []
taken_on (suc k) l i q s =
    cond (q == 0) (taking s [])
    (elim (take_oldest l i q s).part as (λ _. Taking) [ Some p ↦ behind (lot_of p) (taken_on k l i (q - p.pieces) (take_oldest l i q s).slices) | None ↦ taking s [] ])

-- as many parts as an answer has room for: one for each lot that there can be, and 256 more
abbrev pub most_lines : Limits → ℕ
most_lines l = min (2 ^ 32 - 1) (l.lots + 256)

-- what is wanted of one item, where n parts were taken before
abbrev pub want_taken : Limits → ℕ → Want → State → Taking
want_taken l n w s = taken_on (most_lines l - n) l w.item w.pieces s

-- what is wanted, one after the other, where n parts were taken before
abbrev pub taken_each : List Want → Limits → ℕ → State → Taking
taken_each [] l n s = taking s []
taken_each (w ∷ ws) l n s =
    let t : Taking = want_taken l n w s in
    let u : Taking = taken_each ws l (n + length t.parts) t.slices in
    taking u.slices (t.parts ++ u.parts)

unfoldable pub take_all : Limits → List Want → State → Taking
take_all l ws s = taken_each ws l 0 s

-- THE SAME COUNTED OFF: what parts cost with x before them, and a want counted off for its item, which cost x
abbrev pub costs_more : ℕ → List firm.Lot → ℕ
costs_more x ps = sum x (firm.all_worth ps)

abbrev pub off : Limits → Want → ℕ → State → State
off l w x s = state (counted_out l w.item w.pieces x s.wide) s.narrow

-- what was taken cost so much
abbrev pub cost_taken : Taking → ℕ
cost_taken t = costs_more 0 t.parts

-- what is wanted, one after the other, each counted off as it is taken, where n parts were taken before, which cost x
abbrev pub counted_each : List Want → Limits → ℕ → ℕ → State → Taking
counted_each [] l n x s = taking s []
counted_each (w ∷ ws) l n x s =
    let t : Taking = want_taken l n w s in
    let y : ℕ = costs_more x t.parts in
    let u : Taking = counted_each ws l (n + length t.parts) y (off l w (y - x) t.slices) in
    taking u.slices (t.parts ++ u.parts)

unfoldable pub take_counted : Limits → List Want → State → Taking
take_counted l ws s = counted_each ws l 0 0 s

-- THE ANSWER: its bytes, how many lines stand there, and what they cost together
pub record Tally : Type 0 where
  pub answer : List ℕ
  pub taken : Taken

abbrev pub tally : List ℕ → Taken → Tally
tally bs t = record { answer = bs; taken = t }

abbrev pub nothing_taken : Taken
nothing_taken = record { lines = 0; cost = 0 }

-- a line more
unfoldable pub with_part : firm.Lot → Tally → Tally
with_part p t =
    tally (line_put t.taken.lines (lot_bytes p) t.answer).left (record { lines = one_more t.taken.lines; cost = sum t.taken.cost p.cost })

abbrev pub tallied : List firm.Lot → Tally → Tally
tallied [] t = t
tallied (p ∷ ps) t = tallied ps (with_part p t)

-- and the head before the lines
abbrev pub headed : Tally → Tally
headed t = tally (written (list_head 3 t.taken.lines) t.answer).left t.taken

unfoldable pub told : List firm.Lot → List ℕ → Tally
told ps old = headed (tallied ps (tally old nothing_taken))
