-- Pieces that are made by a recipe, on any memory. Definitions only: nothing is assumed.
use Rattle.std.specs.Prelude.{ℕ, zero, suc, ◌+◌, ◌-◌, ◌*◌, ◌^◌, min, Bool, false, cond, ◌&&◌, ◌||◌, List, [], ◌∷◌, take, Ok, Err, Result, Some, None, Option, ◌==◌, nat_le, nat_lt}
use Rattle.std.specs.List.{fold, list_all, list_any}
use Rattle.firm.specs.Calls.{lots}
use Rattle.firm.specs.Refusals.{some_pieces}
use Rattle.firm.specs.Stock.{all_worth}
use Rattle.layout.specs.declared.head.Counter.TheVariants.{Lots}
use Rattle.layout.specs.declared.head.Total.TheVariants.{Documents}
use Rattle.layout.specs.declared.limits.Limits.{Limits}
use Rattle.memory.specs.Books.{count_of, total_of, stock_of, lot_record, part_record, recipe_of}
use Rattle.records.specs.State.{State, state}
use Rattle.records.specs.declared.lot.Lot.{Lot}
use Rattle.records.specs.declared.recipe.Recipe.{Recipe}
use Rattle.store.specs.Steps.{After, sum, first_lot, add_lot, count_in}
use Rattle.store.specs.declared.refusal.Refusal.{Refusal}
use Rattle.taking.specs.Takes.{want, Taking, take_counted}
use Rattle.taking.specs.declared.wants.Want.{Want}
use Rattle.rules.specs.Checks.{document_fits}
use Rattle.rules.specs.Outcome.{Outcome, outcome, refuse}
use Rattle.rules.specs.Totals.{document_more}

-- WHAT IS WANTED for q pieces: of each part of a recipe, 16 at most, so many pieces each
abbrev pub row_from : ℕ → ℕ → ℕ
row_from f k = min (2 ^ 32 - 1) (f + k)

abbrev pub part_wanted : Limits → ℕ → ℕ → List ℕ → Want
part_wanted l k q n = want (part_record l k n).item ((part_record l k n).each * q)

-- of k rows, from the i-th behind the row f on
abbrev pub wants_on : ℕ → Limits → ℕ → ℕ → ℕ → List ℕ → List Want
wants_on zero l f i q n = []
wants_on (suc k) l f i q n = part_wanted l (row_from f i) q n ∷ wants_on k l f (i + 1) q n

unfoldable pub wants_of : Limits → Recipe → ℕ → List ℕ → List Want
wants_of l r q n = wants_on 16 l r.first 0 q n

-- what a recipe asks for, for q pieces
abbrev pub parts_wanted : Limits → Recipe → ℕ → List ℕ → List Want
parts_wanted l r q n = take (min 16 r.parts) (wants_of l r q n)

-- pieces of an item that are wanted in all
abbrev pub more_wanted : ℕ → ℕ → Want → ℕ
more_wanted i a w = cond (w.item == i) (sum a w.pieces) a

-- so many pieces of item i are wanted in all
unfoldable pub in_all : List Want → ℕ → ℕ
in_all ws i = fold (more_wanted i) 0 ws

-- as many lie there as are wanted in all, of one item that is wanted and of each
abbrev pub lies : List Want → List ℕ → Want → Bool
lies ws m w = nat_le (in_all ws w.item) (stock_of w.item m).pieces

abbrev pub all_lie : List Want → List ℕ → Bool
all_lie ws m = list_all (lies ws m) ws

-- what is wanted takes all pieces of the lot in a cell, the oldest of item i
abbrev pub takes_lot : Limits → List Want → State → Option ℕ → ℕ → Bool
takes_lot l ws s None i = false
takes_lot l ws s (Some c) i = nat_le (lot_record l c s).pieces (in_all ws i)

-- of the oldest lot of one that is wanted, and of some
abbrev pub empties : Limits → List Want → State → Want → Bool
empties l ws s w = takes_lot l ws s (first_lot l w.item s.narrow) w.item

abbrev pub frees : Limits → List Want → State → Bool
frees l ws s = list_any (empties l ws s) ws

-- there is a place for the lot that is made: one is free, or one gets free
abbrev pub has_place : Limits → List Want → State → Bool
has_place l ws s = nat_lt (count_of Lots s.narrow) l.lots || frees l ws s

abbrev pub makes_fits : Limits → List Want → State → Bool
makes_fits l ws s = has_place l ws s && document_fits s

-- THE LOT that is made, counted for its item; and there is a document more
abbrev pub counted_new : Limits → State → Result ℕ Refusal → State
counted_new l t (Ok c) = state (count_in l c t) t.narrow
counted_new l t (Err e) = t

abbrev pub lot_kept : Limits → After ℕ State → State
lot_kept l a = counted_new l a.left a.came

-- the lot is kept, and there is a document more
unfoldable pub stored_new : Limits → Lot → State → State
stored_new l x s = document_more (lot_kept l (add_lot l x s))

-- what was taken costs as much as its parts
abbrev pub cost_all : Taking → ℕ
cost_all t = min (2 ^ 64 - 1) (all_worth t.parts)

abbrev pub new_lot : ℕ → ℕ → ℕ → ℕ → Lot
new_lot i q x d = record { item = i; pieces = q; cost = x; «document» = d }

abbrev pub made_of : Limits → ℕ → ℕ → ℕ → Taking → Outcome
made_of l i q d t = outcome (lots t.parts) (stored_new l (new_lot i q (cost_all t) d) t.slices)

-- what q pieces of an item ask for, by its recipe; it is taken, and counted off for its items
abbrev pub item_wants : Limits → ℕ → ℕ → State → List Want
item_wants l i q s = parts_wanted l (recipe_of i s.narrow) q s.narrow

abbrev pub made : Limits → ℕ → ℕ → State → Taking
made l i q s = take_counted l (item_wants l i q s) s

-- the answer is what was taken of which lots
abbrev pub makes : Limits → ℕ → ℕ → State → Outcome
makes l i q s =
    let ws : List Want = item_wants l i q s in
    let d : ℕ = total_of Documents s.wide in
    cond (nat_lt i l.items)
    (cond (some_pieces q)
    (cond (nat_le 1 (recipe_of i s.narrow).parts)
    (cond (all_lie ws s.wide) (cond (makes_fits l ws s) (made_of l i q d (made l i q s)) (refuse 9 0 s)) (refuse 7 1 s))
    (refuse 8 0 s))
    (refuse 2 0 s))
    (refuse 2 0 s)
