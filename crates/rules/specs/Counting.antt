-- A count of an item's pieces, on any memory. Definitions only: nothing is assumed.
use Rattle.std.specs.Prelude.{ℕ, ◌-◌, cond, [], ◌∷◌, Ok, Err, Result, ◌==◌, nat_le, nat_lt}
use Rattle.firm.specs.Calls.{Answer, refused, two}
use Rattle.layout.specs.declared.head.Total.TheVariants.{Documents}
use Rattle.layout.specs.declared.limits.Limits.{Limits}
use Rattle.memory.specs.Books.{total_of, stock_of}
use Rattle.records.specs.State.{State, state}
use Rattle.records.specs.declared.account.Account.TheVariants.{Losses}
use Rattle.records.specs.declared.lot.Lot.{Lot}
use Rattle.records.specs.declared.stock.Stock.{Stock}
use Rattle.store.specs.Steps.{After, add_lot, count_in}
use Rattle.store.specs.declared.refusal.Refusal.{Refusal}
use Rattle.taking.specs.Takes.{want, cost_taken, Taking, take_all}
use Rattle.taking.specs.declared.wants.Want.{Want}
use Rattle.rules.specs.Checks.{document_fits}
use Rattle.rules.specs.Going.{goods_fit, issued}
use Rattle.rules.specs.Outcome.{Outcome, outcome, refuse}
use Rattle.rules.specs.Totals.{document_more}

-- what an item had before the count
abbrev pub before : Stock → Answer
before a = two a.pieces a.worth

-- AS MANY are there: nothing but a document more
abbrev pub agreed : Stock → State → Outcome
agreed a s = cond (document_fits s) (outcome (before a) (document_more s)) (refuse 9 0 s)

-- PIECES FEWER: they are taken, and go as losses
abbrev pub written_off : Limits → Want → Stock → ℕ → Taking → Outcome
written_off l w a d t = outcome (before a) (issued l Losses w (cost_taken t) d t.slices)

abbrev pub lost : Limits → Want → Stock → State → Outcome
lost l w a s = cond (goods_fit l w s) (written_off l w a (total_of Documents s.wide) (take_all l (w ∷ []) s)) (refuse 9 0 s)

-- Q PIECES MORE: a lot that costs nothing
abbrev pub found_lot : ℕ → ℕ → ℕ → Lot
found_lot i q d = record { item = i; pieces = q; cost = 0; «document» = d }

-- by what came of adding it, which leaves t: it is counted for its item
abbrev pub stored : Limits → Stock → State → Result ℕ Refusal → Outcome
stored l a t (Ok c) = outcome (before a) (document_more (state (count_in l c t) t.narrow))
stored l a t (Err e) = outcome (refused 9 0) t

abbrev pub placed : Limits → Stock → After ℕ State → Outcome
placed l a r = stored l a r.left r.came

abbrev pub found : Limits → ℕ → ℕ → Stock → State → Outcome
found l i q a s = cond (document_fits s) (placed l a (add_lot l (found_lot i q (total_of Documents s.wide)) s)) (refuse 9 0 s)

-- by what is there
abbrev pub settled : Limits → ℕ → ℕ → Stock → State → Outcome
settled l i q a s = cond (nat_lt q a.pieces) (lost l (want i (a.pieces - q)) a s) (cond (q == a.pieces) (agreed a s) (found l i (q - a.pieces) a s))

abbrev pub counted : Limits → ℕ → ℕ → State → Outcome
counted l i q s = cond (nat_lt i l.items) (cond (nat_le q 1000000000) (settled l i q (stock_of i s.wide) s) (refuse 2 0 s)) (refuse 2 0 s)
