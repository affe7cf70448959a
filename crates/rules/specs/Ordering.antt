-- An order to buy or to sell, on any memory. Definitions only: nothing is assumed.
use Rattle.std.specs.Prelude.{ℕ, Bool, cond, ◌&&◌, List, Ok, Err, Result, nat_le, nat_lt}
use Rattle.firm.specs.Calls.{refused, number}
use Rattle.firm.specs.Refusals.{some_pieces}
use Rattle.layout.specs.declared.head.Total.TheVariants.{Documents}
use Rattle.layout.specs.declared.limits.Limits.{Limits}
use Rattle.records.specs.State.{State, state}
use Rattle.records.specs.declared.order.Order.{Order}
use Rattle.store.specs.Steps.{After, add_order}
use Rattle.store.specs.declared.refusal.Refusal.{Refusal}
use Rattle.rules.specs.Checks.{document_fits}
use Rattle.rules.specs.Outcome.{Outcome, outcome, refuse}
use Rattle.rules.specs.Totals.{raised}

abbrev pub new_order : Bool → ℕ → ℕ → ℕ → Order
new_order sells i q p = record { sells = sells; item = i; pieces = q; price = p; moved = 0; billed = 0 }

abbrev pub order_fields : Limits → ℕ → ℕ → ℕ → Bool
order_fields l i q p = nat_lt i l.items && (some_pieces q && nat_le p 1000000)

-- by what came of adding the order, which leaves n: a document more, and its number is the answer
abbrev pub ordered_by : List ℕ → List ℕ → Result ℕ Refusal → Outcome
ordered_by w n (Ok k) = outcome (number k) (state (raised Documents 1 w) n)
ordered_by w n (Err e) = outcome (refused 9 0) (state w n)

abbrev pub added : List ℕ → After ℕ (List ℕ) → Outcome
added w a = ordered_by w a.left a.came

-- the checks in their order, and then the step
abbrev pub ordered : Limits → Bool → ℕ → ℕ → ℕ → State → Outcome
ordered l sells i q p s = cond (order_fields l i q p) (cond (document_fits s) (added s.wide (add_order l (new_order sells i q p) s.narrow)) (refuse 9 0 s)) (refuse 2 0 s)
