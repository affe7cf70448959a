-- Payments to suppliers and by customers, on any memory. Definitions only: nothing is assumed.
use Rattle.std.specs.Prelude.{ℕ, Bool, cond, ◌&&◌}
use Rattle.firm.specs.Calls.{number}
use Rattle.firm.specs.Refusals.{some_money}
use Rattle.layout.specs.declared.head.Total.TheVariants.{Documents}
use Rattle.layout.specs.declared.limits.Limits.{Limits}
use Rattle.memory.specs.Books.{total_of}
use Rattle.records.specs.State.{State}
use Rattle.rules.specs.Checks.{owed, document_fits, enters}
use Rattle.rules.specs.Entering.{entered}
use Rattle.rules.specs.Outcome.{Outcome, outcome, refuse}
use Rattle.rules.specs.Totals.{booked}

-- x is entered on the left of account a and on the right of account b, by the document d
unfoldable pub paid : Limits → ℕ → ℕ → ℕ → ℕ → State → State
paid l a b x d s = booked x (entered l (record { left = a; right = b; amount = x; «document» = d }) s)

abbrev pub pays_fits : Limits → ℕ → State → Bool
pays_fits l x s = enters l x s && document_fits s

-- the answer is the document's number
abbrev pub pays : Limits → ℕ → ℕ → ℕ → State → Outcome
pays l a b x s =
    let d : ℕ = total_of Documents s.wide in
    cond (pays_fits l x s) (outcome (number d) (paid l a b x d s)) (refuse 9 0 s)

-- on the left of 2 and on the right of 4, at most what is owed
abbrev pub pays_out : Limits → ℕ → State → Outcome
pays_out l x s = cond (some_money x) (cond (owed x s.wide) (pays l 2 4 x s) (refuse 6 0 s)) (refuse 2 0 s)

-- on the left of 4 and on the right of 3
abbrev pub pays_in : Limits → ℕ → State → Outcome
pays_in l x s = cond (some_money x) (pays l 4 3 x s) (refuse 2 0 s)
