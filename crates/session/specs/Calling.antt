-- What a call does on any memory, and what is left in the bytes for its answer. Definitions only: nothing is assumed.
use Rattle.std.specs.Prelude.{◌≡◌, ℕ, ◌≤◌, Bool, true, false, cond, ◌&&◌, List, length, Some, None, Option, nat_le, nat_lt}
use Rattle.fields.specs.Written.{over}
use Rattle.firm.specs.Calls.{Call, buys, sells, comes, goes, billed_by, bills, pays_out, pays_in, made_of, makes, counted, stock_of, account, order, lots_of, entries_from, garbled, Answer, refused, lots, entries}
use Rattle.layout.specs.Layout.{is_good, wide_need, narrow_need, answer_need}
use Rattle.layout.specs.declared.limits.Limits.{Limits}
use Rattle.memory.specs.Books.{limits_in}
use Rattle.questions.specs.Entries.{entries_met}
use Rattle.questions.specs.Listing.{lots_met}
use Rattle.records.specs.State.{State}
use Rattle.rules.specs.Asking.{stock_told, account_told, order_told}
use Rattle.rules.specs.Making as making
use Rattle.rules.specs.Ordering.{ordered}
use Rattle.rules.specs.Billing as billing
use Rattle.rules.specs.Counting as counting
use Rattle.rules.specs.Going as going
use Rattle.rules.specs.Outcome.{Outcome, outcome, refuse}
use Rattle.rules.specs.Paying as paying
use Rattle.rules.specs.Receiving as receiving
use Rattle.rules.specs.Recipes as recipes
use Rattle.wire.specs.Answers.{bytes_of_answer}

abbrev pub lots_told : Limits → ℕ → State → Answer
lots_told l i s = cond (nat_lt i l.items) (lots (lots_met l i s)) (refused 2 0)

abbrev pub entries_told : Limits → ℕ → ℕ → State → Answer
entries_told l n k s = cond (nat_le k 256) (entries (entries_met l n k s)) (refused 2 0)

-- EVERY CALL, by what the rules say of it
abbrev pub done : Limits → Call → State → Outcome
done l (buys i q p) s = ordered l false i q p s
done l (sells i q p) s = ordered l true i q p s
done l (comes o q) s = receiving.comes l o q s
done l (goes o q) s = going.goes l o q s
done l (billed_by o q x) s = billing.billed_by l o q x s
done l (bills o q) s = billing.bills l o q s
done l (pays_out x) s = paying.pays_out l x s
done l (pays_in x) s = paying.pays_in l x s
done l (made_of i ps) s = recipes.made_of l i ps s
done l (makes i q) s = making.makes l i q s
done l (counted i q) s = counting.counted l i q s
done l (stock_of i) s = outcome (stock_told l i s.wide) s
done l (account a) s = outcome (account_told a s.wide) s
done l (order o) s = outcome (order_told l o s.narrow) s
done l (lots_of i) s = outcome (lots_told l i s) s
done l (entries_from n k) s = outcome (entries_told l n k s) s
done l (garbled n) s = refuse 1 n s

-- how many bytes were written; an answer that fits is written
abbrev pub taken : Option ℕ → ℕ
taken (Some n) = n
taken None = 0

-- an answer of so many bytes, which has room, was written over the first of the bytes that were there
pub record Said (a : Answer) (n : ℕ) (old now : List ℕ) : Type 0 where
  pub long : n ≡ length (bytes_of_answer a)
  pub fits : n ≤ length old
  pub bytes : now ≡ over (bytes_of_answer a) old

-- limits are good, and memory of so many words and an answer of so many bytes are as large as they ask for
abbrev pub holds : Limits → ℕ → ℕ → ℕ → Bool
holds l wide narrow out = is_good l && (nat_le (wide_need l) wide && (nat_le (narrow_need l) narrow && nat_le (answer_need l) out))

abbrev pub suffices : State → List ℕ → Bool
suffices s old = holds (limits_in s.narrow) (length s.wide) (length s.narrow) (length old)

-- what a call returns, leaves in memory, and leaves in the bytes for its answer; nothing is done where these do not suffice
pub record Called : Type 0 where
  pub came : Option ℕ
  pub left : State
  pub bytes : List ℕ

abbrev pub called_of : Option ℕ → State → List ℕ → Called
called_of r s bs = record { came = r; left = s; bytes = bs }

-- an answer is no longer than the bytes for it
abbrev pub Fits : Option ℕ → List ℕ → Type 0
Fits None old = Unit {0}
Fits (Some n) old = n ≤ length old

-- by the outcome of the call
abbrev pub told_in : List ℕ → Outcome → Called
told_in old o = called_of (Some (length (bytes_of_answer o.answer))) o.left (over (bytes_of_answer o.answer) old)

unfoldable pub called : Call → State → List ℕ → Called
called c s old = cond (suffices s old) (told_in old (done (limits_in s.narrow) c s)) (called_of None s old)
