-- The ledger: entries and the two sides of the accounts. Definitions only: nothing is assumed.
use Rattle.std.specs.Prelude.{ℕ, zero, suc, ◌+◌, List, [], ◌∷◌, ◌==◌}
use Rattle.firm.specs.Stock.{pick}

-- An entry puts an amount on the left of one account and on the right of another, with its document's number. The accounts: 0 stock, 1 goods
-- received and not billed, 2 owed to suppliers, 3 owed by customers, 4 bank, 5 sales, 6 cost of sales, 7 differences of price, 8 losses
pub record Entry : Type 0 where
  pub on_left : ℕ
  pub on_right : ℕ
  pub amount : ℕ
  pub document : ℕ

-- what is entered of an amount: one entry, or none where the amount is 0
unfoldable pub entry : ℕ → ℕ → ℕ → ℕ → List Entry
entry l r x d = pick (x == 0) [] (record { on_left = l; on_right = r; amount = x; document = d } ∷ [])

-- what stands on the left of an account, and on its right
unfoldable pub left_side : List Entry → ℕ → ℕ
left_side [] a = 0
left_side (e ∷ es) a = pick (e.on_left == a) e.amount 0 + left_side es a

unfoldable pub right_side : List Entry → ℕ → ℕ
right_side [] a = 0
right_side (e ∷ es) a = pick (e.on_right == a) e.amount 0 + right_side es a

-- what all entries come to
unfoldable pub sum_of : List Entry → ℕ
sum_of [] = 0
sum_of (e ∷ es) = e.amount + sum_of es

-- of the entries from the n-th on, counted from 0, the first k
unfoldable pub some_from : List Entry → ℕ → ℕ → List Entry
some_from [] n k = []
some_from (e ∷ es) (suc n) k = some_from es n k
some_from (e ∷ es) zero zero = []
some_from (e ∷ es) zero (suc k) = e ∷ some_from es zero k
