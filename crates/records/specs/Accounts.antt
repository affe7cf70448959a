-- The accounts, by their numbers, and what they are called. Definitions only: nothing is assumed.
use Rattle.std.specs.Prelude.{◌≡◌, ℕ, List, [], ◌∷◌, map, length, codes, slice_index_or}
use Rattle.std.specs.List.{range_with_len}
use Rattle.records.specs.declared.account.Account.{Account}
use Rattle.records.specs.declared.account.Account.TheVariants.{Stock, NotBilled, Suppliers, Customers, Bank, Sales, CostOfSales, Differences, Losses}

abbrev pub number_of : Account → ℕ
number_of Stock = 0
number_of NotBilled = 1
number_of Suppliers = 2
number_of Customers = 3
number_of Bank = 4
number_of Sales = 5
number_of CostOfSales = 6
number_of Differences = 7
number_of Losses = 8

-- the k-th of some accounts has the number k
abbrev pub InOrder : List Account → Type 0
InOrder accounts = map number_of accounts ≡ range_with_len 0 (length accounts)

abbrev pub account_names : List (List ℕ)
account_names =
    codes "stock"
    ∷ codes "goods received and not billed"
    ∷ codes "owed to suppliers"
    ∷ codes "owed by customers"
    ∷ codes "bank"
    ∷ codes "sales"
    ∷ codes "cost of sales"
    ∷ codes "differences of price"
    ∷ codes "losses"
    ∷ []

unfoldable pub account_name : ℕ → List ℕ
account_name a = slice_index_or account_names a []
