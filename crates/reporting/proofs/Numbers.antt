-- Accounts in the order of their numbers. Assumes nothing.
use Rattle.std.proofs.Common.{◌≡◌, ℕ, zero, suc, ◌<◌, List, [], ◌∷◌, get_or, refl, arith}
use Rattle.records.specs.Accounts.{number_of}
use Rattle.records.specs.declared.account.Account.{Account}
use Rattle.records.specs.declared.account.Account.TheVariants.{Stock, NotBilled, Suppliers, Customers, Bank, Sales, CostOfSales, Differences, Losses}

abbrev pub all : List Account
all = Stock ∷ NotBilled ∷ Suppliers ∷ Customers ∷ Bank ∷ Sales ∷ CostOfSales ∷ Differences ∷ Losses ∷ []

pub in_order : (i : ℕ) → i < 9 → number_of (get_or all i Stock) ≡ i
in_order zero h = refl
in_order (suc zero) h = refl
in_order (suc (suc zero)) h = refl
in_order (suc (suc (suc zero))) h = refl
in_order (suc (suc (suc (suc zero)))) h = refl
in_order (suc (suc (suc (suc (suc zero))))) h = refl
in_order (suc (suc (suc (suc (suc (suc zero)))))) h = refl
in_order (suc (suc (suc (suc (suc (suc (suc zero))))))) h = refl
in_order (suc (suc (suc (suc (suc (suc (suc (suc zero)))))))) h = refl
in_order (suc (suc (suc (suc (suc (suc (suc (suc (suc i))))))))) h = absurd (omega (arith, h))
