-- Books that were worked by hand: the calls one after the other, and what each is answered. Assumes nothing: these are definitions.
use Rattle.std.specs.Prelude.{◌≡◌, ℕ, List, [], ◌∷◌}
use Rattle.firm.specs.Stock.{Lot}
use Rattle.firm.specs.Firm.{new_firm}
use Rattle.firm.specs.Calls.{Call, buys, sells, comes, goes, billed_by, bills, made_of, makes, counted, stock_of, account, lots_of, Answer, refused, number, two, lots, Limits}
use Rattle.firm.specs.Answers.{answers}
use Rattle.firm.specs.Promise.{whole}

abbrev pub books_limits : Limits
books_limits = record { calls_can = whole; items = 32; orders = 64; lots = 128; parts = 32; entries = 256 }

-- item, pieces, cost, document
abbrev pub lot : ℕ → ℕ → ℕ → ℕ → Lot
lot i q c d = record { item = i; pieces = q; cost = c; from = d }

unfoldable pub books_calls : List Call
books_calls =
    buys 0 100 7 ∷ (comes 0 60 ∷ (comes 0 41 ∷ (billed_by 0 50 360 ∷ (buys 0 10 10 ∷ (comes 1 10
    ∷ (made_of 3 (record { item = 0; each = 3 } ∷ []) ∷ (makes 3 21 ∷ (stock_of 0 ∷ (stock_of 3 ∷ (lots_of 3
    ∷ (sells 3 20 50 ∷ (goes 2 8 ∷ (goes 2 13 ∷ (bills 2 8 ∷ (counted 0 5 ∷ (account 0 ∷ (account 1 ∷ (account 7 ∷ []))))))))))))))))))

unfoldable pub books_answers : List Answer
books_answers =
    number 0 ∷ (number 1 ∷ (refused 6 1 ∷ (number 2 ∷ (number 1 ∷ (number 4
    ∷ (number 5 ∷ (lots (lot 0 60 420 1 ∷ (lot 0 3 30 4 ∷ [])) ∷ (two 7 70 ∷ (two 21 450 ∷ (lots (lot 3 21 450 6 ∷ [])
    ∷ (number 2 ∷ (lots (lot 3 8 171 6 ∷ []) ∷ (refused 6 1 ∷ (number 400 ∷ (two 7 70 ∷ (two 520 191 ∷ (two 350 520 ∷ (two 10 0 ∷ []))))))))))))))))))

abbrev pub WorkedBooks : Type 0
WorkedBooks = answers books_limits new_firm books_calls ≡ books_answers
