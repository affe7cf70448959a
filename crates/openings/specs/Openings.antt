-- THE WORDS THAT BEGIN A CALL. Definitions only: nothing is assumed.
use Rattle.std.specs.Prelude.{ℕ, cond, List, Ok, Err, codes}
use Rattle.std.specs.Str.{bytes_eq}
use Rattle.words.specs.Words.{trimmed, word, past}
use Rattle.words.specs.Readers.{Read, then, keyword}
use Rattle.wire.specs.declared.call_kind.CallKind.{CallKind}
use Rattle.wire.specs.declared.call_kind.CallKind.TheVariants.{Buys, Sells, Comes, Goes, BilledBy, Bills, PaysOut, PaysIn, MadeOf, Makes, Counted, StockOf, Account, Order, LotsOf, EntriesFrom}

-- a second word has to follow
abbrev pub second : List ℕ → CallKind → List ℕ → Read (CallKind × List ℕ)
second w k s = then (keyword w s) (λ t. Ok (k, t))

-- either of two readings; what fits neither is placed by the second
abbrev pub either : {X : Type 0} → Read X → Read X → Read X
either (Ok x) r = Ok x
either (Err e) r = r

abbrev pub paying : List ℕ → Read (CallKind × List ℕ)
paying s = either (second (codes "out") PaysOut s) (second (codes "in") PaysIn s)

-- by the first word: what it begins, and what is left then. A word that begins no call does not fit
abbrev pub begins_other : List ℕ → List ℕ → List ℕ → Read (CallKind × List ℕ)
begins_other w at s =
    cond (bytes_eq w (codes "makes")) (Ok (Makes, s))
    (cond (bytes_eq w (codes "counted")) (Ok (Counted, s))
    (cond (bytes_eq w (codes "stock")) (second (codes "of") StockOf s)
    (cond (bytes_eq w (codes "account")) (Ok (Account, s))
    (cond (bytes_eq w (codes "order")) (Ok (Order, s))
    (cond (bytes_eq w (codes "lots")) (second (codes "of") LotsOf s)
    (cond (bytes_eq w (codes "entries")) (second (codes "from") EntriesFrom s)
    (Err at)))))))

abbrev pub begins : List ℕ → List ℕ → List ℕ → Read (CallKind × List ℕ)
begins w at s =
    cond (bytes_eq w (codes "buys")) (Ok (Buys, s))
    (cond (bytes_eq w (codes "sells")) (Ok (Sells, s))
    (cond (bytes_eq w (codes "comes")) (Ok (Comes, s))
    (cond (bytes_eq w (codes "goes")) (Ok (Goes, s))
    (cond (bytes_eq w (codes "billed")) (second (codes "by") BilledBy s)
    (cond (bytes_eq w (codes "bills")) (Ok (Bills, s))
    (cond (bytes_eq w (codes "pays")) (paying s)
    (cond (bytes_eq w (codes "made")) (second (codes "of") MadeOf s)
    (begins_other w at s))))))))

-- which call a line begins, and what is left of the line then
abbrev pub opening_at : List ℕ → Read (CallKind × List ℕ)
opening_at at = begins (word at) at (past at)

unfoldable pub opening : List ℕ → Read (CallKind × List ℕ)
opening line = opening_at (trimmed line)
