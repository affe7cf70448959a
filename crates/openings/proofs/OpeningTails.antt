-- What is left of a line after the words that begin a call. Assumes nothing.
use Rattle.std.proofs.Common.{ℕ, cond, List, Ok, Err, codes}
use Rattle.std.specs.Str.{bytes_eq}
use Rattle.words.specs.Words.{trimmed, word, past}
use Rattle.words.specs.Readers.{Read, keyword}
use Rattle.words.proofs.Tails.{Tail, Stops, Leaves, tail_same, leaves_on, leaves_then, leaves_if, leaves_trimmed, stops_here, past_here, keyword_leaves}
use Rattle.wire.specs.declared.call_kind.CallKind.{CallKind}
use Rattle.wire.specs.declared.call_kind.CallKind.TheVariants.{BilledBy, PaysOut, PaysIn, MadeOf, StockOf, LotsOf, EntriesFrom}
use Rattle.openings.specs.Openings.{second, either, paying, begins_other, begins, opening}

abbrev Left : List ℕ → Read (CallKind × List ℕ) → Type 0
Left s r = Leaves (λ p. p.1) s r

second_leaves : (w : List ℕ) (k : CallKind) (s : List ℕ) → Left s (second w k s)
second_leaves w k s = leaves_then (λ t. t) (λ p. p.1) s (keyword w s) (λ t. Ok (k, t)) (keyword_leaves w s) (λ t. tail_same t)

either_leaves : (s : List ℕ) (r t : Read (CallKind × List ℕ)) → Left s r → Left s t → Left s (either r t)
either_leaves s (Ok x) t h k = h
either_leaves s (Err e) t h k = k

paying_leaves : (s : List ℕ) → Left s (paying s)
paying_leaves s = either_leaves s (second (codes "out") PaysOut s) (second (codes "in") PaysIn s) (second_leaves (codes "out") PaysOut s) (second_leaves (codes "in") PaysIn s)

-- the first word is w, and begins at the line's end part at, which s is the rest of
on : (at s : List ℕ) (r : Read (CallKind × List ℕ)) → Tail at s → Left s r → Left at r
on at s r h k = leaves_on (λ p. p.1) at s r h k

if_word : (at w v : List ℕ) (r t : Read (CallKind × List ℕ)) → Left at r → Left at t → Left at (cond (bytes_eq w v) r t)
if_word at w v r t h k = leaves_if (λ p. p.1) at (bytes_eq w v) r t h k

begins_other_leaves : (w at s : List ℕ) → Tail at s → Stops at at → Left at (begins_other w at s)
begins_other_leaves w at s h k =
    if_word at w (codes "makes") _ _ h
    (if_word at w (codes "counted") _ _ h
    (if_word at w (codes "stock") _ _ (on at s (second (codes "of") StockOf s) h (second_leaves (codes "of") StockOf s))
    (if_word at w (codes "account") _ _ h
    (if_word at w (codes "order") _ _ h
    (if_word at w (codes "lots") _ _ (on at s (second (codes "of") LotsOf s) h (second_leaves (codes "of") LotsOf s))
    (if_word at w (codes "entries") _ _ (on at s (second (codes "from") EntriesFrom s) h (second_leaves (codes "from") EntriesFrom s))
    k))))))

begins_leave : (w at s : List ℕ) → Tail at s → Stops at at → Left at (begins w at s)
begins_leave w at s h k =
    if_word at w (codes "buys") _ _ h
    (if_word at w (codes "sells") _ _ h
    (if_word at w (codes "comes") _ _ h
    (if_word at w (codes "goes") _ _ h
    (if_word at w (codes "billed") _ _ (on at s (second (codes "by") BilledBy s) h (second_leaves (codes "by") BilledBy s))
    (if_word at w (codes "bills") _ _ h
    (if_word at w (codes "pays") _ _ (on at s (paying s) h (paying_leaves s))
    (if_word at w (codes "made") _ _ (on at s (second (codes "of") MadeOf s) h (second_leaves (codes "of") MadeOf s))
    (begins_other_leaves w at s h k))))))))

pub opening_leaves : (s : List ℕ) → Leaves (λ p. p.1) s (opening s)
unfolding opening
opening_leaves s =
    leaves_trimmed (λ p. p.1) s (begins (word (trimmed s)) (trimmed s) (past (trimmed s))) (begins_leave (word (trimmed s)) (trimmed s) (past (trimmed s)) (past_here s) (stops_here s))
