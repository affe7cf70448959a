-- What holds of the formats of calls and answers. Each is a theorem that the contract of a function in src/ names. Definitions only: nothing is assumed.
use Rattle.std.specs.Prelude.{◌≡◌, ℕ, suc, ◌+◌, ◌*◌, ◌<◌, ◌≤◌, true, ◌⊎◌, List, [], ◌∷◌, ◌++◌, map, length, take, Some}
use Rattle.std.specs.List.{flat_map}
use Rattle.fields.specs.Bytes.{Bytes}
use Rattle.fields.specs.Written.{over, written, line_put}
use Rattle.firm.specs.Stock.{Lot}
use Rattle.firm.specs.Ledger.{Entry}
use Rattle.firm.specs.Calls as firm
use Rattle.wire.specs.Rows.{lot_bytes, entry_bytes}
use Rattle.wire.specs.Calls.{Sendable, bytes_of_call, call_of}
use Rattle.wire.specs.Answers.{list_head, bytes_of_answer, carries, answer_of}

-- 1. reading what was written gives the same call
abbrev pub CallComesBack : Type 0
CallComesBack = (c : firm.Call) → Sendable c → call_of (bytes_of_call c) ≡ c

-- 2. two different calls never have the same bytes
abbrev pub CallsApart : Type 0
CallsApart = (c d : firm.Call) → Sendable c → Sendable d → bytes_of_call c ≡ bytes_of_call d → c ≡ d

-- 3. every row of bytes is just one call, or ceases to be one at just one place
abbrev pub IsCall : List ℕ → firm.Call → Type 0
IsCall bs c = Sendable c × (bytes_of_call c ≡ bs)

-- some call's bytes begin with these
abbrev pub Begins : List ℕ → Type 0
Begins bs = (c : firm.Call) × (rest : List ℕ) × Sendable c × (bytes_of_call c ≡ bs ++ rest)

-- the bytes before the place begin some call; no call goes on with the byte at that place, if the row has one there; and the row is no call
abbrev pub Ceases : List ℕ → ℕ → Type 0
Ceases bs n = (n ≤ length bs) × Begins (take n bs) × (n < length bs → Begins (take (suc n) bs) → ⊥) × ((c : firm.Call) → IsCall bs c → ⊥)

-- one of the two holds, and what is read is that call or that place, so that there is no second one
abbrev pub OneReading : Type 0
OneReading =
    (bs : List ℕ) → Bytes bs →
    (((c : firm.Call) × IsCall bs c) ⊎ ((n : ℕ) × Ceases bs n))
    × ((c : firm.Call) → IsCall bs c → call_of bs ≡ c) × ((n : ℕ) → Ceases bs n → call_of bs ≡ firm.garbled n)

-- 4. reading what was written gives the same answer; and what is read as an answer is what is written of it
abbrev pub AnswerComesBack : Type 0
AnswerComesBack = (a : firm.Answer) → carries a ≡ true → answer_of (bytes_of_answer a) ≡ Some a

abbrev pub AnswerIsBytes : Type 0
AnswerIsBytes = (bs : List ℕ) (a : firm.Answer) → Bytes bs → answer_of bs ≡ Some a → (carries a ≡ true) × (bytes_of_answer a ≡ bs)

-- 5. a list that is begun and whose lines are put one by one is the whole answer: behind the lines of a list xs the next goes to the place
-- `length xs`, and gives the same with one line more. With no line this is what beginning leaves, and with all of them the answer's bytes
abbrev pub LinesGoOn : {A : Type 0} → (A → List ℕ) → Type 0
LinesGoOn {A = A} bytes =
    (head old : List ℕ) (xs : List A) (x : A) → length head ≡ 9 → 9 + 32 * length xs + 32 ≤ length old →
    ((line_put (length xs) (bytes x) (over (head ++ flat_map bytes xs) old)).count ≡ Some (9 + 32 * length xs + 32))
    × ((line_put (length xs) (bytes x) (over (head ++ flat_map bytes xs) old)).left ≡ over (head ++ flat_map bytes (xs ++ (x ∷ []))) old)

-- lines put one after the other from the k-th place on
unfoldable pub lines_put : ℕ → List (List ℕ) → List ℕ → List ℕ
lines_put k [] old = old
lines_put k (row ∷ rest) old = lines_put (suc k) rest (line_put k row old).left

abbrev pub ListsCompose : Type 0
ListsCompose =
    LinesGoOn lot_bytes × LinesGoOn entry_bytes
    × ((ls : List Lot) (old : List ℕ) → length (bytes_of_answer (firm.lots ls)) ≤ length old →
    lines_put 0 (map lot_bytes ls) (written (list_head 3 (length ls)) old).left ≡ over (bytes_of_answer (firm.lots ls)) old)
    × ((es : List Entry) (old : List ℕ) → length (bytes_of_answer (firm.entries es)) ≤ length old →
    lines_put 0 (map entry_bytes es) (written (list_head 4 (length es)) old).left ≡ over (bytes_of_answer (firm.entries es)) old)

-- 6. how long an answer is: with at most n lots and 256 entries, 32 bytes for each lot and 8,208 more are enough
unfoldable pub answer_length : firm.Answer → ℕ
answer_length (firm.refused n p) = 17
answer_length (firm.number n) = 9
answer_length (firm.two a b) = 17
answer_length (firm.lots ls) = 9 + 32 * length ls
answer_length (firm.entries es) = 9 + 32 * length es

-- how many lots an answer has, and how many entries
unfoldable pub lot_count : firm.Answer → ℕ
lot_count (firm.refused n p) = 0
lot_count (firm.number n) = 0
lot_count (firm.two a b) = 0
lot_count (firm.lots ls) = length ls
lot_count (firm.entries es) = 0

unfoldable pub entry_count : firm.Answer → ℕ
entry_count (firm.refused n p) = 0
entry_count (firm.number n) = 0
entry_count (firm.two a b) = 0
entry_count (firm.lots ls) = 0
entry_count (firm.entries es) = length es

abbrev pub AnswersFit : Type 0
AnswersFit =
    (a : firm.Answer) →
    (length (bytes_of_answer a) ≡ answer_length a) × ((n : ℕ) → lot_count a ≤ n → entry_count a ≤ 256 → length (bytes_of_answer a) ≤ 32 * n + 8208)
