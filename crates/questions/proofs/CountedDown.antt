-- Entries that are written while they are counted down. Assumes nothing.
use Rattle.std.proofs.Common.{◌≡◌, ℕ, zero, suc, ◌+◌, ◌-◌, ◌*◌, ◌<◌, ◌≤◌, min, cond, leb, ◌⊎◌, List, [], ◌∷◌, ◌++◌, length, take, drop, Some, None, sym, refl, ap, ◌∙◌, subst, inl, inr, append_assoc, arith, length-append}
use Rattle.std.specs.List.{flat_map}
use Rattle.std.proofs.lemmas.List.{length-take-le, take-append-le, take-take, take_at, drop_at, drop-drop}
use Rattle.std.proofs.lemmas.List.FromFn.{length-map-range_with_len}
use Rattle.std.proofs.lemmas.Bool.{cond-true, cond_both, leb-true, le-leb}
use Rattle.fields.specs.Written.{Written, wrote, written, over, placed, line_put}
use Rattle.fields.proofs.Numbers.{length_fields}
use Rattle.fields.proofs.Rows.{fits, too_long}
use Rattle.firm.specs.Ledger.{Entry}
use Rattle.firm.specs.Calls.{entries}
use Rattle.layout.specs.Layout.{answer_need}
use Rattle.layout.specs.declared.head.Counter.TheVariants.{Entries}
use Rattle.layout.specs.declared.limits.Limits.{Limits}
use Rattle.memory.specs.Books.{count_of, entry_record}
use Rattle.records.specs.State.{State}
use Rattle.wire.specs.Rows.{entry_bytes}
use Rattle.wire.specs.Answers.{list_head, bytes_of_answer}
use Rattle.wire.proofs.ReadBack.{length_joined, length_entry}
use Rattle.questions.specs.Entries.{entry_of, entries_on, entries_met}

-- a line in front of bytes that are written already, over the last of those that are not
line_before : (old row rest : List ℕ) (k : ℕ) → length row ≡ 32 → 9 + 32 * (k + 1) ≤ length old →
    (line_put k row (take (9 + 32 * (k + 1)) old ++ rest)).left ≡ take (9 + 32 * k) old ++ (row ++ rest)
unfolding line_put placed
line_before old row rest k long room =
    let now : List ℕ = take (9 + 32 * (k + 1)) old ++ rest in
    let first : length (take (9 + 32 * (k + 1)) old) ≡ 9 + 32 * (k + 1) = length-take-le (9 + 32 * (k + 1)) old room in
    let wide : 9 + 32 * k + 32 ≤ length now = omega (arith, first, length-append (take (9 + 32 * (k + 1)) old) rest) in
    let before : take (9 + 32 * k) now ≡ take (9 + 32 * k) old =
    take-append-le (9 + 32 * k) (take (9 + 32 * (k + 1)) old) rest (omega arith) ∙ take-take (9 + 32 * k) (9 + 32 * (k + 1)) old (omega arith) in
    let behind : drop (9 + 32 * k + length row) now ≡ rest = drop_at (take (9 + 32 * (k + 1)) old) rest (9 + 32 * k + length row) (omega arith) in
    ap (λ (w : Written). w.left) (cond-true (leb (9 + 32 * k + 32) (length now)) (wrote (Some (9 + 32 * k + 32)) (placed (9 + 32 * k) row now)) (wrote _ now) (le-leb _ _ wide))
    ∙ ap (λ (xs : List ℕ). xs ++ (row ++ drop (9 + 32 * k + length row) now)) before
    ∙ ap (λ (xs : List ℕ). take (9 + 32 * k) old ++ (row ++ xs)) behind

-- bytes behind a head that is written already
behind_head : (head body old : List ℕ) → length head ≡ 9 → over (take 9 (over head old) ++ body) (over head old) ≡ over (head ++ body) old
unfolding over
behind_head head body old nine =
    let row : List ℕ = over head old in
    let first : take 9 row ≡ head = take_at head (drop (length head) old) 9 nine in
    let rest : drop (length (head ++ body)) row ≡ drop (length (head ++ body)) old =
    ap (λ (k : ℕ). drop k row) (length-append head body)
    ∙ sym (drop-drop (length body) (length head) row)
    ∙ ap (drop (length body)) (drop_at head (drop (length head) old) (length head) refl)
    ∙ drop-drop (length body) (length head) old
    ∙ ap (λ (k : ℕ). drop k old) (sym (length-append head body)) in
    ap (λ (xs : List ℕ). (xs ++ body) ++ drop (length (xs ++ body)) row) first ∙ ap (λ (xs : List ℕ). (head ++ body) ++ xs) rest

module _ (l : Limits) (s : State) where
  -- the lines of so many entries
  abbrev lines_on : ℕ → ℕ → List ℕ
  lines_on n m = flat_map entry_bytes (entries_on l n m s)

  length_on : (n m : ℕ) → length (entries_on l n m s) ≡ m
  length_on n m = length-map-range_with_len (λ e. entry_of (entry_record l e s)) n m

  length_lines : (n m : ℕ) → length (lines_on n m) ≡ 32 * m
  length_lines n m = length_joined entry_bytes 32 length_entry (entries_on l n m s) ∙ ap (λ (k : ℕ). 32 * k) (length_on n m)

  -- k lines of m are left to be written, those before the others
  pub record CountedDown (n m : ℕ) (old now : List ℕ) (k : ℕ) : Type 0 where
    pub few : k ≤ m
    pub lines : now ≡ take (9 + 32 * k) old ++ (lines_on (n + k) (m - k) ++ drop (9 + 32 * m) old)

  turned : (n m : ℕ) (old now out : List ℕ) (k : ℕ) → 9 + 32 * m ≤ length old → CountedDown n m old now (k + 1) → out ≡ (line_put k (entry_bytes (entry_of (entry_record l (n + k) s))) now).left → CountedDown n m old out k
  turned n m old now out k room x e =
      let row : List ℕ = entry_bytes (entry_of (entry_record l (n + k) s)) in
      let rest : List ℕ = lines_on (n + (k + 1)) (m - (k + 1)) ++ drop (9 + 32 * m) old in
      let next : n + (k + 1) ≡ n + k + 1 = omega arith in
      let more : m - k ≡ suc (m - (k + 1)) = omega (arith, x.few) in
      let joined : row ++ lines_on (n + (k + 1)) (m - (k + 1)) ≡ lines_on (n + k) (m - k) =
      ap (λ (j : ℕ). row ++ lines_on j (m - (k + 1))) next ∙ sym (ap (lines_on (n + k)) more) in
      record {
        few = omega (arith, x.few);
        lines = e
            ∙ ap (λ (b : List ℕ). (line_put k row b).left) x.lines
            ∙ line_before old row rest k (length_entry (entry_of (entry_record l (n + k) s))) (omega (arith, x.few, room))
            ∙ ap (λ (b : List ℕ). take (9 + 32 * k) old ++ b) (sym (append_assoc row (lines_on (n + (k + 1)) (m - (k + 1))) (drop (9 + 32 * m) old)) ∙ ap (λ (b : List ℕ). b ++ drop (9 + 32 * m) old) joined);
      }

  -- the line of the last entry of those that are left is put in front of the others
  pub counted_turns : (n m : ℕ) (old now out : List ℕ) (j k : ℕ) → 9 + 32 * m ≤ length old → CountedDown n m old now j → j ≡ k + 1 → out ≡ (line_put k (entry_bytes (entry_of (entry_record l (n + k) s))) now).left → CountedDown n m old out k
  counted_turns n m old now out j k room x last e = turned n m old now out k room (subst (CountedDown n m old now) last x) e

  ended : (n m : ℕ) (old now : List ℕ) → 9 + 32 * m ≤ length old → CountedDown n m old now 0 → now ≡ over (take 9 old ++ lines_on n m) old
  unfolding over
  ended n m old now room x =
      let first : n + 0 ≡ n = omega arith in
      let all : m - 0 ≡ m = omega arith in
      let long : length (take 9 old ++ lines_on n m) ≡ 9 + 32 * m = length-append (take 9 old) (lines_on n m) ∙ omega (arith, length-take-le 9 old (omega (arith, room)), length_lines n m) in
      x.lines
      ∙ ap (λ (j : ℕ). take 9 old ++ (lines_on j (m - 0) ++ drop (9 + 32 * m) old)) first
      ∙ ap (λ (j : ℕ). take 9 old ++ (lines_on n j ++ drop (9 + 32 * m) old)) all
      ∙ sym (append_assoc (take 9 old) (lines_on n m) (drop (9 + 32 * m) old))
      ∙ ap (λ (j : ℕ). (take 9 old ++ lines_on n m) ++ drop j old) (sym long)

  pub counted_ends : (n m : ℕ) (old now : List ℕ) (k : ℕ) → 9 + 32 * m ≤ length old → CountedDown n m old now k → k ≤ 0 → now ≡ over (take 9 old ++ lines_on n m) old
  counted_ends n m old now k room x none = let all : k ≡ 0 = omega arith in ended n m old now room (subst (CountedDown n m old now) all x)

  -- the numbers that are written are those that are asked for
  met_on : (n k i m : ℕ) → i ≡ min n (count_of Entries s.narrow) → m ≡ min k (count_of Entries s.narrow - i) → entries_on l i m s ≡ entries_met l n k s
  unfolding entries_met
  met_on n k i zero e f = let none : min k (count_of Entries s.narrow - n) ≡ 0 = omega arith in ap (λ (j : ℕ). entries_on l n j s) (sym none)
  met_on n k i (suc m) e f =
      let first : i ≡ n = omega arith in
      ap (λ (j : ℕ). entries_on l j (suc m) s) first ∙ ap (λ (j : ℕ). entries_on l n j s) (f ∙ ap (λ (j : ℕ). min k (count_of Entries s.narrow - j)) first)

  pub entries_few : (n k : ℕ) → length (entries_met l n k s) ≤ k
  unfolding entries_met
  entries_few n k = omega (arith, length_on n (min k (count_of Entries s.narrow - n)))

  -- THE WHOLE ANSWER: its head, and then the lines behind it
  pub counted_whole : (n k i m : ℕ) (old mid out : List ℕ) → i ≡ min n (count_of Entries s.narrow) → m ≡ min k (count_of Entries s.narrow - i) → 9 + 32 * m ≤ length old → answer_need l ≤ length old →
      mid ≡ (written (list_head 4 m) old).left → out ≡ over (take 9 mid ++ lines_on i m) mid →
      wrote (Some (9 + 32 * m)) out ≡ cond (leb (answer_need l) (length old)) (written (bytes_of_answer (entries (entries_met l n k s))) old) (wrote None old)
  counted_whole n k i m old mid out first many fit room e f =
      let head : length (list_head 4 m) ≡ 9 = ap suc (length_fields (m ∷ [])) in
      let is : mid ≡ over (list_head 4 m) old = e ∙ sym (ap (λ (w : Written). w.left) (fits (list_head 4 m) old (over (list_head 4 m) old) 9 head (omega (arith, fit)) refl)) in
      let all : out ≡ over (list_head 4 m ++ lines_on i m) old = f ∙ ap (λ (b : List ℕ). over (take 9 b ++ lines_on i m) b) is ∙ behind_head (list_head 4 m) (lines_on i m) old head in
      let long : length (list_head 4 m ++ lines_on i m) ≡ 9 + 32 * m = length-append (list_head 4 m) (lines_on i m) ∙ omega (arith, head, length_lines i m) in
      let met : entries_on l i m s ≡ entries_met l n k s = met_on n k i m first many in
      let counted : m ≡ length (entries_met l n k s) = sym (length_on i m) ∙ ap length met in
      fits (list_head 4 m ++ lines_on i m) old out (9 + 32 * m) long fit all
      ∙ ap (λ (j : ℕ). written (list_head 4 j ++ lines_on i m) old) counted
      ∙ ap (λ (es : List Entry). written (list_head 4 (length (entries_met l n k s)) ++ flat_map entry_bytes es) old) met
      ∙ sym (cond-true (leb (answer_need l) (length old)) _ _ (le-leb _ _ room))

  -- and where the bytes are too few, none of it
  pub counted_short : (n k i m : ℕ) (old : List ℕ) → i ≡ min n (count_of Entries s.narrow) → m ≡ min k (count_of Entries s.narrow - i) →
      (length old < answer_need l) ⊎ (length old < 9 + 32 * m) → wrote None old ≡ cond (leb (answer_need l) (length old)) (written (bytes_of_answer (entries (entries_met l n k s))) old) (wrote None old)
  counted_short n k i m old first many short =
      cond_both (leb (answer_need l) (length old)) (written row old) (wrote None old) (λ (w : Written). wrote None old ≡ w) (λ room. by (leb-true _ _ room) short) (λ _. refl)
    where
      row : List ℕ
      row = bytes_of_answer (entries (entries_met l n k s))

      long : length row ≡ 9 + 32 * m
      long =
          let head : length (list_head 4 (length (entries_met l n k s))) ≡ 9 = ap suc (length_fields (length (entries_met l n k s) ∷ [])) in
          length-append (list_head 4 (length (entries_met l n k s))) (flat_map entry_bytes (entries_met l n k s))
          ∙ omega (arith, head, length_joined entry_bytes 32 length_entry (entries_met l n k s), ap length (met_on n k i m first many), length_on i m)

      by : answer_need l ≤ length old → (length old < answer_need l) ⊎ (length old < 9 + 32 * m) → wrote None old ≡ written row old
      by room (inl lt) = absurd (omega (arith, room, lt))
      by room (inr lt) = too_long row old (9 + 32 * m) long lt
