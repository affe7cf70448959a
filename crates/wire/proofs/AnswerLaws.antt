-- Reading what was written gives the same answer, and what is read as an answer is what is written of it. Assumes nothing.
use Rattle.std.proofs.Common.{◌≡◌, ℕ, zero, suc, ◌+◌, ◌*◌, ◌<◌, ◌≤◌, Bool, true, false, cond, ◌&&◌, eqb, leb, List, [], ◌∷◌, ◌++◌, length, get_or, take, drop, Some, None, sym, refl, ap, ◌∙◌, subst, ⊎_elim, arith, length-drop, take-append-drop}
use Rattle.std.specs.List.{flat_map}
use Rattle.std.proofs.lemmas.List.{get_or_past, drop_more, drop-drop, append-nil}
use Rattle.std.proofs.lemmas.Option.{cond_some}
use Rattle.std.proofs.lemmas.Bool.{cond-true, eq-eqb, eqb-true, leb-true, and_parts, and_from, cases_lt}
use Rattle.fields.specs.Bytes.{Bytes, value, digits, field_bytes, field_at, all_fields}
use Rattle.fields.proofs.Numbers.{value_digits, field_back, bytes_drop}
use Rattle.firm.specs.Stock.{Lot}
use Rattle.firm.specs.Ledger.{Entry}
use Rattle.firm.specs.Calls as firm
use Rattle.wire.specs.Rows.{rows, lot_in, lot_bytes, entry_in, entry_bytes}
use Rattle.wire.specs.Answers.{list_head, bytes_of_answer, is_refusal, each, lot_fits, entry_fits, carries, Kind, one, two, refusal, lines, none, kinds, if_sized, answer_by, answer_of}
use Rattle.wire.specs.Statements.{AnswerComesBack, AnswerIsBytes}
use Rattle.wire.proofs.Tables.{EachAt, found}
use Rattle.wire.proofs.Forms.{fields_row, carried}
use Rattle.wire.specs.Lines.{length_rows}
use Rattle.wire.proofs.RowLaws.{lots_again, entries_again}
use Rattle.wire.proofs.ReadBack.{field_same, same_two, length_joined, length_lot, length_entry, lots_same, entries_same}

refused_back : (n p : ℕ) → (is_refusal n && firm.field p) ≡ true → answer_of (bytes_of_answer (firm.refused n p)) ≡ Some (firm.refused n p)
unfolding answer_of field_at field_bytes digits
refused_back n p h =
    let q = and_parts (is_refusal n) (firm.field p) h in
    let r = and_parts (leb 1 n) (leb n 9) q.0 in
    let e : value (digits 8 n) ≡ n = value_digits 8 n (omega (arith, leb-true n 9 r.1)) in
    same_two (λ x y. cond (is_refusal x) (Some (firm.refused x y)) None) e (field_same p q.1) ∙ cond-true (is_refusal n) (Some (firm.refused n p)) None q.0

lines_back : (make : ℕ → List ℕ → firm.Answer) (k n : ℕ) (body : List ℕ) → firm.field n ≡ true → length body ≡ 32 * n → answer_by (lines make) (list_head k n ++ body) ≡ Some (make n body)
unfolding field_at field_bytes digits
lines_back make k n body h l =
    let bs : List ℕ = list_head k n ++ body in
    let m : length bs ≡ 9 + 32 * n = omega arith in
    ap (λ (x : ℕ). if_sized (9 + 32 * x) bs (make x body)) (field_same n h) ∙ cond-true (eqb (length bs) (9 + 32 * n)) (Some (make n body)) None (eq-eqb (length bs) (9 + 32 * n) m)

number_back : (n : ℕ) → firm.field n ≡ true → answer_of (bytes_of_answer (firm.number n)) ≡ Some (firm.number n)
unfolding answer_of field_at field_bytes digits
number_back n h = ap (λ (x : ℕ). Some (firm.number x)) (field_same n h)

two_back : (a b : ℕ) → (firm.field a && firm.field b) ≡ true → answer_of (bytes_of_answer (firm.two a b)) ≡ Some (firm.two a b)
unfolding answer_of field_at field_bytes digits
two_back a b h =
    let q = and_parts (firm.field a) (firm.field b) h in
    same_two (λ x y. Some (firm.two x y)) (field_same a q.0) (field_same b q.1)

pub answer_comes_back : AnswerComesBack
unfolding answer_of
answer_comes_back (firm.refused n p) h = refused_back n p h
answer_comes_back (firm.number n) h = number_back n h
answer_comes_back (firm.two a b) h = two_back a b h
answer_comes_back (firm.lots ls) h =
    let q = and_parts (firm.field (length ls)) (each lot_fits ls) h in
    lines_back (λ n bs. firm.lots (rows lot_in 32 n bs)) 3 (length ls) (flat_map lot_bytes ls) q.0 (length_joined lot_bytes 32 length_lot ls)
    ∙ ap (λ (xs : List Lot). Some (firm.lots xs)) (lots_same ls q.1)
answer_comes_back (firm.entries es) h =
    let q = and_parts (firm.field (length es)) (each entry_fits es) h in
    lines_back (λ n bs. firm.entries (rows entry_in 32 n bs)) 4 (length es) (flat_map entry_bytes es) q.0 (length_joined entry_bytes 32 length_entry es)
    ∙ ap (λ (xs : List Entry). Some (firm.entries xs)) (entries_same es q.1)

-- what the table says of the answer of the kind k
abbrev Right : ℕ → Kind → Type 0
Right k (one f) = (a : ℕ) → (carries (f a) ≡ firm.field a) × (bytes_of_answer (f a) ≡ k ∷ all_fields (a ∷ []))
Right k (two f) = (a b : ℕ) → (carries (f a b) ≡ (firm.field a && firm.field b)) × (bytes_of_answer (f a b) ≡ k ∷ all_fields (a ∷ (b ∷ [])))
Right k (refusal f) = (a b : ℕ) → (carries (f a b) ≡ (is_refusal a && firm.field b)) × (bytes_of_answer (f a b) ≡ k ∷ all_fields (a ∷ (b ∷ [])))
Right k (lines f) =
    (n : ℕ) (bs : List ℕ) → Bytes bs → firm.field n ≡ true → length bs ≡ 32 * n → (carries (f n bs) ≡ true) × (bytes_of_answer (f n bs) ≡ list_head k n ++ bs)
Right k none = Unit {0}

each_row : {A : Type 0} (ok : A → Bool) (read : List ℕ → A) (w : ℕ) → ((bs : List ℕ) → Bytes bs → ok (read bs) ≡ true) → (n : ℕ) (bs : List ℕ) → Bytes bs → each ok (rows read w n bs) ≡ true
unfolding each rows
each_row ok read w good zero bs b = refl
each_row ok read w good (suc n) bs b = and_from _ _ (good bs b) (each_row ok read w good n (drop w bs) (bytes_drop w bs b))

lot_carried : (bs : List ℕ) → Bytes bs → lot_fits (lot_in bs) ≡ true
unfolding lot_in
lot_carried bs b = and_from _ _ (carried 0 bs b) (and_from _ _ (carried 8 bs b) (and_from _ _ (carried 16 bs b) (carried 24 bs b)))

entry_carried : (bs : List ℕ) → Bytes bs → entry_fits (entry_in bs) ≡ true
unfolding entry_in
entry_carried bs b = and_from _ _ (carried 0 bs b) (and_from _ _ (carried 8 bs b) (and_from _ _ (carried 16 bs b) (carried 24 bs b)))

rows_right : {A : Type 0} (ok : A → Bool) (enc : A → List ℕ) (read : List ℕ → A) (k : ℕ) → ((bs : List ℕ) → Bytes bs → ok (read bs) ≡ true)
    → ((n : ℕ) (bs : List ℕ) → Bytes bs → length bs ≡ 32 * n → flat_map enc (rows read 32 n bs) ≡ bs)
    → (n : ℕ) (bs : List ℕ) → Bytes bs → firm.field n ≡ true → length bs ≡ 32 * n
    → ((firm.field (length (rows read 32 n bs)) && each ok (rows read 32 n bs)) ≡ true) × (list_head k (length (rows read 32 n bs)) ++ flat_map enc (rows read 32 n bs) ≡ list_head k n ++ bs)
rows_right ok enc read k good again n bs b h l =
    let m : length (rows read 32 n bs) ≡ n = length_rows read 32 n bs in (
      and_from _ _ (ap (λ (j : ℕ). firm.field j) m ∙ h) (each_row ok read 32 good n bs b),
      ap (λ (j : ℕ). list_head k j ++ flat_map enc (rows read 32 n bs)) m ∙ ap (λ (xs : List ℕ). list_head k n ++ xs) (again n bs b l),
    )

table : EachAt Right 0 kinds
table = (
  λ a b. (refl, refl),
  (
    λ a. (refl, refl),
    (
      λ a b. (refl, refl),
      (rows_right lot_fits lot_bytes lot_in 3 lot_carried lots_again, (rows_right entry_fits entry_bytes entry_in 4 entry_carried entries_again, tt)),
    ),
  ),
)

-- what two tests that gave something tell
some_both : (s t : Bool) (x a : firm.Answer) → cond s (cond t (Some x) None) None ≡ Some a → (s ≡ true) × (t ≡ true) × (x ≡ a)
some_both true true x a e = (refl, refl, (cc))
some_both true false x a e = let z : ◌≡◌ {A = ℕ} 0 1 = cc in absurd (omega arith)
some_both false t x a e = let z : ◌≡◌ {A = ℕ} 0 1 = cc in absurd (omega arith)

-- the answer that was read is that of the row
at_answer : (bs : List ℕ) (x a : firm.Answer) → x ≡ a → carries x ≡ true → bytes_of_answer x ≡ bs → (carries a ≡ true) × (bytes_of_answer a ≡ bs)
at_answer bs x a e f g = (ap carries (sym e) ∙ f, ap bytes_of_answer (sym e) ∙ g)

lines_row : (k : ℕ) (bs : List ℕ) → Bytes bs → get_or bs 0 0 ≡ k → 9 ≤ length bs → list_head k (field_at 1 bs) ++ drop 9 bs ≡ bs
lines_row k bs b e l =
    let f : field_bytes (field_at 1 bs) ≡ take 8 (drop 1 bs) = field_back 1 bs b (omega arith) in
    let g : field_bytes (field_at 1 bs) ++ [] ≡ field_bytes (field_at 1 bs) = append-nil (field_bytes (field_at 1 bs)) in
    let s : drop 8 (drop 1 bs) ≡ drop 9 bs = drop-drop 8 1 bs in
    let t : take 8 (drop 1 bs) ++ drop 8 (drop 1 bs) ≡ drop 1 bs = take-append-drop 8 (drop 1 bs) in
    let d : bs ≡ get_or bs 0 0 ∷ drop 1 bs = drop_more bs 0 0 (omega arith) in
    cc

read_of : (f : Kind) (k : ℕ) (bs : List ℕ) (a : firm.Answer) → Bytes bs → get_or bs 0 0 ≡ k → Right k f → answer_by f bs ≡ Some a → (carries a ≡ true) × (bytes_of_answer a ≡ bs)
read_of (one f) k bs a b e r g =
    let s = cond_some (eqb (length bs) 9) (f (field_at 1 bs)) a g in
    let q = r (field_at 1 bs) in
    at_answer bs (f (field_at 1 bs)) a s.1 (q.0 ∙ carried 1 bs b) (q.1 ∙ fields_row 1 k bs b e (eqb-true (length bs) 9 s.0))
read_of (two f) k bs a b e r g =
    let s = cond_some (eqb (length bs) 17) (f (field_at 1 bs) (field_at 9 bs)) a g in
    let q = r (field_at 1 bs) (field_at 9 bs) in
    at_answer bs (f (field_at 1 bs) (field_at 9 bs)) a s.1 (q.0 ∙ and_from _ _ (carried 1 bs b) (carried 9 bs b)) (q.1 ∙ fields_row 2 k bs b e (eqb-true (length bs) 17 s.0))
read_of (refusal f) k bs a b e r g =
    let s = some_both (is_refusal (field_at 1 bs)) (eqb (length bs) 17) (f (field_at 1 bs) (field_at 9 bs)) a g in
    let q = r (field_at 1 bs) (field_at 9 bs) in
    at_answer bs (f (field_at 1 bs) (field_at 9 bs)) a s.2 (q.0 ∙ and_from _ _ s.0 (carried 9 bs b)) (q.1 ∙ fields_row 2 k bs b e (eqb-true (length bs) 17 s.1))
read_of (lines f) k bs a b e r g =
    let s = cond_some (eqb (length bs) (9 + 32 * field_at 1 bs)) (f (field_at 1 bs) (drop 9 bs)) a g in
    let l : length bs ≡ 9 + 32 * field_at 1 bs = eqb-true (length bs) (9 + 32 * field_at 1 bs) s.0 in
    let q = r (field_at 1 bs) (drop 9 bs) (bytes_drop 9 bs b) (carried 1 bs b) (length-drop 9 bs ∙ omega arith) in
    at_answer bs (f (field_at 1 bs) (drop 9 bs)) a s.1 q.0 (q.1 ∙ lines_row k bs b e (omega arith))
read_of none k bs a b e r g = let z : ◌≡◌ {A = ℕ} 0 1 = cc in absurd (omega arith)

kind_right : (k : ℕ) → Right k (get_or kinds k none)
kind_right k =
    ⊎_elim (λ (h : k < length kinds). let e : 0 + k ≡ k = omega arith in subst (λ (j : ℕ). Right j (get_or kinds k none)) e (found Right none 0 k kinds table h))
    (λ (h : length kinds ≤ k). subst (λ (f : Kind). Right k f) (sym (get_or_past kinds k none h)) tt) (cases_lt k (length kinds))

pub answer_is_bytes : AnswerIsBytes
unfolding answer_of
answer_is_bytes bs a b e = read_of (get_or kinds (get_or bs 0 0) none) (get_or bs 0 0) bs a b refl (kind_right (get_or bs 0 0)) e
