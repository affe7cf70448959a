-- Lists that are written line by line, and how long answers are. Assumes nothing.
use Rattle.std.proofs.Common.{◌≡◌, ℕ, suc, ◌+◌, ◌*◌, ◌≤◌, List, [], ◌∷◌, ◌++◌, map, length, Some, sym, refl, ap, ◌∙◌, append_assoc, arith, length-append}
use Rattle.std.specs.List.{flat_map}
use Rattle.std.proofs.lemmas.List.{append-nil, flat_map_more, length_push}
use Rattle.fields.specs.Written.{Written, wrote, written, over, line_put}
use Rattle.fields.proofs.Numbers.{length_fields}
use Rattle.fields.proofs.Rows.{fits, line_over}
use Rattle.firm.specs.Calls as firm
use Rattle.wire.specs.Rows.{lot_bytes, entry_bytes}
use Rattle.wire.specs.Answers.{list_head, bytes_of_answer}
use Rattle.wire.specs.Statements.{LinesGoOn, lines_put, ListsCompose, answer_length, lot_count, entry_count, AnswersFit}
use Rattle.wire.proofs.ReadBack.{length_joined, length_lot, length_entry}

go_on : {A : Type 0} (bytes : A → List ℕ) → ((x : A) → length (bytes x) ≡ 32) → LinesGoOn bytes
go_on bytes long head old xs x l h =
    let m : length (head ++ flat_map bytes xs) ≡ 9 + 32 * length xs = length-append head (flat_map bytes xs) ∙ omega (arith, length_joined bytes 32 long xs) in
    let e : line_put (length xs) (bytes x) (over (head ++ flat_map bytes xs) old) ≡ wrote (Some (9 + 32 * length xs + 32)) (over ((head ++ flat_map bytes xs) ++ bytes x) old) =
    line_over (head ++ flat_map bytes xs) old (bytes x) (length xs) m (long x) h in (
      ap (λ (w : Written). w.count) e,
      ap (λ (w : Written). w.left) e ∙ ap (λ (ys : List ℕ). over ys old) (flat_map_more bytes head xs x),
    )

put_rest : {A : Type 0} (bytes : A → List ℕ) → ((x : A) → length (bytes x) ≡ 32) → (head old : List ℕ) (done rest : List A) → length head ≡ 9
    → 9 + 32 * (length done + length rest) ≤ length old → lines_put (length done) (map bytes rest) (over (head ++ flat_map bytes done) old) ≡ over (head ++ flat_map bytes (done ++ rest)) old
unfolding lines_put
put_rest {A = A} bytes long head old done [] l h = ap (λ (xs : List A). over (head ++ flat_map bytes xs) old) (sym (append-nil done))
put_rest {A = A} bytes long head old done (x ∷ rest) l h =
    let e = (go_on bytes long head old done x l (omega arith)).1 in
    let n : length (done ++ (x ∷ [])) ≡ length done + 1 = length_push done x in
    let m : suc (length done) ≡ length (done ++ (x ∷ [])) = omega arith in
    ap (λ (out : List ℕ). lines_put (suc (length done)) (map bytes rest) out) e
    ∙ ap (λ (k : ℕ). lines_put k (map bytes rest) (over (head ++ flat_map bytes (done ++ (x ∷ []))) old)) m
    ∙ put_rest bytes long head old (done ++ (x ∷ [])) rest l (omega arith)
    ∙ ap (λ (xs : List A). over (head ++ flat_map bytes xs) old) (append_assoc done (x ∷ []) rest)

length_list : {A : Type 0} (bytes : A → List ℕ) → ((x : A) → length (bytes x) ≡ 32) → (k : ℕ) (xs : List A) → length (list_head k (length xs) ++ flat_map bytes xs) ≡ 9 + 32 * length xs
length_list bytes long k xs =
    length-append (list_head k (length xs)) (flat_map bytes xs) ∙ omega (arith, length_fields (length xs ∷ []), length_joined bytes 32 long xs)

put_all : {A : Type 0} (bytes : A → List ℕ) → ((x : A) → length (bytes x) ≡ 32) → (k : ℕ) (xs : List A) (old : List ℕ) → length (list_head k (length xs) ++ flat_map bytes xs) ≤ length old
    → lines_put 0 (map bytes xs) (written (list_head k (length xs)) old).left ≡ over (list_head k (length xs) ++ flat_map bytes xs) old
put_all bytes long k xs old h =
    let head : List ℕ = list_head k (length xs) in
    let l : length head ≡ 9 = ap suc (length_fields (length xs ∷ [])) in
    let n = length_list bytes long k xs in
    let e : (written head old).left ≡ over head old = sym (ap (λ (w : Written). w.left) (fits head old (over head old) 9 l (omega arith) refl)) in
    ap (λ (out : List ℕ). lines_put 0 (map bytes xs) out) (e ∙ ap (λ (ys : List ℕ). over ys old) (sym (append-nil head)))
    ∙ put_rest bytes long head old [] xs l (omega arith)

pub lists_compose : ListsCompose
lists_compose = (go_on lot_bytes length_lot, go_on entry_bytes length_entry, put_all lot_bytes length_lot 3, put_all entry_bytes length_entry 4)

length_answer : (a : firm.Answer) → length (bytes_of_answer a) ≡ answer_length a
unfolding answer_length
length_answer (firm.refused n p) = ap suc (length_fields (n ∷ (p ∷ [])))
length_answer (firm.number n) = ap suc (length_fields (n ∷ []))
length_answer (firm.two a b) = ap suc (length_fields (a ∷ (b ∷ [])))
length_answer (firm.lots ls) = length_list lot_bytes length_lot 3 ls
length_answer (firm.entries es) = length_list entry_bytes length_entry 4 es

room : (a : firm.Answer) (n : ℕ) → lot_count a ≤ n → entry_count a ≤ 256 → answer_length a ≤ 32 * n + 8208
unfolding answer_length lot_count entry_count
room (firm.refused i p) n h k = omega arith
room (firm.number i) n h k = omega arith
room (firm.two i j) n h k = omega arith
room (firm.lots ls) n h k = omega arith
room (firm.entries es) n h k = omega arith

pub answers_fit : AnswersFit
answers_fit a = (length_answer a, λ n h k. omega (arith, length_answer a, room a n h k))
