-- Answers that are lists. Assumes nothing.
use Rattle.std.proofs.Common.{◌≡◌, ℕ, suc, ◌+◌, ◌-◌, ◌*◌, ◌/◌, ◌%◌, ◌<◌, ◌≤◌, true, false, cond, eqb, List, [], ◌∷◌, ◌++◌, length, drop, Some, None, Option, sym, ap, ◌∙◌, ⊎_elim, arith, length-append, length-drop}
use borrow.Rule.Slice.PartMut.{put_mid}
use Rattle.std.specs.List.{flat_map}
use Rattle.std.proofs.lemmas.Bool.{cond-true, cond-false, eq-eqb, eqb-true, cases_Bool}
use Rattle.fields.specs.Bytes.{Bytes, field_at, all_fields, fields_from}
use Rattle.fields.specs.Written.{Written, wrote, written, over, row_written}
use Rattle.fields.proofs.Numbers.{length_fields}
use Rattle.fields.proofs.Rows.{fits, too_long, over_more}
use Rattle.firm.specs.Calls.{Answer}
use Rattle.wire.specs.Rows.{rows}
use Rattle.wire.specs.Answers.{list_head, if_sized, bytes_of_answer}
use Rattle.wire.specs.Told.{if_lines, answer_row}
use Rattle.wire.specs.Lines.{length_rows}
use Rattle.wire.proofs.RowLaws.{fields_again}
use Rattle.wire.proofs.Heads.{head_put}

-- the lines behind a count
pub lines_are : (bs tail : List ℕ) → 9 ≤ length bs → tail ≡ drop 9 bs → (length bs - 9) % 32 ≡ 0 → (length bs - 9) / 32 ≡ field_at 1 bs
    → Some tail ≡ cond (eqb (length bs) (9 + 32 * field_at 1 bs)) (Some (drop 9 bs)) None
lines_are bs tail h e m q = ap Some e ∙ sym (cond-true (eqb (length bs) (9 + 32 * field_at 1 bs)) (Some (drop 9 bs)) None (eq-eqb (length bs) (9 + 32 * field_at 1 bs) (omega arith)))

pub lines_told : (make : ℕ → List ℕ → Answer) (bs xs : List ℕ) → Some xs ≡ cond (eqb (length bs) (9 + 32 * field_at 1 bs)) (Some (drop 9 bs)) None
    → if_lines xs (make (length xs / 32) xs) ≡ if_sized (9 + 32 * field_at 1 bs) bs (make (field_at 1 bs) (drop 9 bs))
lines_told make bs xs e =
    ⊎_elim
    (λ (t : eqb (length bs) (9 + 32 * field_at 1 bs) ≡ true).
    let l : length bs ≡ 9 + 32 * field_at 1 bs = eqb-true (length bs) (9 + 32 * field_at 1 bs) t in
    let c = cond-true (eqb (length bs) (9 + 32 * field_at 1 bs)) (Some (drop 9 bs)) None t in
    let x : xs ≡ drop 9 bs = cc in
    let lx : length xs ≡ 32 * field_at 1 bs = ap length x ∙ length-drop 9 bs ∙ omega arith in
    let q : length xs / 32 ≡ field_at 1 bs = omega arith in
    let a = cond-true (eqb (length xs % 32) 0) (Some (make (length xs / 32) xs)) None (eq-eqb (length xs % 32) 0 (omega arith)) in
    let b = cond-true (eqb (length bs) (9 + 32 * field_at 1 bs)) (Some (make (field_at 1 bs) (drop 9 bs))) None t in
    let g : make (length xs / 32) xs ≡ make (field_at 1 bs) (drop 9 bs) = cc in
    a ∙ ap Some g ∙ sym b)
    (λ (t : eqb (length bs) (9 + 32 * field_at 1 bs) ≡ false).
    let c : cond (eqb (length bs) (9 + 32 * field_at 1 bs)) (Some (drop 9 bs)) None ≡ None = cond-false (eqb (length bs) (9 + 32 * field_at 1 bs)) (Some (drop 9 bs)) None t in
    let z : ◌≡◌ {A = ℕ} 0 1 = cc in
    absurd (omega arith))
    (cases_Bool (eqb (length bs) (9 + 32 * field_at 1 bs)))

-- lines that are there as bytes, written behind their head
abbrev lines_row : ℕ → List ℕ → List ℕ
lines_row kind ls = list_head kind (length ls / 32) ++ ls

abbrev pub lines_put : ℕ → List ℕ → List ℕ → Written
lines_put kind ls old = cond (eqb (length ls % 32) 0) (written (lines_row kind ls) old) (wrote None old)

length_lines : (kind : ℕ) (ls : List ℕ) → length (lines_row kind ls) ≡ 9 + length ls
length_lines kind ls = length-append (list_head kind (length ls / 32)) ls ∙ omega (arith, length_fields (length ls / 32 ∷ []))

pub lines_too_long : (kind : ℕ) (ls old : List ℕ) → length ls % 32 ≡ 0 → length old < 9 + length ls → wrote None old ≡ lines_put kind ls old
lines_too_long kind ls old m h =
    too_long (lines_row kind ls) old (9 + length ls) (length_lines kind ls) h
    ∙ sym (cond-true (eqb (length ls % 32) 0) (written (lines_row kind ls) old) (wrote None old) (eq-eqb (length ls % 32) 0 m))

pub lines_fit : (kind m : ℕ) (r : Option ℕ) (ls old x new : List ℕ) → length ls % 32 ≡ 0 → 9 + length ls ≤ length old → m ≡ length ls
    → wrote r x ≡ written (list_head kind (length ls / 32)) old → new ≡ put_mid 9 m x ls → wrote (Some (9 + length ls)) new ≡ lines_put kind ls old
lines_fit kind m r ls old x new z h j e f =
    let head : List ℕ = list_head kind (length ls / 32) in
    let e1 : x ≡ over head old = ap (λ (w : Written). w.left) (head_put kind (length ls / 32) r old x (omega arith) e) in
    let e2 : put_mid 9 m x ls ≡ over (head ++ ls) old =
    ap (λ (xs : List ℕ). put_mid 9 m xs ls) e1 ∙ over_more head old ls 9 m (ap suc (length_fields (length ls / 32 ∷ []))) (sym j) (omega arith) in
    fits (lines_row kind ls) old new (9 + length ls) (length_lines kind ls) h (f ∙ e2)
    ∙ sym (cond-true (eqb (length ls % 32) 0) (written (lines_row kind ls) old) (wrote None old) (eq-eqb (length ls % 32) 0 z))

-- which are the lines of the answer that they are read as
pub rows_put : {A : Type 0} (enc : A → List ℕ) (read : List ℕ → A) (kind : ℕ) (ls old : List ℕ) (all : List A) (x : Answer) → Bytes ls → ((bs : List ℕ) → enc (read bs) ≡ all_fields (fields_from 4 0 bs))
    → all ≡ rows read 32 (length ls / 32) ls → bytes_of_answer x ≡ list_head kind (length all) ++ flat_map enc all → lines_put kind ls old ≡ row_written (answer_row (if_lines ls x)) old
rows_put {A} enc read kind ls old all x b by each shape =
    ⊎_elim
    (λ (t : eqb (length ls % 32) 0 ≡ true).
    let m : length ls % 32 ≡ 0 = eqb-true (length ls % 32) 0 t in
    let a = cond-true (eqb (length ls % 32) 0) (written (lines_row kind ls) old) (wrote None old) t in
    let c = cond-true (eqb (length ls % 32) 0) (Some x) None t in
    let n : length all ≡ length ls / 32 = ap length each ∙ length_rows read 32 (length ls / 32) ls in
    let j : flat_map enc all ≡ ls = ap (flat_map enc) each ∙ fields_again read enc 4 by (length ls / 32) ls b (omega arith) in
    let s : bytes_of_answer x ≡ lines_row kind ls = shape ∙ ap (λ (k : ℕ). list_head kind k ++ flat_map enc all) n ∙ ap (λ (xs : List ℕ). list_head kind (length ls / 32) ++ xs) j in
    a ∙ sym (ap (λ (o : Option Answer). row_written (answer_row o) old) c ∙ ap (λ (bs : List ℕ). row_written bs old) s))
    (λ (t : eqb (length ls % 32) 0 ≡ false).
    let a = cond-false (eqb (length ls % 32) 0) (written (lines_row kind ls) old) (wrote None old) t in
    let c = cond-false (eqb (length ls % 32) 0) (Some x) None t in
    a ∙ sym (ap (λ (o : Option Answer). row_written (answer_row o) old) c))
    (cases_Bool (eqb (length ls % 32) 0))
