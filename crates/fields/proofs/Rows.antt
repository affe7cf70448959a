-- Rows that are written piece by piece. Assumes nothing.
use Rattle.std.proofs.Common.{◌≡◌, ℕ, ◌+◌, ◌-◌, ◌*◌, ◌<◌, ◌≤◌, true, leb, List, [], ◌∷◌, ◌++◌, length, get_or, take, drop, set, Some, None, sym, refl, ap, ◌∙◌, append_assoc, arith, length-append, length-drop}
use borrow.Rule.Slice.PartMut.{put_mid}
use Rattle.std.proofs.lemmas.List.{take_at, drop_at, drop-drop, set_split, set_at, drop_more}
use Rattle.std.proofs.lemmas.Bool.{cond-true, cond-false, le-leb, lt-leb}
use Rattle.fields.specs.Written.{wrote, over, written, placed, line_put}

pub length_over : (row old : List ℕ) → length row ≤ length old → length (over row old) ≡ length old
unfolding over
length_over row old h = simp (length-append, length-drop) (omega arith)

-- one byte behind a row that is written
pub over_byte : (row old : List ℕ) (at b : ℕ) → length row ≡ at → at < length old → set (over row old) at b ≡ over (row ++ (b ∷ [])) old
unfolding over
over_byte row old at b e h =
    let m : drop (length row) old ≡ get_or old (length row) 0 ∷ drop (length row + 1) old = drop_more old (length row) 0 (omega arith) in
    let s : set (row ++ (get_or old (length row) 0 ∷ drop (length row + 1) old)) at b ≡ row ++ (b ∷ drop (length row + 1) old) = set_at row (get_or old (length row) 0) (drop (length row + 1) old) b at e in
    let l : length (row ++ (b ∷ [])) ≡ length row + 1 = length-append row (b ∷ []) in
    let g = append_assoc row (b ∷ []) (drop (length (row ++ (b ∷ []))) old) in
    cc

pub over_first : (old : List ℕ) (b : ℕ) → 0 < length old → set old 0 b ≡ over (b ∷ []) old
unfolding over
over_first old b h = set_split old 0 b h

-- bytes behind a row that is written
pub over_more : (row old ys : List ℕ) (at n : ℕ) → length row ≡ at → length ys ≡ n → at + n ≤ length old → put_mid at n (over row old) ys ≡ over (row ++ ys) old
unfolding over
over_more row old ys at n e f h =
    let a : take at (row ++ drop (length row) old) ≡ row = take_at row (drop (length row) old) at e in
    let b : drop at (row ++ drop (length row) old) ≡ drop (length row) old = drop_at row (drop (length row) old) at e in
    let d : drop n (drop (length row) old) ≡ drop (length row + n) old = drop-drop n (length row) old in
    let l : length (row ++ ys) ≡ length row + n = length-append row ys ∙ ap (λ (k : ℕ). length row + k) f in
    let g = append_assoc row ys (drop (length (row ++ ys)) old) in
    cc

-- a row that fits, and one that does not
pub fits : (row old new : List ℕ) (n : ℕ) → length row ≡ n → n ≤ length old → new ≡ over row old → wrote (Some n) new ≡ written row old
unfolding written
fits row old new n e h f =
    let l : leb (length row) (length old) ≡ true = le-leb (length row) (length old) (omega arith) in
    let t = cond-true (leb (length row) (length old)) (wrote (Some (length row)) (over row old)) (wrote None old) l in
    cc

pub too_long : (row old : List ℕ) (n : ℕ) → length row ≡ n → length old < n → wrote None old ≡ written row old
unfolding written
too_long row old n e h = sym (cond-false (leb (length row) (length old)) (wrote (Some (length row)) (over row old)) (wrote None old) (lt-leb (length row) (length old) (omega arith)))

-- a kind and the fields behind it
pub put_row : (old new rest : List ℕ) (k n : ℕ) → n ≡ 1 + length rest → n ≤ length old → new ≡ put_mid 1 (n - 1) (set old 0 k) rest → wrote (Some n) new ≡ written (k ∷ rest) old
put_row old new rest k n l h e =
    let o : put_mid 1 (n - 1) (over (k ∷ []) old) rest ≡ over (k ∷ rest) old = over_more (k ∷ []) old rest 1 (n - 1) refl (omega arith) (omega arith) in
    fits (k ∷ rest) old new n (omega arith) h (e ∙ ap (λ (xs : List ℕ). put_mid 1 (n - 1) xs rest) (over_first old k (omega arith)) ∙ o)

pub line_fits : (row old new : List ℕ) (k n : ℕ) → length row ≡ 32 → 9 + 32 * k + 32 ≤ length old → n ≡ 32 → new ≡ put_mid (9 + 32 * k) n old row
    → wrote (Some (9 + 32 * k + 32)) new ≡ line_put k row old
unfolding line_put placed
line_fits row old new k n l h m e =
    let at : ℕ = 9 + 32 * k in
    let b : leb (9 + 32 * k + 32) (length old) ≡ true = le-leb (9 + 32 * k + 32) (length old) h in
    let t = cond-true (leb (9 + 32 * k + 32) (length old)) (wrote (Some (9 + 32 * k + 32)) (placed (9 + 32 * k) row old)) (wrote None old) b in
    let d : drop n (drop (9 + 32 * k) old) ≡ drop (9 + 32 * k + n) old = drop-drop n (9 + 32 * k) old in
    let g : n ≡ length row = omega arith in
    let i : drop (9 + 32 * k + n) old ≡ drop (9 + 32 * k + length row) old = ap (λ (j : ℕ). drop (9 + 32 * k + j) old) g in
    ap (λ (xs : List ℕ). wrote (Some (9 + 32 * k + 32)) xs) (e ∙ ap (λ (xs : List ℕ). take (9 + 32 * k) old ++ (row ++ xs)) (d ∙ i)) ∙ sym t

pub line_too_long : (row old : List ℕ) (k : ℕ) → length old < 9 + 32 * k + 32 → wrote None old ≡ line_put k row old
unfolding line_put
line_too_long row old k h =
    sym (cond-false (leb (9 + 32 * k + 32) (length old)) (wrote (Some (9 + 32 * k + 32)) (placed (9 + 32 * k) row old)) (wrote None old) (lt-leb (9 + 32 * k + 32) (length old) h))

-- a line behind a row that is written
pub over_placed : (row old ys : List ℕ) (at : ℕ) → length row ≡ at → at + length ys ≤ length old → placed at ys (over row old) ≡ over (row ++ ys) old
unfolding placed
over_placed row old ys at e h =
    ap (λ (xs : List ℕ). take at (over row old) ++ (ys ++ xs)) (sym (drop-drop (length ys) at (over row old))) ∙ over_more row old ys at (length ys) e refl h

pub line_over : (row old ys : List ℕ) (k : ℕ) → length row ≡ 9 + 32 * k → length ys ≡ 32 → 9 + 32 * k + 32 ≤ length old
    → line_put k ys (over row old) ≡ wrote (Some (9 + 32 * k + 32)) (over (row ++ ys) old)
unfolding line_put
line_over row old ys k l m h =
    let n : length (over row old) ≡ length old = length_over row old (omega arith) in
    let b : leb (9 + 32 * k + 32) (length (over row old)) ≡ true = le-leb (9 + 32 * k + 32) (length (over row old)) (omega arith) in
    cond-true (leb (9 + 32 * k + 32) (length (over row old))) (wrote (Some (9 + 32 * k + 32)) (placed (9 + 32 * k) ys (over row old))) (wrote None (over row old)) b
    ∙ ap (λ (xs : List ℕ). wrote (Some (9 + 32 * k + 32)) xs) (over_placed row old ys (9 + 32 * k) l (omega arith))
