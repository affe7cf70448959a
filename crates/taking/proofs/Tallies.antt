-- The tally of what was taken: how many lines there are, what it cost, and how the bytes lie. Assumes nothing.
use Rattle.std.proofs.Common.{◌≡◌, ℕ, suc, ◌+◌, ◌-◌, ◌*◌, ◌^◌, ◌<◌, ◌≤◌, min, List, [], ◌∷◌, ◌++◌, length, take, sym, refl, ap, ◌∙◌, append_assoc, append-nil, arith, length-append}
use Rattle.std.specs.List.{flat_map}
use Rattle.std.proofs.lemmas.List.{length-take-le, length_push}
use Rattle.fields.specs.Written.{Written, written, over, line_put}
use Rattle.fields.proofs.Numbers.{length_fields}
use Rattle.fields.proofs.Rows.{fits, too_long, line_too_long, length_over}
use Rattle.firm.specs.Stock.{Lot, all_worth}
use Rattle.questions.proofs.Listed.{over_none, over_head}
use Rattle.wire.proofs.ListLaws.{lists_compose}
use Rattle.wire.proofs.ReadBack.{length_joined, length_lot}
use Rattle.wire.specs.Answers.{list_head}
use Rattle.wire.specs.Rows.{lot_bytes}
use Rattle.taking.specs.Laws.{Tells, CountsLines, TellsNothing, SumsCosts}
use Rattle.taking.specs.Takes.{Tally, tally, nothing_taken, with_part, tallied, told}
use Rattle.taking.proofs.Loops.{tallied_lines}

pub tallied_cost : (ps : List Lot) (t : Tally) → t.taken.cost < 2 ^ 64 → (tallied ps t).taken.cost ≡ min (2 ^ 64 - 1) (t.taken.cost + all_worth ps)
unfolding with_part all_worth
tallied_cost [] t lt = omega arith
tallied_cost (p ∷ ps) t lt = tallied_cost ps (with_part p t) (omega arith) ∙ omega arith

-- the lines of `done` stand there, and those of ps come behind them
tallied_bytes : (old : List ℕ) (ps done : List Lot) (t : Tally) → t.answer ≡ over (take 9 old ++ flat_map lot_bytes done) old → t.taken.lines ≡ length done → length done + length ps < 2 ^ 32 →
    9 + 32 * (length done + length ps) ≤ length old → (tallied ps t).answer ≡ over (take 9 old ++ flat_map lot_bytes (done ++ ps)) old
unfolding with_part
tallied_bytes old [] done t e n few fit = e ∙ ap (λ (xs : List Lot). over (take 9 old ++ flat_map lot_bytes xs) old) (sym (append-nil done))
tallied_bytes old (p ∷ ps) done t e n few fit =
    tallied_bytes old ps (done ++ (p ∷ [])) (with_part p t)
    (ap (λ (k : ℕ). (line_put k (lot_bytes p) t.answer).left) n ∙ ap (λ (bs : List ℕ). (line_put (length done) (lot_bytes p) bs).left) e
    ∙ (lists_compose.0 (take 9 old) old done p (length-take-le 9 old (omega arith)) (omega arith)).1)
    (omega (arith, n, length_push done p)) (omega (arith, length_push done p)) (omega (arith, length_push done p))
    ∙ ap (λ (xs : List Lot). over (take 9 old ++ flat_map lot_bytes xs) old) (append_assoc done (p ∷ []) ps)

-- THE WHOLE ANSWER: the lines, and then the head over them
pub counts_lines : CountsLines
unfolding told
counts_lines l ps old few = tallied_lines ps (tally old nothing_taken) (omega arith) ∙ omega arith

pub sums_costs : SumsCosts
unfolding told
sums_costs ps old = tallied_cost ps (tally old nothing_taken) (omega arith) ∙ omega arith

pub tells : Tells
unfolding told
tells l ps old few room =
    let mid : List ℕ = (tallied ps (tally old nothing_taken)).answer in
    let n : ℕ = (tallied ps (tally old nothing_taken)).taken.lines in
    let is : n ≡ length ps = tallied_lines ps (tally old nothing_taken) (omega arith) ∙ omega arith in
    let e : mid ≡ over (take 9 old ++ flat_map lot_bytes ps) old = tallied_bytes old ps [] (tally old nothing_taken) (over_none old (omega arith)) refl (omega arith) (omega arith) in
    let body : length (flat_map lot_bytes ps) ≡ 32 * length ps = length_joined lot_bytes 32 length_lot ps in
    let head : length (list_head 3 n) ≡ 9 = ap suc (length_fields (n ∷ [])) in
    let first : length (take 9 old) ≡ 9 = length-take-le 9 old (omega arith) in
    let mids : length mid ≡ length old = ap length e ∙ length_over (take 9 old ++ flat_map lot_bytes ps) old (omega (arith, length-append (take 9 old) (flat_map lot_bytes ps))) in
    sym (ap (λ (w : Written). w.left) (fits (list_head 3 n) mid (over (list_head 3 n) mid) 9 head (omega arith) refl))
    ∙ ap (over (list_head 3 n)) e ∙ over_head (list_head 3 n) (take 9 old) (flat_map lot_bytes ps) old (omega arith) (omega arith)
    ∙ ap (λ (k : ℕ). over (list_head 3 k ++ flat_map lot_bytes ps) old) is

-- NO BYTES: nothing is written
tallied_none : (ps : List Lot) (t : Tally) → t.answer ≡ [] → (tallied ps t).answer ≡ []
unfolding with_part
tallied_none [] t e = e
tallied_none (p ∷ ps) t e =
    tallied_none ps (with_part p t)
    (ap (λ (bs : List ℕ). (line_put t.taken.lines (lot_bytes p) bs).left) e ∙ sym (ap (λ (w : Written). w.left) (line_too_long (lot_bytes p) [] t.taken.lines (omega arith))))

pub tells_nothing : TellsNothing
unfolding told
tells_nothing ps =
    let n : ℕ = (tallied ps (tally [] nothing_taken)).taken.lines in
    ap (λ (xs : List ℕ). (written (list_head 3 n) xs).left) (tallied_none ps (tally [] nothing_taken) refl)
    ∙ sym (ap (λ (w : Written). w.left) (too_long (list_head 3 n) [] 9 (ap suc (length_fields (n ∷ []))) (omega arith)))
