use Rattle.std.proofs.Common.{ℕ, ◌≡◌, ◌+◌, ◌*◌, ◌/◌, ◌<◌, ◌≤◌, length, map, get_or, ltb, Some, ap, ◌∙◌, sym, rules, arith}
use Rattle.std.proofs.lemmas.Bool.{cond-true, cond-false, lt-ltb, le-ltb}
use Rattle.fields.specs.Bytes.{value, fields_from}
use Rattle.fields.proofs.Words.{rows_counted, row_read, fields_in}
use Rattle.fields.proofs.reading.nth_row.Goals as goal

pub returns-in_err-row : goal.returns-in_err-row
returns-in_err-row g c =
    let n : ℕ = length c.args.rows.now / (8 * g.row.N) in
    let l : length c.rows_in.result.now ≡ n = rows_counted g.row.N c.rows_in.result.now n c.args.rows.now c.rows_in.ensures in
    let h : length c.rows_in.result.now ≤ c.args.k = search rules in
    c.from_residual.ensures ∙ sym (cond-false (ltb c.args.k n) _ _ (le-ltb c.args.k n (omega arith)))

pub returns : goal.returns
returns g c =
    let n : ℕ = length c.args.rows.now / (8 * g.row.N) in
    let l : length c.rows_in.result.now ≡ n = rows_counted g.row.N c.rows_in.result.now n c.args.rows.now c.rows_in.ensures in
    let h : c.args.k < length c.rows_in.result.now = search rules in
    let at : ℕ = 8 * g.row.N * c.args.k in
    let r : c.in_ok-row.row.now ≡ get_or c.rows_in.result.now c.args.k c.in_ok-row.row.now = search rules in
    let z : at + 0 ≡ at = omega arith in
    let f = c.numbers_of.ensures ∙ ap (map value) r ∙ row_read g.row.N c.rows_in.result.now c.args.k n c.args.rows.now c.in_ok-row.row.now c.rows_in.ensures (omega arith)
    ∙ fields_in g.row.N 0 at c.args.rows.now ∙ ap (λ (i : ℕ). fields_from g.row.N i c.args.rows.now) z in
    ap Some f ∙ sym (cond-true (ltb c.args.k n) _ _ (lt-ltb c.args.k n (omega arith)))
