use Rattle.std.specs.Simd.{first_chunks}
use Rattle.std.proofs.Common.{◌≡◌, ℕ, ◌/◌, length, map, ap, ◌∙◌}
use native.Mathlib.Nat.{div-div-eq-div-mul}
use Rattle.std.proofs.Math.Nat.{mul-div-le}
use Rattle.fields.specs.Bytes.{value, rows_of}
use Rattle.fields.proofs.Words.{rows_are}
use Rattle.fields.proofs.reading.rows_in.Goals as goal

pub returns : goal.returns
returns g c =
    let n : ℕ = length c.args.bytes.now in
    let words : c.as_chunks-2.result.0.now ≡ first_chunks g.row.N (n / 8 / g.row.N) (first_chunks 8 (n / 8) c.args.bytes.now) =
    c.as_chunks-2.ensures.front
    ∙ ap (λ (m : ℕ). first_chunks g.row.N (m / g.row.N) c.as_chunks.result.0.now) c.as_chunks.ensures.front_len ∙ ap (first_chunks g.row.N (n / 8 / g.row.N)) c.as_chunks.ensures.front in
    ap (map (map value)) words ∙ rows_are g.row.N (n / 8 / g.row.N) (n / 8) c.args.bytes.now (mul-div-le (n / 8) g.row.N)
    ∙ ap (λ (m : ℕ). rows_of g.row.N m c.args.bytes.now) (div-div-eq-div-mul n 8 g.row.N)
