-- Lots and entries as they lie in bytes: lines of four fields. Definitions only: nothing is assumed.
use Rattle.std.specs.Prelude.{ℕ, ◌/◌, List, length}
use Rattle.fields.specs.Bytes.{field_at}
use Rattle.wire.specs.Rows.{rows}
use Rattle.answer_lines.specs.Shown.{shown_four}

abbrev pub Quad : Type 0
Quad = ℕ × ℕ × ℕ × ℕ

unfoldable pub quad_in : List ℕ → Quad
quad_in bs = (field_at 0 bs, field_at 8 bs, field_at 16 bs, field_at 24 bs)

-- the whole lines that bytes hold
unfoldable pub quads_in : List ℕ → List Quad
quads_in bs = rows quad_in 32 (length bs / 32) bs

abbrev pub shown_quad : Quad → List ℕ
shown_quad q = shown_four q.0 q.1 q.2 q.3
