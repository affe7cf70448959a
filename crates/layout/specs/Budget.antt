-- How much memory books take, at most: 8 words or 64 bytes for each unit of the limits, and 2,048 words or 16,384 bytes more.
use Rattle.std.specs.Prelude.{◌+◌, ◌*◌, ◌≤◌}
use Rattle.layout.specs.Layout.{Good, wide_need, narrow_need}
use Rattle.layout.specs.declared.limits.Limits.{Limits}

pub record Budget : Type 0 where
  pub words : (l : Limits) → Good l → wide_need l + narrow_need l ≤ 8 * (l.items + l.orders + l.lots + l.parts + l.entries) + 2048
  pub bytes : (l : Limits) → Good l → 8 * wide_need l + 4 * narrow_need l ≤ 64 * (l.items + l.orders + l.lots + l.parts + l.entries) + 16384
