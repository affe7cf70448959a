-- A part of a lot, and what is left of it. On any memory a product stops at the largest word. Definitions only: nothing is assumed.
use Rattle.std.specs.Prelude.{ℕ, ◌-◌, ◌*◌, ◌/◌, ◌^◌, min, cond, nat_le}
use Rattle.records.specs.declared.lot.Lot.{Lot}

-- what q of p pieces cost that cost x together, rounded down
abbrev pub share : ℕ → ℕ → ℕ → ℕ
share x q p = min (2 ^ 64 - 1) (x * q) / p

-- what is taken of a lot where q pieces are wanted: the whole lot, or these with their share of its cost
unfoldable pub part_of : Lot → ℕ → Lot
part_of x q = cond (nat_le x.pieces q) x (record { item = x.item; pieces = q; cost = share x.cost q x.pieces; «document» = x.«document» })

-- what is left of it
abbrev pub rest_of : Lot → Lot → Lot
rest_of x p = record { item = x.item; pieces = x.pieces - p.pieces; cost = x.cost - p.cost; «document» = x.«document» }
