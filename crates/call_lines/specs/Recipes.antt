-- A RECIPE AS TEXT: `made of 3: item 0, 3 each, item 1, 2 each`. Definitions only: nothing is assumed.
use Rattle.std.specs.Prelude.{ℕ, zero, suc, cond, List, [], ◌∷◌, ◌++◌, length, Ok, Err, codes, ◌==◌}
use Rattle.std.specs.List.{flat_map}
use Rattle.std.specs.Result.{result_map_both}
use Rattle.words.specs.Readers.{Read, then, number, keyword, mark, end}
use Rattle.wire.specs.Rows.{part_bytes}
use Rattle.firm.specs.Stock.{Part}

-- the item, and the colon behind it
unfoldable pub head : List ℕ → Read (ℕ × List ℕ)
head s = then (number s) (λ i. then (mark 58 i.1) (λ t. Ok (i.0, t)))

-- `item 0, 3 each`: item, and how many of it
unfoldable pub part : List ℕ → Read ((ℕ × ℕ) × List ℕ)
part s =
    then (keyword (codes "item") s) (λ t. then (number t) (λ a. then (mark 44 a.1) (λ u.
    then (number u) (λ b. then (keyword (codes "each") b.1) (λ v. Ok ((a.0, b.0), v))))))

-- a part after so many: each but the first has a comma in front
unfoldable pub next_part : ℕ → List ℕ → Read ((ℕ × ℕ) × List ℕ)
next_part n s = cond (n == 0) (part s) (then (mark 44 s) part)

-- one reading where the line has ended, and another where it goes on
abbrev pub if_ended : {X : Type 0} → Read (Unit {0}) → Read X → Read X → Read X
if_ended (Ok u) x y = x
if_ended (Err e) x y = y

abbrev pub part_of : ℕ × ℕ → Part
part_of p = record { item = p.0; each = p.1 }

-- after the parts so far: k more at most, and then the line's end
unfoldable pub parts : ℕ → List Part → List ℕ → Read (List Part)
parts zero got s = then (end s) (λ _. Ok got)
parts (suc k) got s = if_ended (end s) (Ok got) (then (next_part (length got) s) (λ p. parts k (got ++ part_of p.0 ∷ []) p.1))

-- how many parts there are, and their fields behind the bytes so far
abbrev pub appended : List ℕ → Read (List Part) → Read (ℕ × List ℕ)
appended before r = result_map_both (λ ps. (length ps, before ++ flat_map part_bytes ps)) (λ rest. rest) r
