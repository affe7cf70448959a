-- The first line of a journal: which limits its books have. Definitions only: nothing is assumed.
use Rattle.std.specs.Prelude.{ℕ, ◌^◌, cond, List, [], ◌∷◌, ◌++◌, Some, None, Ok, Err, Option, codes, decimal, nat_lt, ◌==◌}
use Rattle.layout.specs.declared.limits.Limits.{Limits}
use Rattle.words.specs.Readers.{Read, then, number, keyword, end}

-- THE FIRST LINE, a remark: `# books --items 32 --orders 64 --lots 128 --parts 32 --entries 256`
abbrev pub first_line : Limits → List ℕ
first_line l =
    codes "# books --items " ++ (decimal l.items ++ (codes " --orders " ++ (decimal l.orders ++ (codes " --lots " ++ (decimal l.lots
    ++ (codes " --parts " ++ (decimal l.parts ++ (codes " --entries " ++ (decimal l.entries ++ 10 ∷ [])))))))))

-- an option and its number, which is below 2^32
abbrev pub below_limit : ℕ × List ℕ → Read (ℕ × List ℕ)
below_limit p = cond (nat_lt p.0 (2 ^ 32)) (Ok p) (Err p.1)

unfoldable pub limit_read : List ℕ → List ℕ → Read (ℕ × List ℕ)
limit_read w s = then (keyword w s) (λ t. then (number t) below_limit)

-- the five of them
unfoldable pub limits_read : List ℕ → Read Limits
limits_read s =
    then (keyword (codes "#") s) (λ s. then (keyword (codes "books") s) (λ s.
    then (limit_read (codes "--items") s) (λ a. then (limit_read (codes "--orders") a.1) (λ b. then (limit_read (codes "--lots") b.1) (λ c.
    then (limit_read (codes "--parts") c.1) (λ d. then (limit_read (codes "--entries") d.1) (λ e. then (end e.1) (λ _.
    Ok (record { items = a.0; orders = b.0; lots = c.0; parts = d.0; entries = e.0 })))))))))

-- what stands before the first line feed
abbrev pub first_of : List ℕ → List ℕ
first_of [] = []
first_of (c ∷ cs) = cond (c == 10) [] (c ∷ first_of cs)

abbrev pub if_read : Read Limits → Option Limits
if_read (Ok l) = Some l
if_read (Err e) = None

-- the limits that the first line of a text names, if it is a journal's
abbrev pub limits_in : List ℕ → Option Limits
limits_in text = if_read (limits_read (first_of text))
