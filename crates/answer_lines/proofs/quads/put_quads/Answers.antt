use Rattle.std.proofs.Common.{◌≡◌, ℕ, ◌-◌, refl, List, length, take, drop, vec_items, rules}
use Rattle.std.proofs.lemmas.List.{take_all}
use Rattle.answer_lines.proofs.QuadSteps.{quads_none, quads_shown}
use Rattle.answer_lines.proofs.quads.put_quads.Goals as goal

pub returns-in_default : goal.returns-in_default
returns-in_default c = quads_none (vec_items c.args.out.now) c.args.lines.now c.rows_in.result.now (vec_items c.extend_from_slice.new.self) c.in_default.len_below c.rows_in.ensures (search rules)

pub returns : goal.returns
returns c =
    let others : List (List (List ℕ)) = take (length c.rows_in.result.now - 1) (drop 1 c.rows_in.result.now) in
    let all : take c.loop-quad.quad-index others ≡ others = take_all c.loop-quad.quad-index others (search rules) in
    quads_shown (vec_items c.args.out.now) c.args.lines.now c.rows_in.result.now others (vec_items c.put_numbers.new.out) (vec_items c.loop-quad.out)
    c.in-len1-up.len_at_least c.rows_in.ensures (search rules) refl (rw all at c.loop-quad.invariant)
