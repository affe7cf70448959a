use Rattle.std.proofs.Common.{◌≡◌, length, take, drop, rules, ◌∙◌, ◌-◌}
use Rattle.std.proofs.lemmas.List.{take_rest}
use Rattle.session.proofs.Framing.{short_rows, long_rows, leading_some, leading_none}
use Rattle.session.proofs.rows.first_row.Goals as goal

pub returns-in_default-clause-rows : goal.returns-in_default-clause-rows
returns-in_default-clause-rows c = short_rows c.args.bytes.now (leading_none c.args.bytes.now c.in_default.ensures)

pub returns-clause-rows : goal.returns-clause-rows
returns-clause-rows c gt =
    let bs = c.args.bytes.now in
    let same : c.unwrap_or-size.result ≡ c.in-Some.size = search rules in
    let cut = long_rows bs (take (length bs - 8) (drop 8 bs)) c.unwrap_or-size.result (take_rest bs 8) (same ∙ leading_some bs c.in-Some.size c.in-Some.ensures) gt in
    cc cut
