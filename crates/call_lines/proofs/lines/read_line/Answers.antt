use Rattle.std.proofs.Common.{ℕ, Err, vec_items, ap, ◌∙◌}
use Rattle.call_lines.specs.declared.error.LineError.TheVariants.{Misfit}
use Rattle.call_lines.proofs.Placing.{line_fits, line_ceases}
use Rattle.call_lines.proofs.lines.read_line.Goals as goal

pub returns-in-Ok : goal.returns-in-Ok
returns-in-Ok c =
    let p = line_fits c.args.line.now (vec_items c.read_call.new.call) c.in-Ok.ensures in
    record { reading = p.0; bytes = p.1 }

pub returns-in-Err-At : goal.returns-in-Err-At
returns-in-Err-At c =
    let p = line_ceases c.args.line.now c.in-Err-At.rest.now (rw c.in-Err-At.field-0-is at c.in-Err-At.ensures) in
    record { reading = ap (λ (n : ℕ). Err (Misfit n)) c.saturating_sub.ensures ∙ p.0; bytes = c.clear.ensures.items ∙ p.1 }
