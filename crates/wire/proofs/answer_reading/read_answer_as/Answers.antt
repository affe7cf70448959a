use Rattle.std.proofs.Common.{sym, ap, ◌∙◌}
use Rattle.wire.specs.Answers.{answer_as}
use Rattle.firm.specs.Calls.{lots, entries}
use Rattle.wire.specs.Rows.{rows, lot_in, entry_in}
use Rattle.wire.specs.Told.{answer_number, lots_in, entries_in}
use Rattle.wire.proofs.AnswerBytes.{lines_told}
use Rattle.wire.proofs.answer_reading.read_answer_as.Goals as goal

pub returns-in_ok-lines-in-Lots : goal.returns-in_ok-lines-in-Lots
unfolding lots_in
returns-in_ok-lines-in-Lots c =
    lines_told (λ n bs. lots (rows lot_in 32 n bs)) c.args.bytes.now c.in_ok-lines-in-Lots.lines.now c.in_ok-lines-in-Lots.ensures
    ∙ ap (λ k. answer_as (answer_number k) c.args.bytes.now) (sym c.in-Lots.is)

pub returns-in_ok-lines-in-Entries : goal.returns-in_ok-lines-in-Entries
unfolding entries_in
returns-in_ok-lines-in-Entries c =
    lines_told (λ n bs. entries (rows entry_in 32 n bs)) c.args.bytes.now c.in_ok-lines-in-Entries.lines.now c.in_ok-lines-in-Entries.ensures
    ∙ ap (λ k. answer_as (answer_number k) c.args.bytes.now) (sym c.in-Entries.is)
