use Rattle.std.proofs.Common.{ltb, ap, ◌∙◌, rules}
use Rattle.wire.specs.Told.{answered, answer_number}
use Rattle.wire.proofs.FirstBytes.{known_number, no_answer, unknown_answer, read_answer}
use Rattle.wire.proofs.answer_reading.read_answer.Goals as goal

pub returns-in_err-number : goal.returns-in_err-number
returns-in_err-number c = ap answered c.from_residual.ensures ∙ no_answer c.args.bytes.now c.in_err-number.ensures.value

pub returns-in_err-kind : goal.returns-in_err-kind
returns-in_err-kind c =
    let n = c.in_ok-number.number.now in
    ap answered c.from_residual-in_err-kind.ensures ∙ unknown_answer c.args.bytes.now n c.in_ok-number.ensures.value (search rules)

pub returns : goal.returns
returns c =
    let n = c.in_ok-number.number.now in
    c.read_answer_as.ensures ∙ read_answer c.args.bytes.now n _ c.in_ok-number.ensures.value (known_number answer_number (ltb n 5) n c.in_ok-kind.kind (search rules))
