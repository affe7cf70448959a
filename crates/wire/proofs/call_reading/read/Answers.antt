use Rattle.std.proofs.Common.{◌≡◌, ltb, ◌∙◌, rules}
use Rattle.firm.specs.Calls.{garbled}
use Rattle.wire.specs.Said.{heard, kind_number}
use Rattle.wire.proofs.FirstBytes.{known_number, no_call, unknown_call, read_call}
use Rattle.wire.proofs.call_reading.read.Goals as goal

pub returns-in_err-number : goal.returns-in_err-number
returns-in_err-number c =
    let e : heard c.from_residual.result ≡ garbled 0 = search rules in
    e ∙ no_call c.args.bytes.now (search rules)

pub returns-in_err-kind : goal.returns-in_err-kind
returns-in_err-kind c =
    let e : heard c.from_residual-in_err-kind.result ≡ garbled 0 = search rules in
    e ∙ unknown_call c.args.bytes.now c.in_ok-number.number.now (search rules) (search rules)

pub returns : goal.returns
returns c =
    let n = c.in_ok-number.number.now in
    c.read_as.ensures ∙ read_call c.args.bytes.now n _ (search rules) (known_number kind_number (ltb n 16) n c.in_ok-kind.kind (search rules))
