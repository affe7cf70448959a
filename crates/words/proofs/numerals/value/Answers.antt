use Rattle.std.proofs.Common.{◌≡◌, ◌≤◌, ◌+◌, ◌-◌, ◌*◌, ◌^◌, ◌∙◌, get_or, arith}
use Rattle.words.proofs.NumberSteps.{valued_too_large, value_from, digit_read}
use Rattle.words.proofs.numerals.value.Goals as goal

pub returns-in_err-checked_mul : goal.returns-in_err-checked_mul
returns-in_err-checked_mul c =
    let large : 2 ^ 64 ≤ c.loop-byte.n * 10 = omega (arith, c.in_err-checked_mul.ensures) in
    c.from_residual.ensures ∙ valued_too_large c.args.word.now (omega (arith, large, c.loop-byte.invariant.value, value_from c.args.word.now c.loop-byte.byte-index c.loop-byte.n c.loop-byte-test.true))

pub returns-in_err-n : goal.returns-in_err-n
returns-in_err-n c =
    let large : 2 ^ 64 ≤ c.in_ok-checked_mul.field-0 + c.in_ok-digit.field-0 = omega (arith, c.in_err-n.ensures) in
    let read : c.in_ok-digit.field-0 ≡ get_or c.args.word.now c.loop-byte.byte-index 0 - 48 = digit_read _ _ _ c.in_ok-digit.ensures in
    c.from_residual-in_err-n.ensures ∙ valued_too_large c.args.word.now
    (omega (arith, large, read, c.in_ok-checked_mul.ensures.1, c.loop-byte.invariant.value, value_from c.args.word.now c.loop-byte.byte-index c.loop-byte.n c.loop-byte-test.true))
