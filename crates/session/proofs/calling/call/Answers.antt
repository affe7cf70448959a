use Rattle.std.proofs.Common.{◌<◌, length, refl, rules, arith}
use Rattle.memory.specs.Lent.{words}
use Rattle.memory.specs.Books.{limits_in}
use Rattle.records.specs.State.{State, state}
use Rattle.session.proofs.Doing.{called_not, called_does, head_lacks}
use Rattle.session.proofs.calling.call.Goals as goal
use Rattle.wire.specs.Calls.{call_of}

pub returns-then-narrow-lt-LIMITS-clause-does : goal.returns-then-narrow-lt-LIMITS-clause-does
returns-then-narrow-lt-LIMITS-clause-does c =
    let s : State = state c.args.wide.now c.args.narrow.now in
    let few : length c.args.narrow.now < 5 = omega (arith, c.if-narrow-lt-LIMITS.true) in
    called_not (call_of c.args.call.now) s c.args.answer_bytes.now (limits_in s.narrow) refl
    (head_lacks (limits_in s.narrow) (length s.wide) (length s.narrow) (length c.args.answer_bytes.now) few)

pub returns-then-not-holds : goal.returns-then-not-holds
returns-then-not-holds c =
    record { does = called_not (call_of c.args.call.now) (state c.args.wide.now c.args.narrow.now) c.args.answer_bytes.now c.limits_in-limits.result c.limits_in-limits.ensures c.if-not-holds.ensures.exact; fits = tt }

pub returns-clause-does : goal.returns-clause-does
returns-clause-does c =
    let does = called_does (call_of c.args.call.now) (call_of c.args.call.now) (state c.args.wide.now c.args.narrow.now) (words c.answer_row.new.memory) c.args.answer_bytes.now c.answer_row.new.out
    c.limits_in-limits.result c.answer_row.result c.limits_in-limits.ensures c.if-not-holds.ensures.exact refl c.answer_row.ensures.memory c.answer_row.ensures.bytes in
    search rules

pub returns-clause-fits : goal.returns-clause-fits
returns-clause-fits c = c.answer_row.ensures.bytes.fits
