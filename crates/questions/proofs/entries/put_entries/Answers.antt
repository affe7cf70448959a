use Rattle.std.proofs.Common.{◌-◌, ap, ◌∙◌, arith}
use Rattle.fields.specs.Written.{Written, line_put}
use Rattle.firm.specs.Ledger.{Entry}
use Rattle.memory.specs.Lent.{seen}
use Rattle.wire.specs.Rows.{entry_bytes}
use Rattle.questions.specs.Entries.{entry_of}
use Rattle.questions.proofs.CountedDown.{counted_turns, counted_ends}
use Rattle.questions.proofs.entries.put_entries.Goals as goal

pub loop-left-preserved : goal.loop-left-preserved
loop-left-preserved c =
    counted_turns c.args.view.limits (seen c.args.view) c.args.first c.args.many c.args.answer.now c.loop-left.answer c.put.new.out c.loop-left.left (c.loop-left.left - 1)
    c.requires.room c.loop-left.invariant (omega (arith, c.loop-left-test.true))
    (ap (λ (w : Written). w.left) c.put.ensures
    ∙ ap (λ (x : Entry). (line_put (c.loop-left.left - 1) (entry_bytes x) c.loop-left.answer).left) (c.line.ensures ∙ ap entry_of c.entry.ensures))

pub returns : goal.returns
returns c =
    counted_ends c.args.view.limits (seen c.args.view) c.args.first c.args.many c.args.answer.now c.loop-left.answer c.loop-left.left c.requires.room c.loop-left.invariant c.loop-left-test.false
