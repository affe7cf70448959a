use Rattle.std.proofs.Common.{sym, subst}
use Rattle.std.specs.Io.Buffered.{reader_remaining}
use Rattle.text.specs.Streaming.{NextAnswered}
use Rattle.text.proofs.Streams.{OnTheWay, on_ok, way_begins, way_goes_on, way_puts, way_ends}
use Rattle.text.proofs.books.Books.answer_stream.Goals as goal

pub loop-line-init : goal.loop-line-init
loop-line-init g c =
    let all = reader_remaining g.R.Read.remaining c.args.input.now in
    let out = g.W.Write.contents c.args.output.now in
    subst (OnTheWay all all c.args.self.now c.args.self.now out out) (sym c.new-answers.ensures.items) (way_begins all c.args.self.now out)

pub returns-in-Ok-false : goal.returns-in-Ok-false
returns-in-Ok-false g c =
    on_ok c.put_out.result
    (way_ends (reader_remaining g.R.Read.remaining c.args.input.now) (reader_remaining g.R.Read.remaining c.loop-line.input) (reader_remaining g.R.Read.remaining c.answer_next.new.input) c.args.self.now c.loop-line.self
    c.answer_next.new.self (g.W.Write.contents c.args.output.now) (g.W.Write.contents c.loop-line.output) (g.W.Write.contents c.put_out.new.output) c.loop-line.answers.items c.answer_next.new.answers.items c.loop-line.invariant
    (subst
    (NextAnswered (reader_remaining g.R.Read.remaining c.loop-line.input) (reader_remaining g.R.Read.remaining c.answer_next.new.input) c.loop-line.self c.answer_next.new.self c.loop-line.answers.items
    c.answer_next.new.answers.items) c.in-Ok-false.field-0-test c.in-Ok-false.ensures))
    c.put_out.ensures.wrote

pub loop-line-preserved : goal.loop-line-preserved
loop-line-preserved g c =
    let all = reader_remaining g.R.Read.remaining c.args.input.now in
    let left = reader_remaining g.R.Read.remaining c.answer_next.new.input in
    let out = g.W.Write.contents c.args.output.now in
    way_puts all left c.args.self.now c.answer_next.new.self out (g.W.Write.contents c.loop-line.output) (g.W.Write.contents c.put_due.new.output) c.answer_next.new.answers.items c.put_due.new.answers.items
    (way_goes_on all (reader_remaining g.R.Read.remaining c.loop-line.input) left c.args.self.now c.loop-line.self c.answer_next.new.self out (g.W.Write.contents c.loop-line.output) c.loop-line.answers.items
    c.answer_next.new.answers.items c.loop-line.invariant
    (subst
    (NextAnswered (reader_remaining g.R.Read.remaining c.loop-line.input) left c.loop-line.self c.answer_next.new.self c.loop-line.answers.items c.answer_next.new.answers.items)
    c.in-Ok-true.field-0-test c.in-Ok-true.ensures))
    c.in_ok-put_due.ensures
