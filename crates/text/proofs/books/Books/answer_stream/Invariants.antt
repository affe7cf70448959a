use Rattle.std.specs.Io.Buffered.{reader_remaining}
use Rattle.text.proofs.Streams.{OnTheWay}
use Rattle.text.proofs.books.Books.answer_stream.Given as goal

abbrev pub invariant-loop-line : goal.invariant-loop-line
invariant-loop-line g l =
    OnTheWay (reader_remaining g.R.Read.remaining l.initial.input) (reader_remaining g.R.Read.remaining l.input) l.initial.self l.self (g.W.Write.contents l.initial.output) (g.W.Write.contents l.output) l.answers.items
