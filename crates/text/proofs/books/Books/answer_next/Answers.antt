use Rattle.std.proofs.Common.{◌≡◌, ℕ, ◌<◌, List, length, take, slice_index, subst}
use Rattle.std.specs.Io.Buffered.{reader_buffer, reader_remaining}
use Rattle.text.specs.Books.{Answered}
use Rattle.text.proofs.Streams.{if_ok, came_next, ready_next}
use Rattle.text.proofs.books.Books.answer_next.Goals as goal

pub returns : goal.returns
returns g c =
    if_ok c.answer_coming.result
    (came_next (reader_remaining g.R.Read.remaining c.args.input.now) (reader_remaining g.R.Read.remaining c.answer_coming.new.input) c.args.self.now c.answer_coming.new.self c.args.answers.now.items
    c.answer_coming.new.answers.items) c.answer_coming.ensures

pub returns-in-Some : goal.returns-in-Some
returns-in-Some g c =
    let r = c.args.input.now in
    let end = c.in-Some.end in
    let found : (end < length (reader_buffer r)) × (slice_index (reader_buffer r) end ≡ 10) = subst (λ (xs : List ℕ). (end < length xs) × (slice_index xs end ≡ 10)) c.buffer.ensures c.in-Some.ensures in
    ready_next g.R.Read.remaining r c.consume.new.self end c.args.self.now c.answer.new.self c.args.answers.now.items c.answer.new.out.items found.0 found.1 c.consume.ensures.bytes
    (subst (λ (xs : List ℕ). Answered (take end xs) c.args.self.now c.answer.new.self c.args.answers.now.items c.answer.new.out.items) c.buffer-in-Some.ensures c.in_ok-answer.ensures)
