use Rattle.std.proofs.Common.{ℕ, List, ◌++◌, ap, ◌∙◌, subst}
use Rattle.session.specs.Held.{room_of}
use Rattle.text.specs.Books.{memory_of}
use Rattle.text.specs.Fates.{CallsFated, AtHand}
use Rattle.text.specs.Lines.{heard}
use Rattle.text.specs.Run.{calls_in}
use Rattle.wire.specs.Calls.{call_of}
use Rattle.journal.specs.Documents.{kept_line}
use Rattle.journal.proofs.Kept.{kept_taken, kept_none}
use Rattle.journal.proofs.keeping.keep_line.Goals as goal

pub returns-in_ok-put_document-clause-kept : goal.returns-in_ok-put_document-clause-kept
returns-in_ok-put_document-clause-kept c =
    let cs = calls_in (heard c.args.line.now) in
    let row = c.answer_if_heard.new.self.call.items in
    kept_taken cs row (memory_of c.args.books.now) (room_of c.args.books.now.held) c.args.kept.now.items c.put_document.new.kept.items
    (subst (CallsFated cs (memory_of c.args.books.now) (room_of c.args.books.now.held)) c.in-Taken.is c.in_ok-answer_if_heard.ensures.fated)
    (subst (AtHand cs row) c.in-Taken.is c.in_ok-answer_if_heard.ensures.at_hand)
    (c.in_ok-put_document.ensures ∙ ap (λ (r : List ℕ). c.args.kept.now.items ++ kept_line (call_of r)) c.at_hand.ensures)

pub returns-in_default : goal.returns-in_default
returns-in_default c =
    let e = c.in_ok-answer_if_heard.ensures in
    record {
      done = e.done;
      counted = e.counted;
      room = e.room;
      kept = kept_none (calls_in (heard c.args.line.now)) c.in_ok-answer_if_heard.field-0 (memory_of c.args.books.now) (room_of c.args.books.now.held) c.args.kept.now.items c.in_default.not-Taken e.fated;
    }
