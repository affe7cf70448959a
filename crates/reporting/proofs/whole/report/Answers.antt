use Rattle.std.proofs.Common.{◌≡◌, ℕ, List, ◌++◌, vec_items, string_bytes, ap, ◌∙◌, ap₂}
use Rattle.firm.specs.Answers.{answers, ran}
use Rattle.firm.specs.Firm.{new_firm}
use Rattle.layout.specs.declared.limits.Limits.{Limits}
use Rattle.records.specs.State.{State}
use Rattle.session.specs.Held.{room_of}
use Rattle.text.specs.Books.{memory_of}
use Rattle.text.specs.Run.{books_limits, calls}
use Rattle.text.specs.Tallies.{no_tally, tallied}
use Rattle.text.specs.declared.tally.Tally.{Tally}
use Rattle.reporting.specs.Report.{tally_line, report_of, reported}
use Rattle.reporting.specs.Shown.{tables_seen}
use Rattle.reporting.proofs.Rows.{two_more}
use Rattle.reporting.proofs.Seen.{tables_are}
use Rattle.reporting.proofs.whole.report.Goals as goal

pub returns : goal.returns
unfolding reported report_of
returns c =
    let l = c.args.limits in
    let opened = c.in_ok-books.ensures in
    let told = c.in_ok-answer.ensures (books_limits l) new_firm opened.1.keeps in
    let last = c.answer.new.self in
    let s : State = memory_of last in
    let counted : c.tally.result ≡ tallied no_tally (answers (books_limits l) new_firm (calls c.args.text.now)) =
    c.tally.ensures ∙ told.tally ∙ ap (λ (t : Tally). tallied t (answers (books_limits l) new_firm (calls c.args.text.now))) opened.1.tally in (
      opened.0,
      ap vec_items c.into_bytes.ensures.value ∙ two_more (string_bytes c.new-out.result) (string_bytes c.put_tables.new.out) (string_bytes c.put_tally.new.out) (tables_seen l s) (tally_line c.tally.result)
          (c.in_ok-put_tables.ensures ∙ ap₂ (λ (k : Limits) (t : State). string_bytes c.new-out.result ++ tables_seen k t) (c.view.ensures.limits ∙ told.keeps.means.stands.frame.limits) c.view.ensures.words) c.in_ok-put_tally.ensures
          ∙ ap (λ (t : List ℕ). t ++ (tables_seen l s ++ tally_line c.tally.result)) c.new-out.ensures.bytes
          ∙ ap (λ (t : Tally). tables_seen l s ++ tally_line t) counted
          ∙ tables_are l s (ran (books_limits l) new_firm (calls c.args.text.now)) (room_of last.held) told.keeps (tally_line (tallied no_tally (answers (books_limits l) new_firm (calls c.args.text.now)))),
    )
