use Rattle.std.proofs.Common.{ℕ, List, ◌++◌, vec_items, sym, ap, ◌∙◌}
use Rattle.wire.specs.declared.answer.Answer.{Answer}
use Rattle.wire.specs.Told.{told}
use Rattle.answer_lines.specs.Showings.{shown_if}
use Rattle.answer_lines.proofs.QuadSteps.{lots_shown, entries_shown}
use Rattle.answer_lines.proofs.show.put_answer.Goals as goal

pub returns-in_ok-put_lines-in-Lots-clause-text : goal.returns-in_ok-put_lines-in-Lots-clause-text
returns-in_ok-put_lines-in-Lots-clause-text c =
    c.in_ok-put_lines-in-Lots.ensures.text
    ∙ ap (λ (s : List ℕ). vec_items c.args.out.now ++ s) ((lots_shown c.in-Lots.lines.now).1 ∙ ap (λ (a : Answer). shown_if (told a)) (sym c.in-Lots.is))

pub returns-in_ok-put_lines-in-Entries-clause-text : goal.returns-in_ok-put_lines-in-Entries-clause-text
returns-in_ok-put_lines-in-Entries-clause-text c =
    c.in_ok-put_lines-in-Entries.ensures.text
    ∙ ap (λ (s : List ℕ). vec_items c.args.out.now ++ s) ((entries_shown c.in-Entries.lines.now).1 ∙ ap (λ (a : Answer). shown_if (told a)) (sym c.in-Entries.is))
