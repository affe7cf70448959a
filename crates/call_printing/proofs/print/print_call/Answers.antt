use Rattle.std.proofs.Common.{ℕ, List, ◌++◌, vec_items, codes, sym, ap, ◌∙◌}
use Rattle.wire.specs.declared.call.Call.{Call}
use Rattle.wire.specs.Said.{said}
use Rattle.call_lines.specs.Written.{line_of_call}
use Rattle.call_printing.proofs.Spacing.{spaced_two}
use Rattle.call_printing.proofs.print.print_call.Goals as goal

pub returns-in_ok-put_words-in-EntriesFrom : goal.returns-in_ok-put_words-in-EntriesFrom
returns-in_ok-put_words-in-EntriesFrom c =
    c.in_ok-put_words-in-EntriesFrom.ensures
    ∙ ap (λ (x : List ℕ). vec_items c.args.out.now ++ (codes "entries from " ++ x)) (spaced_two c.in-EntriesFrom.a c.in-EntriesFrom.b)
    ∙ ap (λ (k : Call). vec_items c.args.out.now ++ line_of_call (said k)) (sym c.in-EntriesFrom.is)
