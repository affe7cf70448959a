use Rattle.std.proofs.Common.{◌≡◌, [], length, ap, ◌∙◌, rules}
use Rattle.std.proofs.lemmas.List.{nil_from_length}
use Rattle.session.specs.Running.{rows_of}
use Rattle.session.proofs.Framing.{rows_none}
use Rattle.session.proofs.rows.RowsIterator.next.Goals as goal

pub returns-then-is_empty-clause-steps : goal.returns-then-is_empty-clause-steps
returns-then-is_empty-clause-steps c =
    let long : length c.args.self.now.0.now ≡ 0 = search rules in
    let none : rows_of c.args.self.now.0.now ≡ [] = ap rows_of (nil_from_length c.args.self.now.0.now long) ∙ rows_none in
    (none, none)
