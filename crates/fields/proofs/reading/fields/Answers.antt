use Rattle.std.proofs.Common.{◌≡◌, ◌+◌, ◌*◌, eqb, Ok, map, ap, ◌∙◌, sym, rules, length}
use Rattle.std.proofs.lemmas.Bool.{cond-true, eq-eqb}
use Rattle.fields.specs.Bytes.{value}
use Rattle.fields.proofs.Words.{words_behind}
use Rattle.fields.proofs.reading.fields.Goals as goal

pub returns : goal.returns
returns g c =
    let size : length c.args.bytes.now ≡ 1 + 8 * g.row.N = search rules in
    let words : c.unwrap.result.now ≡ c.as_chunks.result.0.now = search rules in
    let f = c.numbers_of.ensures ∙ ap (map value) (words ∙ c.as_chunks.ensures.front) ∙ words_behind g.row.N c.args.bytes.now size in
    ap Ok f ∙ sym (cond-true (eqb (length c.args.bytes.now) (1 + 8 * g.row.N)) _ _ (eq-eqb (length c.args.bytes.now) (1 + 8 * g.row.N) size))
