use Rattle.std.proofs.Common.{rules, ◌∙◌}
use Rattle.fields.proofs.Words.{behind}
use Rattle.fields.proofs.reading.first_field.Goals as goal

pub returns : goal.returns
returns c = c.ok_or.ensures.value ∙ behind c.args.bytes.now c.get.result c.and_then.result c.get.ensures.lookup.0 (search rules)
