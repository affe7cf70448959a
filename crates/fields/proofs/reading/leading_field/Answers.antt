use Rattle.std.proofs.Common.{rules}
use Rattle.fields.proofs.Words.{leading}
use Rattle.fields.proofs.reading.leading_field.Goals as goal

pub returns : goal.returns
returns c = leading c.args.bytes.now c.first_chunk.result c.map.result c.first_chunk.ensures.cases (search rules)
