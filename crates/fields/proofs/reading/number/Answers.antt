use Rattle.std.proofs.Common.{◌∙◌}
use Rattle.fields.proofs.Numbers.{value_is}
use Rattle.fields.proofs.reading.number.Goals as goal

pub returns : goal.returns
returns c = c.from_le_bytes.ensures ∙ value_is c.args.word.now c.told-word
