use Rattle.std.proofs.Common.{[], sym, rules}
use Rattle.fields.specs.Bytes.{value}
use Rattle.fields.proofs.Words.{made}
use Rattle.fields.proofs.reading.numbers_of.Goals as goal

pub returns : goal.returns
returns g c = made _ value [] _ c.args.words.now g.row.N c.from_fn.result (λ i y q h met. search rules) (sym c.told-words) c.from_fn.ensures.items
