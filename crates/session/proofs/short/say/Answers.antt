use Rattle.std.proofs.Common.{◌∙◌, arith}
use Rattle.session.proofs.Saying.{said_by, taken_is}
use Rattle.session.proofs.short.say.Goals as goal

pub returns : goal.returns
returns g c =
    said_by (g.S.Short.told c.args.said) c.write.result c.unwrap_or.result c.args.out.now c.write.new.out
    (omega (arith, c.requires, g.met.S.Short.short c.args.said)) c.write.ensures (c.unwrap_or.ensures ∙ taken_is c.write.result)
