use Rattle.std.proofs.Common.{◌∙◌}
use Rattle.memory.specs.Lent.{seen}
use Rattle.session.proofs.Listing.{entries_said}
use Rattle.session.proofs.Saying.{taken_is}
use Rattle.session.proofs.calling.say_entries.Goals as goal

pub returns-in-Some : goal.returns-in-Some
returns-in-Some c =
    entries_said c.args.view.limits (seen c.args.view) c.args.first c.args.count c.in-Some.count c.unwrap_or.result c.write_entries.result c.args.out.now c.write_entries.new.answer c.requires
    c.in-Some.ensures c.write_entries.ensures (c.unwrap_or.ensures ∙ taken_is c.write_entries.result)
