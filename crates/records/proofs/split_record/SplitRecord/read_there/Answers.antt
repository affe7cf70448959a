use Rattle.std.proofs.Common.{◌∙◌}
use Rattle.records.proofs.Parts.{read_rows}
use Rattle.records.proofs.split_record.SplitRecord.read_there.Goals as goal

pub returns : goal.returns
returns g c =
    c.from_words.ensures
    ∙ read_rows g.Self.SplitRecord.kind g.met.Self.SplitRecord.sound g.met.Self.SplitRecord.of_two c.args.wide_at c.args.narrow_at c.args.wide.now c.args.narrow.now _ _ c.requires.wide_lies c.requires.narrow_lies c.there.ensures c.there-2.ensures
