use Rattle.std.proofs.Common.{◌≡◌, ℕ, take, ap, ◌∙◌, rules, tests}
use Rattle.std.proofs.lemmas.Iterator.{YieldsList-from_slice}
use Rattle.std.proofs.lemmas.Iterator.Consumers.{count_from_yields_List}
use Rattle.std.proofs.lemmas.Iterator.Search.{YieldsList-from_take_while}
use Rattle.std.proofs.lemmas.List.Folds.{length-prefix_len}
use Rattle.std.specs.List.{prefix_len}
use Rattle.journal.proofs.FirstLines.{within, first_is}
use Rattle.journal.proofs.first_line.first_of.Goals as goal

pub returns : goal.returns
returns c =
    let n : c.count-len.result ≡ prefix_len within c.args.text.now =
    count_from_yields_List _ _ c.count-len.ensures.ran (YieldsList-from_take_while _ within (YieldsList-from_slice c.args.text.now (cc)) c.take_while.ensures.closure c.take_while.ensures.done (λ x b q k. search (rules, tests)))
    ∙ length-prefix_len within c.args.text.now in
    ap (λ (k : ℕ). take k c.args.text.now) n ∙ first_is c.args.text.now
