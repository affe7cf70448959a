use Rattle.std.proofs.Common.{◌≡◌, ℕ, drop, ap, ◌∙◌, rules, tests}
use Rattle.std.proofs.lemmas.Iterator.{YieldsList-from_slice}
use Rattle.std.proofs.lemmas.Iterator.Consumers.{count_from_yields_List}
use Rattle.std.proofs.lemmas.Iterator.Search.{YieldsList-from_take_while}
use Rattle.std.proofs.lemmas.List.{take_rest}
use Rattle.std.proofs.lemmas.List.Folds.{length-prefix_len}
use Rattle.std.specs.List.{prefix_len}
use Rattle.words.specs.Words.{blank}
use Rattle.words.proofs.SpanSteps.{trimmed_is}
use Rattle.words.proofs.spans.skip_blanks.Goals as goal

pub returns : goal.returns
returns c =
    let n : c.count-blanks.result ≡ prefix_len blank c.args.line.now =
    count_from_yields_List _ _ c.count-blanks.ensures.ran (YieldsList-from_take_while _ blank (YieldsList-from_slice c.args.line.now (cc)) c.take_while.ensures.closure c.take_while.ensures.done (λ x b q k. search (rules, tests)))
    ∙ length-prefix_len blank c.args.line.now in
    take_rest c.args.line.now c.count-blanks.result ∙ ap (λ (k : ℕ). drop k c.args.line.now) n ∙ trimmed_is c.args.line.now
