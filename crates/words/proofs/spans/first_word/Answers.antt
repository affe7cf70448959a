use Rattle.std.proofs.Common.{◌≡◌, ℕ, take, drop, ap, ◌∙◌, rules, tests}
use Rattle.std.proofs.lemmas.Iterator.{YieldsList-from_slice}
use Rattle.std.proofs.lemmas.Iterator.Consumers.{count_from_yields_List}
use Rattle.std.proofs.lemmas.Iterator.Search.{YieldsList-from_take_while}
use Rattle.std.proofs.lemmas.List.Folds.{length-prefix_len}
use Rattle.std.specs.List.{prefix_len}
use Rattle.words.proofs.SpanSteps.{inner, word_is, past_is}
use Rattle.words.proofs.spans.first_word.Goals as goal

pub returns : goal.returns
returns c =
    let n : c.count-len.result ≡ prefix_len inner c.args.line.now =
    count_from_yields_List _ _ c.count-len.ensures.ran (YieldsList-from_take_while _ inner (YieldsList-from_slice c.args.line.now (cc)) c.take_while.ensures.closure c.take_while.ensures.done (λ x b q k. search (rules, tests)))
    ∙ length-prefix_len inner c.args.line.now in
    record {
      front = c.split_at.ensures.front ∙ ap (λ (k : ℕ). take k c.args.line.now) n ∙ word_is c.args.line.now;
      rest = c.split_at.ensures.back ∙ ap (λ (k : ℕ). drop k c.args.line.now) n ∙ past_is c.args.line.now;
    }
