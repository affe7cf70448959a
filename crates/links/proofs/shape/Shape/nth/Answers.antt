use Rattle.std.proofs.Common.{sym, ap, ◌∙◌}
use Rattle.std.proofs.lemmas.Iterator.Adapters.{option_map_id}
use Rattle.std.proofs.lemmas.Iterator.Consumers.{nth_from_yields_List, YieldsList-from_first}
use Rattle.links.specs.Area.{following_in, on_in}
use Rattle.links.specs.Walk.{cells_left}
use Rattle.links.proofs.Walk.{step_met}
use Rattle.links.proofs.shape.Shape.nth.Goals as goal

pub returns : goal.returns
returns c =
    let h = c.args.self in
    let n = c.args.words.now in
    sym (option_map_id c.nth.result)
    ∙ nth_from_yields_List c.nth.result _ c.args.index c.nth.ensures.ran (YieldsList-from_first (λ x. x) cells_left _ c.cells_after-cells.ensures)
    ∙ step_met c.args.index h n (following_in h n c.header.result)
    ∙ ap (λ p. on_in c.args.index h n (following_in h n p)) c.header.ensures
