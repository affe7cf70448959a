use Rattle.std.proofs.Common.{ℕ, [], ◌∷◌, ◌++◌, ◌-◌, length, take, sym, ap, ◌∙◌, append-nil, inl, inr, arith}
use Rattle.std.proofs.lemmas.List.{nil_from_length}
use Rattle.journal.proofs.Finishing.{last_apart, shorter}
use Rattle.journal.proofs.torn.finished.Goals as goal

pub loop-lines-init : goal.loop-lines-init
loop-lines-init c = ([], sym (append-nil c.args.text.now), tt)

pub loop-lines-preserved : goal.loop-lines-preserved
loop-lines-preserved c =
    let i = c.loop-lines.invariant in
    (_, shorter c.args.text.now c.loop-lines.lines.now i.0 c.in-len1-up.len_at_least i.1, (c.if-last-eq10.false, i.2))

pub returns : goal.returns
returns c =
    let i = c.loop-lines.invariant in
    (i.0, i.1, inl (nil_from_length c.loop-lines.lines.now (omega (arith, c.in_default.len_below))), i.2)

pub returns-then-last-eq10 : goal.returns-then-last-eq10
returns-then-last-eq10 c =
    let i = c.loop-lines.invariant in
    let xs = c.loop-lines.lines.now in
    (i.0, i.1, inr (take (length xs - 1) xs, last_apart xs c.in-len1-up.len_at_least ∙ ap (λ (x : ℕ). take (length xs - 1) xs ++ x ∷ []) c.if-last-eq10.true), i.2)
