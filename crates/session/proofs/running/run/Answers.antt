use Rattle.std.proofs.Common.{◌≡◌, ◌≤◌, length, List, ℕ, vec_items, rules, refl, sym, ap, ◌∙◌, subst, arith}
use Rattle.layout.specs.Layout.{Good, answer_need}
use Rattle.layout.specs.declared.limits.Limits.{Limits}
use Rattle.memory.specs.Books.{limits_in}
use Rattle.session.specs.Held.{words_of}
use Rattle.session.specs.Running.{ran}
use Rattle.session.proofs.Turns.{Going, fresh_limits, going_begins, going_on, going_ends}
use Rattle.session.proofs.running.run.Goals as goal

pub loop-row-init : goal.loop-row-init
loop-row-init c =
    let l = c.in_ok-limits.limits in
    let h = c.in_ok-held.held in
    let fresh = c.in_ok-held.ensures.1 in
    let rest : c.into_iter-row-iterator.result.0.now ≡ c.args.calls.now = ap (λ it. it.0.now) c.into_iter-row-iterator.ensures.into_iter_gives ∙ c.of-row-items.ensures in (
      subst (λ (k : Limits). Going k c.args.calls.now (words_of h) c.into_iter-row-iterator.result.0.now (vec_items c.new-out.result)) (fresh_limits l h fresh)
          (subst (λ (r : List ℕ). Going l c.args.calls.now (words_of h) r (vec_items c.new-out.result)) (sym rest)
          (subst (Going l c.args.calls.now (words_of h) c.args.calls.now) (sym c.new-out.ensures.items) (going_begins l h fresh c.args.calls.now))),
      refl,
    )

pub loop-row-preserved : goal.loop-row-preserved
loop-row-preserved c =
    let l = c.in_ok-limits.limits in
    let h = c.in_ok-held.held in
    let fresh = c.in_ok-held.ensures.1 in
    let same : l ≡ limits_in (words_of h).narrow = fresh_limits l h fresh in
    let room : answer_need (limits_in (words_of h).narrow) ≤ length c.loop-row.held.answer.items = omega (arith, c.loop-row.invariant.1, fresh.room, ap answer_need same) in
    let kept = c.in_ok-answer_row.ensures.room in (
      going_on (limits_in (words_of h).narrow) c.args.calls.now (words_of c.loop-row.held) c.loop-row.row-iterator.0.now (vec_items c.loop-row.out)
          c.in-Some.row.now c.next.new.self.0.now c.loop-row.held.answer.items (subst Good same fresh.good) c.loop-row.invariant.0 room
          (words_of c.answer_row.new.held) c.answer_row.new.held.answer.items (vec_items c.answer_row.new.out) c.in-Some.ensures.steps c.in_ok-answer_row.ensures.done,
      c.in_ok-answer_row.ensures.room ∙ c.loop-row.invariant.1,
    )

pub returns : goal.returns
returns c =
    let l = c.in_ok-limits.limits in
    let h = c.in_ok-held.held in
    let fresh = c.in_ok-held.ensures.1 in
    record {
      limits = l;
      read = search rules;
      answers =
          going_ends (limits_in (words_of h).narrow) c.args.calls.now (words_of c.loop-row.held) c.loop-row.row-iterator.0.now (vec_items c.loop-row.out) c.loop-row.invariant.0 c.in-None.ensures.steps.0
          ∙ ap (λ (k : Limits). ran k c.args.calls.now) (sym (fresh_limits l h fresh));
    }
