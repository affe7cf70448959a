use Rattle.std.proofs.Common.{ℕ, [], ◌∷◌, get_or, refl, ap, ◌∙◌, ap₂, append-nil}
use Rattle.layout.specs.declared.limits.Limits.{Limits}
use Rattle.memory.specs.Lent.{words}
use Rattle.memory.proofs.Holding.{same_on}
use Rattle.records.specs.State.{State, state}
use Rattle.store.specs.Steps.{counted_out}
use Rattle.taking.specs.Takes.{want, want_taken, taken_each, Tally, tally, nothing_taken, tallied}
use Rattle.taking.specs.declared.wants.Want.{Want}
use Rattle.taking.proofs.CountingOff.{off_begin, off_turn}
use Rattle.taking.proofs.takes.count_each.Goals as goal

pub loop-want-init : goal.loop-want-init
loop-want-init c = ((refl, refl, refl), off_begin c.args.memory.now.limits c.args.wants.now (words c.args.memory.now) c.args.answer.now)

pub loop-want-preserved : goal.loop-want-preserved
loop-want-preserved c =
    let l : Limits = c.args.memory.now.limits in
    let w : Want = get_or c.args.wants.now c.loop-want.want-index (want 0 0) in
    let s : State = words c.loop-want.memory in
    let t : State = words c.take_each-taken.new.memory in
    let y : Tally = tally c.loop-want.answer c.loop-want.taken in
    let done = c.take_each-taken.ensures in
    let same = same_on c.args.memory.now c.loop-want.memory c.take_each-taken.new.memory c.loop-want.invariant.0 done.same in (
      same_on c.args.memory.now c.take_each-taken.new.memory c.count_out.new.memory same c.count_out.ensures.alone.0,
      off_turn l c.args.wants.now (words c.args.memory.now) (tally c.args.answer.now nothing_taken) c.loop-want.want-index s y t
          (tally c.take_each-taken.new.answer c.take_each-taken.result) (words c.count_out.new.memory) c.loop-want.invariant.1 c.loop-want-test.true
          (record {
            slices = done.words ∙ ap (λ (k : Limits). (want_taken k y.taken.lines w s).slices) c.loop-want.invariant.0.2;
            told = done.lines ∙ ap (λ (k : Limits). tallied (taken_each (w ∷ []) k y.taken.lines s).parts y) c.loop-want.invariant.0.2
                ∙ ap (λ ps. tallied ps y) (append-nil (want_taken l y.taken.lines w s).parts);
          })
          (ap₂ state
          (c.count_out.ensures.wide ∙ ap₂ (λ (k : Limits) (x : ℕ). counted_out k w.item w.pieces x t.wide) same.2 c.saturating_sub-cost.ensures)
          c.count_out.ensures.alone.1),
    )
