use Rattle.std.proofs.Common.{◌≡◌, ℕ, ◌+◌, ◌-◌, ◌<◌, ◌≤◌, get_or, None, Some, refl, ap, ◌∙◌, ap₂, arith}
use Rattle.layout.specs.declared.limits.Limits.{Limits}
use Rattle.memory.specs.Books.{lot_record, put_lot}
use Rattle.memory.specs.Lent.{words}
use Rattle.memory.proofs.Holding.{same_on}
use Rattle.records.specs.State.{State, state}
use Rattle.records.specs.declared.lot.Lot.{Lot}
use Rattle.store.specs.Steps.{first_lot, lot_freed}
use Rattle.taking.specs.Parts.{part_of, rest_of}
use Rattle.questions.specs.Listing.{lot_of}
use Rattle.taking.specs.Takes.{want, most_lines, Tally, tally, with_part}
use Rattle.taking.specs.declared.wants.Want.{Want}
use Rattle.taking.proofs.Loops.{row_turns, row_ends, wants_begin, wants_turn, wants_end}
use Rattle.taking.proofs.Turns.{none_gave, whole_gave, part_gave, part_all, taken_enough, taken_ends, taken_over}
use Rattle.taking.proofs.takes.take_each.Goals as goal

pub wants-init : goal.wants-init
wants-init c = ((refl, refl, refl), wants_begin c.args.memory.now.limits c.args.wants.now (words c.args.memory.now) (tally c.args.answer.now c.args.before) c.requires)

pub wants-preserved-then-left-eq0 : goal.wants-preserved-then-left-eq0
wants-preserved-then-left-eq0 c =
    let l : Limits = c.args.memory.now.limits in
    let w : Want = get_or c.args.wants.now c.wants.want-index (want 0 0) in
    let s₁ : State = words c.wants.memory in
    let y₁ : Tally = tally c.wants.answer c.wants.taken in
    let s : State = words c.loop-line.memory in
    let y : Tally = tally c.loop-line.answer c.loop-line.taken in (
      c.loop-line.invariant.0,
      wants_turn l c.args.wants.now (words c.args.memory.now) (tally c.args.answer.now c.args.before) c.wants.want-index s₁ y₁ s y c.wants.invariant.1 c.wants-test.true
          (row_ends l w.item w.pieces s₁ y₁ c.loop-line.line c.loop-line.left s y c.loop-line.invariant.1
          (taken_enough (most_lines l - c.loop-line.line) l w.item c.loop-line.left s c.if-left-eq0.true)),
    )

pub wants-preserved-in_default : goal.wants-preserved-in_default
wants-preserved-in_default c =
    let l : Limits = c.args.memory.now.limits in
    let w : Want = get_or c.args.wants.now c.wants.want-index (want 0 0) in
    let s₁ : State = words c.wants.memory in
    let y₁ : Tally = tally c.wants.answer c.wants.taken in
    let s : State = words c.loop-line.memory in
    let y : Tally = tally c.loop-line.answer c.loop-line.taken in
    let k = c.loop-line.invariant.0.2 in
    let first : first_lot l w.item s.narrow ≡ None = let v = c.view.ensures in let e = c.first_lot.ensures in let d = c.in_default.ensures in cc in (
      c.loop-line.invariant.0,
      wants_turn l c.args.wants.now (words c.args.memory.now) (tally c.args.answer.now c.args.before) c.wants.want-index s₁ y₁ s y c.wants.invariant.1 c.wants-test.true
          (row_ends l w.item w.pieces s₁ y₁ c.loop-line.line c.loop-line.left s y c.loop-line.invariant.1
          (taken_ends (most_lines l - c.loop-line.line) l w.item c.loop-line.left s s (none_gave l w.item c.loop-line.left s first))),
    )

pub wants-preserved-then-from-left : goal.wants-preserved-then-from-left
wants-preserved-then-from-left c =
    let l : Limits = c.args.memory.now.limits in
    let w : Want = get_or c.args.wants.now c.wants.want-index (want 0 0) in
    let s₁ : State = words c.wants.memory in
    let y₁ : Tally = tally c.wants.answer c.wants.taken in
    let s : State = words c.loop-line.memory in
    let y : Tally = tally c.loop-line.answer c.loop-line.taken in
    let k = c.loop-line.invariant.0.2 in
    let x : Lot = lot_record l c.in-Some.cell s in
    let p : Lot = part_of x c.loop-line.left in
    let t : State = words c.take_part-part.new.memory in
    let z : Tally = tally c.put_part-taken.new.answer c.put_part-taken.result in
    let first : first_lot l w.item s.narrow ≡ Some c.in-Some.cell = let v = c.view.ensures in let e = c.first_lot.ensures in let d = c.in-Some.ensures in cc in
    let lot : c.lot-lot.result ≡ x = let v = c.view-in-loop-line.ensures in let e = c.lot-lot.ensures in cc in
    let lt : c.loop-line.line < most_lines l = omega (arith, c.loop-line-test.true, c.saturating_add-most.ensures) in
    let more : c.loop-line.left < x.pieces = omega (arith, c.if-from-left.true, c.from.ensures, ap (λ (u : Lot). u.pieces) lot) in
    let left : t ≡ put_lot l c.in-Some.cell (rest_of x p) s = let e = c.take_part-part.ensures in cc in
    let line : z ≡ with_part (lot_of p) y = c.put_part-taken.ensures
    ∙ ap₂ (λ (n : ℕ) (u : Lot). with_part (lot_of u) (tally c.loop-line.answer (record { lines = n; cost = c.loop-line.taken.cost }))) c.loop-line.invariant.1.lines
    (c.take_part-part.ensures.value ∙ ap (λ (u : Lot). part_of u c.loop-line.left) lot) in
    let turned = row_turns l w.item w.pieces s₁ y₁ c.loop-line.line c.loop-line.left s y p t z c.loop-line.invariant.1 lt c.if-left-eq0.false
    (part_gave l w.item c.loop-line.left c.in-Some.cell s t first more left) line in (
      same_on c.args.memory.now c.loop-line.memory c.take_part-part.new.memory c.loop-line.invariant.0 c.take_part-part.ensures.same,
      wants_turn l c.args.wants.now (words c.args.memory.now) (tally c.args.answer.now c.args.before) c.wants.want-index s₁ y₁ t z c.wants.invariant.1 c.wants-test.true
          (row_ends l w.item w.pieces s₁ y₁ (c.loop-line.line + 1) (c.loop-line.left - p.pieces) t z turned
          (taken_enough (most_lines l - (c.loop-line.line + 1)) l w.item (c.loop-line.left - p.pieces) t (part_all x c.loop-line.left more))),
    )

pub loop-line-preserved : goal.loop-line-preserved
loop-line-preserved c =
    let l : Limits = c.args.memory.now.limits in
    let w : Want = get_or c.args.wants.now c.wants.want-index (want 0 0) in
    let s₁ : State = words c.wants.memory in
    let y₁ : Tally = tally c.wants.answer c.wants.taken in
    let s : State = words c.loop-line.memory in
    let y : Tally = tally c.loop-line.answer c.loop-line.taken in
    let k = c.loop-line.invariant.0.2 in
    let x : Lot = lot_record l c.in-Some.cell s in
    let t : State = words c.free_lot.new.memory in
    let z : Tally = tally c.put_part-taken-in-loop-line.new.answer c.put_part-taken-in-loop-line.result in
    let first : first_lot l w.item s.narrow ≡ Some c.in-Some.cell = let v = c.view.ensures in let e = c.first_lot.ensures in let d = c.in-Some.ensures in cc in
    let lot : c.lot-lot.result ≡ x = let v = c.view-in-loop-line.ensures in let e = c.lot-lot.ensures in cc in
    let lt : c.loop-line.line < most_lines l = omega (arith, c.loop-line-test.true, c.saturating_add-most.ensures) in
    let few : x.pieces ≤ c.loop-line.left = omega (arith, c.if-from-left.false, c.from.ensures, ap (λ (u : Lot). u.pieces) lot) in
    let freed : t ≡ state s.wide (lot_freed l w.item c.in-Some.cell s.narrow) = let e = c.free_lot.ensures in cc in
    let line : z ≡ with_part (lot_of x) y = c.put_part-taken-in-loop-line.ensures
    ∙ ap₂ (λ (n : ℕ) (u : Lot). with_part (lot_of u) (tally c.loop-line.answer (record { lines = n; cost = c.loop-line.taken.cost }))) c.loop-line.invariant.1.lines lot in
    let pieces : c.from-left.result ≡ x.pieces = c.from-left.ensures ∙ ap (λ (u : Lot). u.pieces) lot in (
      same_on c.args.memory.now c.loop-line.memory c.free_lot.new.memory c.loop-line.invariant.0 c.free_lot.ensures.alone.0,
      rw pieces (row_turns l w.item w.pieces s₁ y₁ c.loop-line.line c.loop-line.left s y x t z c.loop-line.invariant.1 lt c.if-left-eq0.false
          (whole_gave l w.item c.loop-line.left c.in-Some.cell s t first few freed) line),
    )

pub wants-preserved : goal.wants-preserved
wants-preserved c =
    let l : Limits = c.args.memory.now.limits in
    let w : Want = get_or c.args.wants.now c.wants.want-index (want 0 0) in
    let s₁ : State = words c.wants.memory in
    let y₁ : Tally = tally c.wants.answer c.wants.taken in
    let s : State = words c.loop-line.memory in
    let y : Tally = tally c.loop-line.answer c.loop-line.taken in
    let over : most_lines l ≤ c.loop-line.line = omega (arith, c.loop-line-test.false, c.saturating_add-most.ensures) in (
      c.loop-line.invariant.0,
      wants_turn l c.args.wants.now (words c.args.memory.now) (tally c.args.answer.now c.args.before) c.wants.want-index s₁ y₁ s y c.wants.invariant.1 c.wants-test.true
          (row_ends l w.item w.pieces s₁ y₁ c.loop-line.line c.loop-line.left s y c.loop-line.invariant.1
          (taken_over (most_lines l) c.loop-line.line l w.item c.loop-line.left s over)),
    )

pub returns : goal.returns
returns c =
    let done = wants_end c.args.memory.now.limits c.args.wants.now (words c.args.memory.now) (tally c.args.answer.now c.args.before) c.wants.want-index
    (words c.wants.memory) (tally c.wants.answer c.wants.taken) c.wants.invariant.1 c.wants-test.false in
    record { words = done.slices; same = c.wants.invariant.0; lines = done.told }
