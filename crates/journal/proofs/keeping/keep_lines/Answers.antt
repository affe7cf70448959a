use Rattle.std.proofs.Common.{◌≡◌, ℕ, ◌∷◌, ◌++◌, [], map, refl, sym, ap, ◌∙◌, subst, rules, tests}
use Rattle.std.proofs.lemmas.List.{map-append}
use Rattle.std.specs.Slice.Iter.{split_rest, split_done, split_callee}
use Rattle.session.specs.Held.{room_of}
use Rattle.text.specs.Books.{memory_of}
use Rattle.text.specs.Lines.{heard}
use Rattle.text.specs.Noting.{CallsNoted}
use Rattle.text.specs.Run.{calls_in}
use Rattle.text.specs.Standing.{CallsDone}
use Rattle.text.proofs.Going.{calls_after, begins, goes_on, ends}
use Rattle.text.proofs.Noting.{counting_begins, counting_goes_on, counting_ends}
use Rattle.text.proofs.Splitting.{all_lines}
use Rattle.journal.specs.Keeping.{CallsKept}
use Rattle.journal.proofs.Kept.{keeping_begins, keeping_goes_on, keeping_ends}
use Rattle.journal.proofs.keeping.keep_lines.Goals as goal

pub loop-line-init : goal.loop-line-init
loop-line-init c = (
  begins (memory_of c.args.books.now) (room_of c.args.books.now.held) c.args.out.now.items,
  counting_begins (memory_of c.args.books.now) (room_of c.args.books.now.held) c.args.books.now.tally,
  refl,
  keeping_begins (memory_of c.args.books.now) (room_of c.args.books.now.held) c.args.kept.now.items,
)

pub loop-line-preserved : goal.loop-line-preserved
loop-line-preserved c =
    let room = room_of c.args.books.now.held in
    let so_far = map (λ x. x.now) c.loop-line.yielded in
    let more : map (λ x. x.now) (c.loop-line.yielded ++ c.in-Some.line ∷ []) ≡ so_far ++ c.in-Some.line.now ∷ [] = map-append (λ x. x.now) c.loop-line.yielded (c.in-Some.line ∷ []) in
    let held = c.loop-line.invariant.2 in
    let done =
    subst (λ (r : ℕ). CallsDone (calls_in (heard c.in-Some.line.now)) (memory_of c.loop-line.books) (memory_of c.keep_line.new.books) r c.loop-line.out.items c.keep_line.new.out.items)
    held c.in_ok-keep_line.ensures.done in
    let counted =
    subst (λ (r : ℕ). CallsNoted (calls_in (heard c.in-Some.line.now)) (memory_of c.loop-line.books) r c.loop-line.books.tally c.keep_line.new.books.tally) held
    c.in_ok-keep_line.ensures.counted in
    let kept =
    subst (λ (r : ℕ). CallsKept (calls_in (heard c.in-Some.line.now)) (memory_of c.loop-line.books) r c.loop-line.kept.items c.keep_line.new.kept.items) held
    c.in_ok-keep_line.ensures.kept in (
      subst (λ ls. CallsDone (calls_after ls) (memory_of c.args.books.now) (memory_of c.keep_line.new.books) room c.args.out.now.items c.keep_line.new.out.items) (sym more)
          (goes_on so_far c.in-Some.line.now (memory_of c.args.books.now) (memory_of c.loop-line.books) (memory_of c.keep_line.new.books) room c.args.out.now.items c.loop-line.out.items
          c.keep_line.new.out.items c.loop-line.invariant.0 done),
      subst (λ ls. CallsNoted (calls_after ls) (memory_of c.args.books.now) room c.args.books.now.tally c.keep_line.new.books.tally) (sym more)
          (counting_goes_on so_far c.in-Some.line.now (memory_of c.args.books.now) (memory_of c.loop-line.books) room c.args.out.now.items c.loop-line.out.items
          c.args.books.now.tally c.loop-line.books.tally c.keep_line.new.books.tally c.loop-line.invariant.0 c.loop-line.invariant.1 counted),
      c.in_ok-keep_line.ensures.room ∙ held,
      subst (λ ls. CallsKept (calls_after ls) (memory_of c.args.books.now) room c.args.kept.now.items c.keep_line.new.kept.items) (sym more)
          (keeping_goes_on so_far c.in-Some.line.now (memory_of c.args.books.now) (memory_of c.loop-line.books) room c.args.out.now.items c.loop-line.out.items
          c.args.kept.now.items c.loop-line.kept.items c.keep_line.new.kept.items c.loop-line.invariant.0 c.loop-line.invariant.3 kept),
    )

pub returns-clause-done : goal.returns-clause-done
returns-clause-done c =
    let gives = c.into_iter-line-iterator.ensures.into_iter_gives in
    let all =
    all_lines _ c.args.text.now c.loop-line.yielded _ c.loop-line.yielded_by _ _ c.in-None.is c.next.ensures.steps
    (ap split_rest gives ∙ c.split-line-items.ensures.rest) (ap split_done gives ∙ c.split-line-items.ensures.done) (ap split_callee gives ∙ c.split-line-items.ensures.closure) (λ x b q k. search (rules, tests)) in
    ends c.args.text.now (map (λ x. x.now) c.loop-line.yielded) (memory_of c.args.books.now) (memory_of c.loop-line.books) (room_of c.args.books.now.held) c.args.out.now.items c.loop-line.out.items all c.loop-line.invariant.0

pub returns-clause-counted : goal.returns-clause-counted
returns-clause-counted c =
    let gives = c.into_iter-line-iterator.ensures.into_iter_gives in
    let all =
    all_lines _ c.args.text.now c.loop-line.yielded _ c.loop-line.yielded_by _ _ c.in-None.is c.next.ensures.steps
    (ap split_rest gives ∙ c.split-line-items.ensures.rest) (ap split_done gives ∙ c.split-line-items.ensures.done) (ap split_callee gives ∙ c.split-line-items.ensures.closure) (λ x b q k. search (rules, tests)) in
    counting_ends c.args.text.now (map (λ x. x.now) c.loop-line.yielded) (memory_of c.args.books.now) (room_of c.args.books.now.held) c.args.books.now.tally c.loop-line.books.tally all c.loop-line.invariant.1

pub returns-clause-kept : goal.returns-clause-kept
returns-clause-kept c =
    let gives = c.into_iter-line-iterator.ensures.into_iter_gives in
    let all =
    all_lines _ c.args.text.now c.loop-line.yielded _ c.loop-line.yielded_by _ _ c.in-None.is c.next.ensures.steps
    (ap split_rest gives ∙ c.split-line-items.ensures.rest) (ap split_done gives ∙ c.split-line-items.ensures.done) (ap split_callee gives ∙ c.split-line-items.ensures.closure) (λ x b q k. search (rules, tests)) in
    keeping_ends c.args.text.now (map (λ x. x.now) c.loop-line.yielded) (memory_of c.args.books.now) (room_of c.args.books.now.held) c.args.kept.now.items c.loop-line.kept.items all c.loop-line.invariant.3
