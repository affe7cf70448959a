use Rattle.std.proofs.Common.{◌≡◌, ℕ, ◌∷◌, ◌++◌, [], map, refl, sym, ap, ◌∙◌, subst, rules, tests}
use Rattle.std.proofs.lemmas.List.{map-append}
use Rattle.std.specs.Slice.Iter.{split_rest, split_done, split_callee}
use Rattle.session.specs.Held.{room_of}
use Rattle.text.specs.Books.{memory_of}
use Rattle.text.specs.Lines.{heard}
use Rattle.text.specs.Noting.{CallsNoted}
use Rattle.text.specs.Run.{calls_in}
use Rattle.text.specs.Standing.{CallsDone}
use Rattle.text.proofs.Going.{calls_after, begins, goes_on, ends}
use Rattle.text.proofs.Noting.{counting_begins, counting_goes_on, counting_ends}
use Rattle.text.proofs.Splitting.{all_lines}
use Rattle.text.proofs.books.Books.answer_lines.Goals as goal

pub loop-line-init : goal.loop-line-init
loop-line-init c = (
  begins (memory_of c.args.self.now) (room_of c.args.self.now.held) c.args.out.now.items,
  counting_begins (memory_of c.args.self.now) (room_of c.args.self.now.held) c.args.self.now.tally,
  refl,
)

pub loop-line-preserved : goal.loop-line-preserved
loop-line-preserved c =
    let room = room_of c.args.self.now.held in
    let so_far = map (λ x. x.now) c.loop-line.yielded in
    let more : map (λ x. x.now) (c.loop-line.yielded ++ c.in-Some.line ∷ []) ≡ so_far ++ c.in-Some.line.now ∷ [] = map-append (λ x. x.now) c.loop-line.yielded (c.in-Some.line ∷ []) in
    let done =
    subst (λ (r : ℕ). CallsDone (calls_in (heard c.in-Some.line.now)) (memory_of c.loop-line.self) (memory_of c.answer_if_heard.new.self) r c.loop-line.out.items c.answer_if_heard.new.out.items)
    c.loop-line.invariant.2 c.in_ok-answer_if_heard.ensures.done in
    let counted =
    subst (λ (r : ℕ). CallsNoted (calls_in (heard c.in-Some.line.now)) (memory_of c.loop-line.self) r c.loop-line.self.tally c.answer_if_heard.new.self.tally) c.loop-line.invariant.2
    c.in_ok-answer_if_heard.ensures.counted in (
      subst (λ ls. CallsDone (calls_after ls) (memory_of c.args.self.now) (memory_of c.answer_if_heard.new.self) room c.args.out.now.items c.answer_if_heard.new.out.items) (sym more)
          (goes_on so_far c.in-Some.line.now (memory_of c.args.self.now) (memory_of c.loop-line.self) (memory_of c.answer_if_heard.new.self) room c.args.out.now.items c.loop-line.out.items
          c.answer_if_heard.new.out.items c.loop-line.invariant.0 done),
      subst (λ ls. CallsNoted (calls_after ls) (memory_of c.args.self.now) room c.args.self.now.tally c.answer_if_heard.new.self.tally) (sym more)
          (counting_goes_on so_far c.in-Some.line.now (memory_of c.args.self.now) (memory_of c.loop-line.self) room c.args.out.now.items c.loop-line.out.items
          c.args.self.now.tally c.loop-line.self.tally c.answer_if_heard.new.self.tally c.loop-line.invariant.0 c.loop-line.invariant.1 counted),
      c.in_ok-answer_if_heard.ensures.room ∙ c.loop-line.invariant.2,
    )

pub returns-clause-done : goal.returns-clause-done
returns-clause-done c =
    let gives = c.into_iter-line-iterator.ensures.into_iter_gives in
    let all =
    all_lines _ c.args.text.now c.loop-line.yielded _ c.loop-line.yielded_by _ _ c.in-None.is c.next.ensures.steps
    (ap split_rest gives ∙ c.split-line-items.ensures.rest) (ap split_done gives ∙ c.split-line-items.ensures.done) (ap split_callee gives ∙ c.split-line-items.ensures.closure) (λ x b q k. search (rules, tests)) in
    ends c.args.text.now (map (λ x. x.now) c.loop-line.yielded) (memory_of c.args.self.now) (memory_of c.loop-line.self) (room_of c.args.self.now.held) c.args.out.now.items c.loop-line.out.items all c.loop-line.invariant.0

pub returns-clause-counted : goal.returns-clause-counted
returns-clause-counted c =
    let gives = c.into_iter-line-iterator.ensures.into_iter_gives in
    let all =
    all_lines _ c.args.text.now c.loop-line.yielded _ c.loop-line.yielded_by _ _ c.in-None.is c.next.ensures.steps
    (ap split_rest gives ∙ c.split-line-items.ensures.rest) (ap split_done gives ∙ c.split-line-items.ensures.done) (ap split_callee gives ∙ c.split-line-items.ensures.closure) (λ x b q k. search (rules, tests)) in
    counting_ends c.args.text.now (map (λ x. x.now) c.loop-line.yielded) (memory_of c.args.self.now) (room_of c.args.self.now.held) c.args.self.now.tally c.loop-line.self.tally all c.loop-line.invariant.1
