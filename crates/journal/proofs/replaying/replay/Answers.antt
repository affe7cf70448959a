use Rattle.std.proofs.Common.{◌≡◌, ℕ, ◌+◌, ◌-◌, ◌^◌, min, map, [], ◌∷◌, ◌++◌, length, drop, refl, sym, ap, ◌∙◌, subst, rules, tests, length-append}
use Rattle.std.proofs.lemmas.List.{map-append, length-map}
use Rattle.std.specs.Slice.Iter.{split_rest, split_done, split_callee}
use Rattle.firm.specs.Answers.{answers, ran}
use Rattle.firm.specs.Firm.{new_firm}
use Rattle.session.specs.Held.{room_of}
use Rattle.text.specs.Books.{memory_of}
use Rattle.text.specs.Fates.{TellsLine}
use Rattle.text.specs.Lines.{heard, lines}
use Rattle.text.specs.Run.{books_limits, calls_in}
use Rattle.text.specs.Standing.{Standing}
use Rattle.text.proofs.Going.{calls_after}
use Rattle.text.proofs.Splitting.{all_lines}
use Rattle.journal.specs.Replaying.{AllTaken}
use Rattle.journal.proofs.Replays.{line_there, all_taken_more, stands_more, counted_more}
use Rattle.journal.proofs.replaying.replay.Goals as goal

pub loop-line-init : goal.loop-line-init
unfolding answers ran
loop-line-init c = (c.in_ok-books.ensures.1.keeps, refl, refl)

pub loop-line-preserved : goal.loop-line-preserved
loop-line-preserved c =
    let l = books_limits c.args.limits in
    let ls = map (λ x. x.now) c.loop-line.yielded in
    let line = c.in-Some.line.now in
    let more : map (λ x. x.now) (c.loop-line.yielded ++ c.in-Some.line ∷ []) ≡ ls ++ line ∷ [] = map-append (λ x. x.now) c.loop-line.yielded (c.in-Some.line ∷ []) in
    let e = c.in_ok-refusal.ensures in
    let b' = c.answer_if_heard.new.self in
    let stands = stands_more l ls line (memory_of c.loop-line.books) (memory_of b') (room_of c.loop-line.books.held) _ _ c.loop-line.invariant.0 e.done in (
      subst (λ xs. Standing l (ran l new_firm (calls_after xs)) (memory_of b') (room_of b'.held)) (sym more)
          (subst (λ (r : ℕ). Standing l (ran l new_firm (calls_after (ls ++ line ∷ []))) (memory_of b') r) (sym e.room) stands),
      subst (λ xs. AllTaken l new_firm (calls_after xs)) (sym more)
          (all_taken_more l ls line (memory_of c.loop-line.books) (room_of c.loop-line.books.held) c.in_ok-refusal.field-0 c.loop-line.invariant.0 c.loop-line.invariant.1 c.in_default.not-Refused e.fated),
      c.saturating_add-number.ensures ∙ counted_more c.loop-line.number (length c.loop-line.yielded) c.loop-line.invariant.2
          ∙ ap (λ (n : ℕ). min (2 ^ 64 - 1) n) (sym (length-append c.loop-line.yielded (c.in-Some.line ∷ []))),
    )

pub returns-in-Refused : goal.returns-in-Refused
returns-in-Refused c =
    let l = books_limits c.args.limits in
    let gives = c.into_iter-line-iterator.ensures.into_iter_gives in
    let told = subst (λ f. TellsLine f (answers l (ran l new_firm (calls_after (map (λ x. x.now) c.loop-line.yielded))) (calls_in (heard c.in-Some.line.now)))) c.in-Refused.is
    (c.in_ok-refusal.ensures.fated l (ran l new_firm (calls_after (map (λ x. x.now) c.loop-line.yielded))) c.loop-line.invariant.0) in (
      c.in_ok-books.ensures.0,
      record {
        before = map (λ x. x.now) c.loop-line.yielded;
        line = c.in-Some.line.now;
        behind = drop (length c.loop-line.yielded + 1) (lines c.args.journal.now);
        stands =
            line_there _ c.args.journal.now c.loop-line.yielded _ c.loop-line.yielded_by _ _ c.in-Some.line c.in-Some.is c.next.ensures.steps
            (ap split_rest gives ∙ c.split-line-items.ensures.rest) (ap split_done gives ∙ c.split-line-items.ensures.done) (ap split_callee gives ∙ c.split-line-items.ensures.closure) (λ x b q k. search (rules, tests));
        number =
            c.saturating_add-number.ensures ∙ counted_more c.loop-line.number (length c.loop-line.yielded) c.loop-line.invariant.2
            ∙ ap (λ (n : ℕ). min (2 ^ 64 - 1) (n + 1)) (sym (length-map c.loop-line.yielded (λ x. x.now)));
        taken = c.loop-line.invariant.1;
        turned = told;
      },
    )

pub returns : goal.returns
returns c =
    let l = books_limits c.args.limits in
    let gives = c.into_iter-line-iterator.ensures.into_iter_gives in
    let all =
    all_lines _ c.args.journal.now c.loop-line.yielded _ c.loop-line.yielded_by _ _ c.in-None.is c.next.ensures.steps
    (ap split_rest gives ∙ c.split-line-items.ensures.rest) (ap split_done gives ∙ c.split-line-items.ensures.done) (ap split_callee gives ∙ c.split-line-items.ensures.closure) (λ x b q k. search (rules, tests)) in (
      c.in_ok-books.ensures.0,
      subst (λ xs. AllTaken l new_firm (calls_after xs)) all c.loop-line.invariant.1,
      subst (λ xs. Standing l (ran l new_firm (calls_after xs)) (memory_of c.loop-line.books) (room_of c.loop-line.books.held)) all c.loop-line.invariant.0,
    )
