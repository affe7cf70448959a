use Rattle.std.proofs.Common.{◌≡◌, ◌^◌, ◌<◌, [], ◌∷◌, ◌++◌, length, sym, refl, ap, ◌∙◌, subst, arith}
use Rattle.call_lines.specs.Lines.{call_or_place, call_in_line}
use Rattle.session.specs.Held.{room_of}
use Rattle.text.specs.Books.{memory_of}
use Rattle.text.specs.Fates.{CallsFated, AtHand}
use Rattle.text.specs.Noting.{CallsNoted}
use Rattle.text.specs.Standing.{CallsDone}
use Rattle.text.specs.declared.books.Books.{Books}
use Rattle.text.proofs.Fated.{call_fated, call_at_hand, misfit_fated, refused_at_hand}
use Rattle.text.proofs.Lined.{call_line, misfit_line}
use Rattle.text.proofs.Noting.{call_noted, misfit_noted}
use Rattle.text.proofs.Sent.{sendable, misfit}
use Rattle.text.proofs.books.Books.answer_line.Goals as goal
use Rattle.text.proofs.books.Books.answer_line.Goals.{in-Ok+in_ok-fate-in-Ok, in-Err-Misfit+in_ok-put_misfit-in-Err-Misfit}

pub returns-clause-done : goal.returns-clause-done
returns-clause-done c =
    elim c.match-read_line.branch [
      | in-Ok+in_ok-fate-in-Ok w ↦
          let small : length c.args.line.now < 2 ^ 64 = omega arith in
          let send = sendable c.args.line.now (call_or_place c.args.line.now) refl small w.in-Ok.ensures.reading in
          subst (λ (b : Books). CallsDone (call_in_line c.args.line.now ∷ []) (memory_of c.args.self.now) (memory_of b) (room_of c.args.self.now.held) c.args.out.now.items c.push.new.self.items) (sym w.self-is)
          (call_line c.args.line.now c.read_line.new.call.items (memory_of c.args.self.now) (memory_of w.answer_call.new.self) (room_of c.args.self.now.held)
          c.args.out.now.items w.answer_call.new.out.items c.push.new.self.items w.in_ok-fate-in-Ok.ensures.done w.in-Ok.ensures.bytes send
          (c.in_ok-push.ensures.items ∙ ap (λ o. o.items ++ (10 ∷ [])) w.out-is))
      | in-Err-Misfit+in_ok-put_misfit-in-Err-Misfit w ↦
          let is = misfit c.args.line.now (call_or_place c.args.line.now) w.in-Err-Misfit.place refl (rw w.in-Err-Misfit.field-0-is at w.in-Err-Misfit.ensures.reading) in
          subst (λ (b : Books). CallsDone (call_in_line c.args.line.now ∷ []) (memory_of c.args.self.now) (memory_of b) (room_of c.args.self.now.held) c.args.out.now.items c.push.new.self.items) (sym w.self-is)
          (misfit_line c.args.line.now (memory_of c.args.self.now) (room_of c.args.self.now.held) w.in-Err-Misfit.place
          c.args.out.now.items w.put_misfit.new.out.items c.push.new.self.items is
          w.in_ok-put_misfit-in-Err-Misfit.ensures.done (c.in_ok-push.ensures.items ∙ ap (λ o. o.items ++ (10 ∷ [])) w.out-is))
    ]

pub returns-clause-counted : goal.returns-clause-counted
returns-clause-counted c =
    elim c.match-read_line.branch [
      | in-Ok+in_ok-fate-in-Ok w ↦
          let small : length c.args.line.now < 2 ^ 64 = omega arith in
          let send = sendable c.args.line.now (call_or_place c.args.line.now) refl small w.in-Ok.ensures.reading in
          subst (λ (b : Books). CallsNoted (call_in_line c.args.line.now ∷ []) (memory_of c.args.self.now) (room_of c.args.self.now.held) c.args.self.now.tally b.tally) (sym w.self-is)
          (call_noted c.args.line.now c.read_line.new.call.items (memory_of c.args.self.now) (room_of c.args.self.now.held) c.args.self.now.tally w.answer_call.new.self.tally
          w.in_ok-fate-in-Ok.ensures.counted w.in-Ok.ensures.bytes send)
      | in-Err-Misfit+in_ok-put_misfit-in-Err-Misfit w ↦
          let is = misfit c.args.line.now (call_or_place c.args.line.now) w.in-Err-Misfit.place refl (rw w.in-Err-Misfit.field-0-is at w.in-Err-Misfit.ensures.reading) in
          subst (λ (b : Books). CallsNoted (call_in_line c.args.line.now ∷ []) (memory_of c.args.self.now) (room_of c.args.self.now.held) c.args.self.now.tally b.tally) (sym w.self-is)
          (misfit_noted c.args.line.now (memory_of c.args.self.now) (room_of c.args.self.now.held) w.in-Err-Misfit.place c.args.self.now.tally w.put_misfit.new.tally is w.in_ok-put_misfit-in-Err-Misfit.ensures.counted)
    ]

pub returns-clause-fated : goal.returns-clause-fated
returns-clause-fated c =
    elim c.match-read_line.branch [
      | in-Ok+in_ok-fate-in-Ok w ↦
          let small : length c.args.line.now < 2 ^ 64 = omega arith in
          let send = sendable c.args.line.now (call_or_place c.args.line.now) refl small w.in-Ok.ensures.reading in
          subst (CallsFated (call_in_line c.args.line.now ∷ []) (memory_of c.args.self.now) (room_of c.args.self.now.held)) (sym w.fate-is)
          (call_fated c.args.line.now c.read_line.new.call.items (memory_of c.args.self.now) (room_of c.args.self.now.held) w.in_ok-fate-in-Ok.fate w.in_ok-fate-in-Ok.ensures.fated w.in-Ok.ensures.bytes send)
      | in-Err-Misfit+in_ok-put_misfit-in-Err-Misfit w ↦
          let is = misfit c.args.line.now (call_or_place c.args.line.now) w.in-Err-Misfit.place refl (rw w.in-Err-Misfit.field-0-is at w.in-Err-Misfit.ensures.reading) in
          subst (CallsFated (call_in_line c.args.line.now ∷ []) (memory_of c.args.self.now) (room_of c.args.self.now.held)) (sym w.fate-is)
          (misfit_fated c.args.line.now (memory_of c.args.self.now) (room_of c.args.self.now.held) w.in-Err-Misfit.place is)
    ]

pub returns-clause-at_hand : goal.returns-clause-at_hand
returns-clause-at_hand c =
    elim c.match-read_line.branch [
      | in-Ok+in_ok-fate-in-Ok w ↦
          let small : length c.args.line.now < 2 ^ 64 = omega arith in
          let send = sendable c.args.line.now (call_or_place c.args.line.now) refl small w.in-Ok.ensures.reading in
          let same : c.match-read_line.self.call.items ≡ c.read_line.new.call.items = ap (λ (b : Books). b.call.items) w.self-is ∙ ap (λ v. v.items) w.in_ok-fate-in-Ok.ensures.at_hand in
          call_at_hand c.args.line.now c.match-read_line.self.call.items c.match-read_line.fate (same ∙ w.in-Ok.ensures.bytes) send
      | in-Err-Misfit+in_ok-put_misfit-in-Err-Misfit w ↦
          subst (AtHand (call_in_line c.args.line.now ∷ []) c.match-read_line.self.call.items) (sym w.fate-is) (refused_at_hand (call_in_line c.args.line.now ∷ []) c.match-read_line.self.call.items w.in-Err-Misfit.place)
    ]
