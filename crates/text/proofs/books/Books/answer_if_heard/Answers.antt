use Rattle.std.proofs.Common.{◌≡◌, ℕ, true, false, List, [], ◌∷◌, ap, sym, ◌∙◌, subst, OnOk}
use Rattle.std.proofs.lemmas.Bool.{cond-false}
use Rattle.firm.specs.Calls.{Call}
use Rattle.call_lines.specs.Lines.{call_in_line}
use Rattle.session.specs.Held.{room_of}
use Rattle.text.specs.Books.{memory_of}
use Rattle.text.specs.Lines.{quiet, bare, heard}
use Rattle.text.specs.Run.{calls_in}
use Rattle.text.specs.Standing.{CallsDone}
use Rattle.text.proofs.Fated.{quiet_fated}
use Rattle.text.proofs.Lined.{quiet_line}
use Rattle.text.proofs.Noting.{quiet_noted}
use Rattle.text.proofs.books.Books.answer_if_heard.Goals as goal

pub returns-then-is_quiet-clause-done : goal.returns-then-is_quiet-clause-done
returns-then-is_quiet-clause-done c =
    let silent : quiet (bare c.args.line.now) ≡ true = subst (λ s. quiet s ≡ true) c.bare-line.ensures (sym c.if-is_quiet.ensures) in
    quiet_line c.args.line.now (memory_of c.args.self.now) (room_of c.args.self.now.held) c.args.out.now.items silent

pub returns-then-is_quiet-clause-counted : goal.returns-then-is_quiet-clause-counted
returns-then-is_quiet-clause-counted c =
    let silent : quiet (bare c.args.line.now) ≡ true = subst (λ s. quiet s ≡ true) c.bare-line.ensures (sym c.if-is_quiet.ensures) in
    quiet_noted c.args.line.now (memory_of c.args.self.now) (room_of c.args.self.now.held) c.args.self.now.tally silent

pub returns-then-is_quiet-clause-fated : goal.returns-then-is_quiet-clause-fated
returns-then-is_quiet-clause-fated c =
    let silent : quiet (bare c.args.line.now) ≡ true = subst (λ s. quiet s ≡ true) c.bare-line.ensures (sym c.if-is_quiet.ensures) in
    quiet_fated c.args.line.now (memory_of c.args.self.now) (room_of c.args.self.now.held) silent

pub returns-clause-done : goal.returns-clause-done
returns-clause-done c =
    let loud : quiet (bare c.args.line.now) ≡ false = subst (λ s. quiet s ≡ false) c.bare-line.ensures (sym c.if-is_quiet.ensures) in
    let one : calls_in (heard c.args.line.now) ≡ call_in_line c.bare-line.result.now ∷ [] =
    ap calls_in (cond-false (quiet (bare c.args.line.now)) [] (bare c.args.line.now ∷ []) loud) ∙ ap (λ (s : List ℕ). call_in_line s ∷ []) (sym c.bare-line.ensures) in
    subst (λ (cs : List Call). OnOk c.answer_line.result (CallsDone cs (memory_of c.args.self.now) (memory_of c.answer_line.new.self) (room_of c.args.self.now.held) c.args.out.now.items c.answer_line.new.out.items)) (sym one)
    c.answer_line.ensures.done
