-- Memory that stands for a firm while a text is answered, and what one line does to it. Definitions only: nothing is assumed.
use Rattle.std.specs.Prelude.{◌≡◌, ℕ, ◌≤◌, List, ◌++◌}
use Rattle.firm.specs.Firm.{Firm}
use Rattle.firm.specs.Calls.{Call, Limits}
use Rattle.firm.specs.Answers.{after, answer, answers, ran}
use Rattle.firm.specs.Statements.{Reached}
use Rattle.layout.specs.Layout.{Good, answer_need}
use Rattle.records.specs.State.{State}
use Rattle.session.specs.Means.{limits_of, Means}
use Rattle.firm.specs.Promise.{whole}
use Rattle.wire.specs.Calls.{Sendable, bytes_of_call}
use Rattle.answer_lines.specs.Shown.{shown}
use Rattle.text.specs.Run.{printed}

-- memory s means the firm f, which calls reach, and so many bytes are room for its answers
pub record Standing (l : Limits) (f : Firm) (s : State) (room : ℕ) : Type 0 where
  pub good : Good (limits_of l)
  pub cans : l.calls_can ≡ whole
  pub reached : Reached l f
  pub means : Means (limits_of l) s f
  pub enough : answer_need (limits_of l) ≤ room

-- the firm afterwards, and what is written behind the text so far
pub record GoneOn (l : Limits) (f : Firm) (s : State) (room : ℕ) (out added end : List ℕ) : Type 0 where
  pub standing : Standing l f s room
  pub text : end ≡ out ++ added

-- what the bytes of a call do, on whatever firm memory stands for
abbrev pub CallDone : List ℕ → State → State → ℕ → List ℕ → List ℕ → Type 0
CallDone row s t room out end =
    (l : Limits) (f : Firm) (c : Call) → Standing l f s room → Sendable c → row ≡ bytes_of_call c → GoneOn l (after l f c) t room out (shown (answer l f c)) end

-- what some calls do
abbrev pub CallsDone : List Call → State → State → ℕ → List ℕ → List ℕ → Type 0
CallsDone cs s t room out end = (l : Limits) (f : Firm) → Standing l f s room → GoneOn l (ran l f cs) t room out (printed (answers l f cs)) end
