-- Books that start again from a journal, or where it stops. Definitions only: nothing is assumed.
use Rattle.std.specs.Prelude.{◌≡◌, ℕ, ◌+◌, ◌-◌, ◌^◌, min, true, List, [], ◌∷◌, ◌++◌, length}
use Rattle.std.specs.List.{flat_map, list_all}
use Rattle.firm.specs.Firm.{Firm, new_firm}
use Rattle.firm.specs.Calls.{Call, Limits, refused}
use Rattle.firm.specs.Answers.{answers, ran}
use Rattle.layout.specs.Layout.{is_good}
use Rattle.layout.specs.declared.limits.Limits as layout
use Rattle.wire.specs.Told.{refusal_number}
use Rattle.text.specs.Books.{Keeps}
use Rattle.text.specs.Lines.{heard, lines}
use Rattle.text.specs.Run.{books_limits, calls_in, calls, failure}
use Rattle.text.specs.Statements.{taken}
use Rattle.text.specs.declared.books.Books.{Books}
use Rattle.journal.specs.declared.error.ReplayError.{ReplayError}
use Rattle.journal.specs.declared.error.ReplayError.TheVariants.{Turned, Run}

-- no call is turned away
abbrev pub AllTaken : Limits → Firm → List Call → Type 0
AllTaken l f cs = list_all taken (answers l f cs) ≡ true

-- each call of the journal was taken, and the books are as they leave them
abbrev pub Replayed : layout.Limits → List ℕ → Books → Type 0
Replayed l journal b =
    (is_good l ≡ true) × AllTaken (books_limits l) new_firm (calls journal) × Keeps (books_limits l) (ran (books_limits l) new_firm (calls journal)) b

-- IT STOPS at the line with this number: the calls of the lines before it are taken, and its call is turned away
pub record Stops (l : Limits) (journal : List ℕ) (n : ℕ) (by place : ℕ) : Type 0 where
  pub before : List (List ℕ)
  pub line : List ℕ
  pub behind : List (List ℕ)
  pub stands : lines journal ≡ before ++ line ∷ behind
  pub number : n ≡ min (2 ^ 64 - 1) (length before + 1)
  pub taken : AllTaken l new_firm (calls_in (flat_map heard before))
  pub turned : answers l (ran l new_firm (calls_in (flat_map heard before))) (calls_in (heard line)) ≡ refused by place ∷ []

abbrev pub NotReplayed : layout.Limits → List ℕ → ReplayError → Type 0
NotReplayed l journal (Turned n r p) = (is_good l ≡ true) × Stops (books_limits l) journal n (refusal_number r) p
NotReplayed l journal (Run e) = e ≡ failure l
