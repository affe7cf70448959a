-- What is kept of the calls of a text, and what going through it again gives. Definitions only: nothing is assumed.
use Rattle.std.specs.Prelude.{◌≡◌, ℕ, List, [], ◌∷◌, ◌++◌}
use Rattle.firm.specs.Firm.{Firm, new_firm}
use Rattle.firm.specs.Calls.{Call, Limits}
use Rattle.firm.specs.Answers.{ran}
use Rattle.firm.specs.Journal.{documents_of}
use Rattle.records.specs.State.{State}
use Rattle.wire.specs.Calls.{Sendable}
use Rattle.text.specs.Books.{Keeps, Answered}
use Rattle.text.specs.Run.{calls}
use Rattle.text.specs.Standing.{Standing}
use Rattle.text.specs.declared.books.Books.{Books}
use Rattle.journal.specs.Documents.{document_lines}
use Rattle.journal.specs.Torn.{Whole}

-- calls that bytes can carry, each
abbrev pub AllSendable : List Call → Type 0
AllSendable [] = Unit {0}
AllSendable (c ∷ cs) = Sendable c × AllSendable cs

-- what is kept of some calls, on whatever firm memory stands for: the lines of the documents among them
pub record Kept (l : Limits) (f : Firm) (cs : List Call) (kept kept' : List ℕ) : Type 0 where
  pub lines : kept' ≡ kept ++ document_lines (documents_of l f cs)
  pub sendable : AllSendable (documents_of l f cs)

abbrev pub CallsKept : List Call → State → ℕ → List ℕ → List ℕ → Type 0
CallsKept cs s room kept kept' = (l : Limits) (f : Firm) → Standing l f s room → Kept l f cs kept kept'

-- AFTER A RESTART the books are as before it: where going through a journal, with what is kept so far behind it, gave new books the firm that these
-- books keep, it does so with what is kept now
abbrev pub Restarts : Books → Books → List ℕ → List ℕ → Type 0
Restarts b b' kept kept' =
    (l : Limits) (journal : List ℕ) → Whole (journal ++ kept) → Keeps l (ran l new_firm (calls (journal ++ kept))) b →
    Whole (journal ++ kept') × Keeps l (ran l new_firm (calls (journal ++ kept'))) b'

-- the calls of a text are answered, the lines of just the documents among them are kept, and books start again from these
pub record Journaled (text : List ℕ) (b b' : Books) (out out' kept kept' : List ℕ) : Type 0 where
  pub answered : Answered text b b' out out'
  pub keeps : (l : Limits) (f : Firm) → Keeps l f b → kept' ≡ kept ++ document_lines (documents_of l f (calls text))
  pub restarts : Restarts b b' kept kept'
