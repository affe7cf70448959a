-- Lines that come one after the other, and their answers, where the bytes that a reader has left and those that a writer holds are known. Definitions
-- only: nothing is assumed.
use Rattle.std.specs.Prelude.{◌≡◌, ◌⊎◌, ℕ, Bool, true, false, List, [], ◌++◌, Some, IfSome, Option}
use Rattle.std.specs.Io.BufRead.{take_through, drop_through}
use Rattle.std.specs.Io.KnownBytes.{Appends, IsAtEnd}
use Rattle.firm.specs.Firm.{Firm}
use Rattle.firm.specs.Calls.{Call, Limits}
use Rattle.firm.specs.Answers.{answers, ran}
use Rattle.text.specs.Books.{Keeps, Answered}
use Rattle.text.specs.Run.{calls, printed}
use Rattle.text.specs.Tallies.{tallied}
use Rattle.text.specs.declared.books.Books.{Books}

-- a piece of what is left is answered: its calls and those of the rest are the calls of all
pub record Next (xs : List ℕ) (left' : Option (List ℕ)) (b b' : Books) (out out' : List ℕ) : Type 0 where
  pub piece : List ℕ
  pub rest : List ℕ
  pub cut : calls xs ≡ calls piece ++ calls rest
  pub left : left' ≡ Some rest
  pub answered : Answered piece b b' out out'

-- a line came and is answered, with its line feed, or none came
abbrev pub CameAnswered : Option (List ℕ) → Option (List ℕ) → Books → Books → List ℕ → List ℕ → Bool → Type 0
CameAnswered left left' b b' out out' true = IfSome left (λ xs. (left' ≡ Some (drop_through 10 xs)) × Answered (take_through 10 xs) b b' out out')
CameAnswered left left' b b' out out' false = IsAtEnd left × (b' ≡ b) × (out' ≡ out)

-- there was a line more at least, or nothing was left
abbrev pub NextAnswered : Option (List ℕ) → Option (List ℕ) → Books → Books → List ℕ → List ℕ → Bool → Type 0
NextAnswered left left' b b' out out' true = IfSome left (λ xs. Next xs left' b b' out out')
NextAnswered left left' b b' out out' false = IsAtEnd left × (b' ≡ b) × (out' ≡ out)

-- answers that are held back are written, or nothing is
abbrev pub Put : Option (List ℕ) → Option (List ℕ) → List ℕ → List ℕ → Type 0
Put out out' held held' = (Appends out out' held × (held' ≡ [])) ⊎ ((out' ≡ out) × (held' ≡ held))

-- some calls on the firm f: the firm that they leave is kept, what they are answered is written behind what was there, and counted
pub record Written (l : Limits) (f : Firm) (cs : List Call) (b b' : Books) (out out' : Option (List ℕ)) : Type 0 where
  pub keeps : Keeps l (ran l f cs) b'
  pub text : Appends out out' (printed (answers l f cs))
  pub tally : b'.tally ≡ tallied b.tally (answers l f cs)

-- A STREAM TO ITS END: whatever firm the books kept, the calls of all that the reader had left are done on it, as those of a text are
abbrev pub Streamed : Option (List ℕ) → Books → Books → Option (List ℕ) → Option (List ℕ) → Type 0
Streamed left b b' out out' = IfSome left (λ text. (l : Limits) (f : Firm) → Keeps l f b → Written l f (calls text) b b' out out')
