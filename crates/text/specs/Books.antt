-- Books in memory of their own: what they keep, and what a text of calls does to them. Definitions only: nothing is assumed.
use Rattle.std.specs.Prelude.{◌≡◌, ℕ, List, ◌++◌}
use Rattle.firm.specs.Firm.{Firm, new_firm}
use Rattle.firm.specs.Calls.{Call, Limits}
use Rattle.firm.specs.Answers.{answers, ran}
use Rattle.layout.specs.declared.limits.Limits as layout
use Rattle.records.specs.State.{State}
use Rattle.session.specs.Held.{words_of, room_of}
use Rattle.text.specs.Run.{books_limits, calls, printed}
use Rattle.text.specs.Standing.{Standing}
use Rattle.text.specs.Tallies.{no_tally, tallied}
use Rattle.text.specs.declared.books.Books.{Books}

abbrev pub memory_of : Books → State
memory_of b = words_of b.held

-- the books keep the firm f: their memory stands for it, and has room for its answers
abbrev pub Keeps : Limits → Firm → Books → Type 0
Keeps l f b = Standing l f (memory_of b) (room_of b.held)

-- books that have taken no call yet
pub record New (l : layout.Limits) (b : Books) : Type 0 where
  pub keeps : Keeps (books_limits l) new_firm b
  pub tally : b.tally ≡ no_tally

-- some calls on the firm f: the firm that they leave is kept, and what they are answered is written behind what was there, and counted
pub record Done (l : Limits) (f : Firm) (cs : List Call) (b b' : Books) (out out' : List ℕ) : Type 0 where
  pub keeps : Keeps l (ran l f cs) b'
  pub text : out' ≡ out ++ printed (answers l f cs)
  pub tally : b'.tally ≡ tallied b.tally (answers l f cs)

-- ONE TEXT AFTER ANOTHER: whatever firm the books kept, the calls of the text are done on it
abbrev pub Answered : List ℕ → Books → Books → List ℕ → List ℕ → Type 0
Answered text b b' out out' = (l : Limits) (f : Firm) → Keeps l f b → Done l f (calls text) b b' out out'
