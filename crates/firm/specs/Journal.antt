-- THE JOURNAL of some calls: the documents among them, in their order. Definitions only: nothing is assumed.
use Rattle.std.specs.Prelude.{◌≡◌, ◌+◌, Bool, true, false, ◌&&◌, not, List, [], ◌∷◌, length, ◌==◌}
use Rattle.firm.specs.Stock.{pick}
use Rattle.firm.specs.Firm.{Firm}
use Rattle.firm.specs.Calls.{Call, buys, sells, comes, goes, billed_by, bills, pays_out, pays_in, made_of, makes, counted, stock_of, account, order, lots_of, entries_from, garbled, Limits}
use Rattle.firm.specs.Refusals.{turned}
use Rattle.firm.specs.Answers.{after, answers, ran}

-- a call that is a question; what is no call counts as one here, since neither is ever a document
unfoldable pub is_question : Call → Bool
is_question (buys i q p) = false
is_question (sells i q p) = false
is_question (comes o q) = false
is_question (goes o q) = false
is_question (billed_by o q x) = false
is_question (bills o q) = false
is_question (pays_out x) = false
is_question (pays_in x) = false
is_question (made_of i ps) = false
is_question (makes i q) = false
is_question (counted i q) = false
is_question (stock_of i) = true
is_question (account a) = true
is_question (order o) = true
is_question (lots_of i) = true
is_question (entries_from n k) = true
is_question (garbled n) = true

-- a document: a call that is taken and is no question
abbrev pub is_document : Limits → Firm → Call → Bool
is_document l f c = turned l f c == 0 && not (is_question c)

-- the documents among some calls, which are done on the firm f
unfoldable pub documents_of : Limits → Firm → List Call → List Call
documents_of l f [] = []
documents_of l f (c ∷ cs) = pick (is_document l f c) (c ∷ documents_of l (after l f c) cs) (documents_of l (after l f c) cs)

-- going through the documents alone gives the firm that all the calls gave, and so the same answers to whatever is called afterwards
abbrev pub Replays : Type 0
Replays = (l : Limits) (f : Firm) (cs : List Call) → ran l f (documents_of l f cs) ≡ ran l f cs

abbrev pub AnswersAlike : Type 0
AnswersAlike = (l : Limits) (f : Firm) (cs ds : List Call) → answers l (ran l f (documents_of l f cs)) ds ≡ answers l (ran l f cs) ds

-- none of them is turned away then: each is a document once more
abbrev pub AllTaken : Type 0
AllTaken = (l : Limits) (f : Firm) (cs : List Call) → documents_of l f (documents_of l f cs) ≡ documents_of l f cs

-- and there are as many as the firm counts
abbrev pub AllCounted : Type 0
AllCounted = (l : Limits) (f : Firm) (cs : List Call) → (ran l f cs).documents ≡ f.documents + length (documents_of l f cs)

pub record JournalLaws : Type 0 where
  pub replays : Replays
  pub answers_alike : AnswersAlike
  pub all_taken : AllTaken
  pub all_counted : AllCounted
