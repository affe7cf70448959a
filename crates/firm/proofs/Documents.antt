-- The documents of some calls give the firm that the calls gave. Assumes nothing.
use Rattle.std.proofs.Common.{◌≡◌, suc, ◌+◌, Bool, true, false, ◌&&◌, not, eqb, List, [], ◌∷◌, ◌++◌, length, refl, sym, ap, ◌∙◌, subst, arith}
use Rattle.std.proofs.lemmas.Bool.{eqb-true, true≢false}
use Rattle.firm.specs.Stock.{pick}
use Rattle.firm.specs.Firm.{Firm}
use Rattle.firm.specs.Calls.{Call, buys, sells, comes, goes, billed_by, bills, pays_out, pays_in, made_of, makes, counted, stock_of, account, order, lots_of, entries_from, garbled, Limits}
use Rattle.firm.specs.Changes.{changed}
use Rattle.firm.specs.Refusals.{turned, turned_by}
use Rattle.firm.specs.Answers.{after, answers, ran}
use Rattle.firm.specs.Journal.{is_question, is_document, documents_of, Replays, AllTaken, AllCounted, JournalLaws}
use Rattle.firm.proofs.Picks.{pick-both, pick_true, pick_false, pick_same}
use Rattle.firm.proofs.Cases.{counted_cases, goes_through}

-- a question changes nothing
question_keeps : (f : Firm) (c : Call) → is_question c ≡ true → changed f c ≡ f
unfolding changed is_question
question_keeps f (buys i q p) e = absurd (true≢false (sym e))
question_keeps f (sells i q p) e = absurd (true≢false (sym e))
question_keeps f (comes o q) e = absurd (true≢false (sym e))
question_keeps f (goes o q) e = absurd (true≢false (sym e))
question_keeps f (billed_by o q x) e = absurd (true≢false (sym e))
question_keeps f (bills o q) e = absurd (true≢false (sym e))
question_keeps f (pays_out x) e = absurd (true≢false (sym e))
question_keeps f (pays_in x) e = absurd (true≢false (sym e))
question_keeps f (made_of i ps) e = absurd (true≢false (sym e))
question_keeps f (makes i q) e = absurd (true≢false (sym e))
question_keeps f (counted i q) e = absurd (true≢false (sym e))
question_keeps f (stock_of i) e = refl
question_keeps f (account a) e = refl
question_keeps f (order o) e = refl
question_keeps f (lots_of i) e = refl
question_keeps f (entries_from n k) e = refl
question_keeps f (garbled n) e = refl

-- what is taken and is no question is one document more
documents_more : (f : Firm) (c : Call) → is_question c ≡ false → (changed f c).documents ≡ suc f.documents
unfolding changed is_question
documents_more f (buys i q p) e = refl
documents_more f (sells i q p) e = refl
documents_more f (comes o q) e = refl
documents_more f (goes o q) e = refl
documents_more f (billed_by o q x) e = refl
documents_more f (bills o q) e = refl
documents_more f (pays_out x) e = refl
documents_more f (pays_in x) e = refl
documents_more f (made_of i ps) e = refl
documents_more f (makes i q) e = refl
documents_more f (counted i q) e = counted_cases f i q (λ g. g.documents ≡ suc f.documents) (λ _. refl) (λ _. refl) (λ _. refl)
documents_more f (stock_of i) e = absurd (true≢false e)
documents_more f (account a) e = absurd (true≢false e)
documents_more f (order o) e = absurd (true≢false e)
documents_more f (lots_of i) e = absurd (true≢false e)
documents_more f (entries_from n k) e = absurd (true≢false e)
documents_more f (garbled n) e = absurd (true≢false e)

-- A CALL is a document, or leaves the firm as it is
both_hold : (a b : Bool) (P : Type 0) → (a ≡ true → b ≡ false → P) → (a && not b) ≡ true → P
both_hold true true P f e = absurd (true≢false (sym e))
both_hold true false P f e = f refl refl
both_hold false b P f e = absurd (true≢false (sym e))

one_fails : (a b : Bool) (P : Type 0) → (a ≡ false → P) → (b ≡ true → P) → (a && not b) ≡ false → P
one_fails true true P f g e = g refl
one_fails true false P f g e = absurd (true≢false e)
one_fails false b P f g e = f refl

module _ (l : Limits) (f : Firm) (c : Call) where
  pub document_more : is_document l f c ≡ true → (after l f c).documents ≡ suc f.documents
  document_more =
      both_hold (eqb (turned l f c) 0) (is_question c) ((after l f c).documents ≡ suc f.documents)
      (λ t a. ap (λ g. g.documents) (pick_true (eqb (turned l f c) 0) (changed f c) f t) ∙ documents_more f c a)

  pub no_document_keeps : is_document l f c ≡ false → after l f c ≡ f
  no_document_keeps =
      one_fails (eqb (turned l f c) 0) (is_question c) (after l f c ≡ f)
      (pick_false (eqb (turned l f c) 0) (changed f c) f)
      (λ a. ap (λ g. pick (eqb (turned l f c) 0) g f) (question_keeps f c a) ∙ pick_same (eqb (turned l f c) 0) f)

-- what holds of the documents of some calls with one in front, where that is a document and where it is none
pub documents_cases : (l : Limits) (f : Firm) (c : Call) (cs : List Call) (P : List Call → Type 0) →
    (is_document l f c ≡ true → P (c ∷ documents_of l (after l f c) cs)) →
    (is_document l f c ≡ false → after l f c ≡ f → P (documents_of l (after l f c) cs)) →
    P (documents_of l f (c ∷ cs))
unfolding documents_of
documents_cases l f c cs P booked not_booked =
    pick-both (is_document l f c) (c ∷ documents_of l (after l f c) cs) (documents_of l (after l f c) cs) P booked (λ e. not_booked e (no_document_keeps l f c e))

replays : Replays
unfolding ran documents_of
replays l f [] = refl
replays l f (c ∷ cs) =
    documents_cases l f c cs (λ ds. ran l f ds ≡ ran l (after l f c) cs) (λ _. replays l (after l f c) cs)
    (λ _ same. subst (λ g. ran l g (documents_of l (after l f c) cs) ≡ ran l (after l f c) cs) same (replays l (after l f c) cs))

all_taken : AllTaken
unfolding documents_of
all_taken l f [] = refl
all_taken l f (c ∷ cs) =
    documents_cases l f c cs (λ ds. documents_of l f ds ≡ ds)
    (λ e. pick_true (is_document l f c) (c ∷ documents_of l (after l f c) (documents_of l (after l f c) cs)) (documents_of l (after l f c) (documents_of l (after l f c) cs)) e
    ∙ ap (λ ds. c ∷ ds) (all_taken l (after l f c) cs))
    (λ _ same. subst (λ g. documents_of l g (documents_of l (after l f c) cs) ≡ documents_of l (after l f c) cs) same (all_taken l (after l f c) cs))

all_counted : AllCounted
unfolding ran documents_of
all_counted l f [] = omega arith
all_counted l f (c ∷ cs) =
    let rest : (ran l (after l f c) cs).documents ≡ (after l f c).documents + length (documents_of l (after l f c) cs) = all_counted l (after l f c) cs in
    documents_cases l f c cs (λ ds. (ran l (after l f c) cs).documents ≡ f.documents + length ds)
    (λ e. omega (arith, rest, document_more l f c e))
    (λ _ same. omega (arith, rest, ap (λ g. g.documents) same))

pub journal_laws : JournalLaws
journal_laws =
    record {
      replays = replays;
      answers_alike = λ l f cs ds. ap (λ g. answers l g ds) (replays l f cs);
      all_taken = all_taken;
      all_counted = all_counted;
    }

-- some calls and then others
pub documents_append : (l : Limits) (f : Firm) (cs ds : List Call) → documents_of l f (cs ++ ds) ≡ documents_of l f cs ++ documents_of l (ran l f cs) ds
unfolding ran documents_of
documents_append l f [] ds = refl
documents_append l f (c ∷ cs) ds =
    let rest : documents_of l (after l f c) (cs ++ ds) ≡ documents_of l (after l f c) cs ++ documents_of l (ran l (after l f c) cs) ds = documents_append l (after l f c) cs ds in
    pick-both (is_document l f c) (c ∷ documents_of l (after l f c) (cs ++ ds)) (documents_of l (after l f c) (cs ++ ds))
    (λ xs. xs ≡ pick (is_document l f c) (c ∷ documents_of l (after l f c) cs) (documents_of l (after l f c) cs) ++ documents_of l (ran l (after l f c) cs) ds)
    (λ e. ap (λ xs. c ∷ xs) rest ∙ ap (λ xs. xs ++ documents_of l (ran l (after l f c) cs) ds) (sym (pick_true (is_document l f c) (c ∷ documents_of l (after l f c) cs) (documents_of l (after l f c) cs) e)))
    (λ e. rest ∙ ap (λ xs. xs ++ documents_of l (ran l (after l f c) cs) ds) (sym (pick_false (is_document l f c) (c ∷ documents_of l (after l f c) cs) (documents_of l (after l f c) cs) e)))
