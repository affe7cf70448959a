-- What is kept of a text's calls, and books that start again from it. Assumes nothing.
use Rattle.std.proofs.Common.{◌≡◌, ◌≢◌, ℕ, Bool, true, false, not, ◌&&◌, eqb, List, [], ◌∷◌, ◌++◌, refl, sym, ap, ◌∙◌, subst, append_assoc, append-nil, arith, inr}
use Rattle.std.proofs.lemmas.Grind.{flat_map-append}
use Rattle.std.proofs.lemmas.Bool.{cond-true, cond-false}
use Rattle.firm.specs.Firm.{Firm, new_firm}
use Rattle.firm.specs.Calls.{Call, buys, sells, comes, goes, billed_by, bills, pays_out, pays_in, made_of, makes, counted, stock_of, account, order, lots_of, entries_from, garbled, Limits, refused}
use Rattle.firm.specs.Refusals.{turned, place}
use Rattle.firm.specs.Answers.{after, answer, answers, ran, told}
use Rattle.firm.specs.Journal.{is_question, is_document, documents_of}
use Rattle.firm.proofs.Picks.{pick-both, pick_true, pick_false}
use Rattle.firm.proofs.Documents.{documents_append, journal_laws}
use Rattle.records.specs.State.{State}
use Rattle.wire.specs.Calls.{Sendable, call_of}
use Rattle.wire.specs.Told.{refusal_number}
use Rattle.wire.proofs.CallLaws.{comes_back}
use Rattle.text.specs.Fates.{NoRefusal, CallsFated, AtHand}
use Rattle.text.specs.Lines.{heard, lines}
use Rattle.text.specs.Run.{calls_in, calls}
use Rattle.text.specs.Books.{Keeps, Answered}
use Rattle.text.specs.Standing.{CallsDone}
use Rattle.text.specs.declared.books.Books.{Books}
use Rattle.text.specs.declared.fate.Fate.{Fate}
use Rattle.text.specs.declared.fate.Fate.TheVariants.{Quiet, Refused, Taken}
use Rattle.text.proofs.Going.{calls_after, calls_after_more, ran_append}
use Rattle.journal.specs.Documents.{document_line, document_lines, kept_line}
use Rattle.call_lines.specs.Written.{line_of_call}
use Rattle.journal.specs.Keeping.{AllSendable, Kept, CallsKept, Restarts}
use Rattle.journal.specs.Torn.{Whole}
use Rattle.journal.proofs.Lines.{lines_come_back, whole_then}

and_none : (b : Bool) → (b && false) ≡ false
and_none true = refl
and_none false = refl

not_nothing : {A : Type 0} (x : A) (xs : List A) → (x ∷ xs) ≢ []
not_nothing x xs e = let z : ◌≡◌ {A = ℕ} 0 1 = cc in absurd (omega arith)

not_one : {A : Type 0} (x y z : A) (xs : List A) → (x ∷ y ∷ xs) ≢ (z ∷ [])
not_one x y z xs e = let z : ◌≡◌ {A = ℕ} 0 1 = cc in absurd (omega arith)

-- what is taken is answered by no refusal, and what is answered by one is turned away
told_no_refusal : (f : Firm) (c : Call) (n p : ℕ) → told f c ≢ refused n p
unfolding told
told_no_refusal f (buys i q x) n p e = let z : ◌≡◌ {A = ℕ} 0 1 = cc in absurd (omega arith)
told_no_refusal f (sells i q x) n p e = let z : ◌≡◌ {A = ℕ} 0 1 = cc in absurd (omega arith)
told_no_refusal f (comes o q) n p e = let z : ◌≡◌ {A = ℕ} 0 1 = cc in absurd (omega arith)
told_no_refusal f (goes o q) n p e = let z : ◌≡◌ {A = ℕ} 0 1 = cc in absurd (omega arith)
told_no_refusal f (billed_by o q x) n p e = let z : ◌≡◌ {A = ℕ} 0 1 = cc in absurd (omega arith)
told_no_refusal f (bills o q) n p e = let z : ◌≡◌ {A = ℕ} 0 1 = cc in absurd (omega arith)
told_no_refusal f (pays_out x) n p e = let z : ◌≡◌ {A = ℕ} 0 1 = cc in absurd (omega arith)
told_no_refusal f (pays_in x) n p e = let z : ◌≡◌ {A = ℕ} 0 1 = cc in absurd (omega arith)
told_no_refusal f (made_of i ps) n p e = let z : ◌≡◌ {A = ℕ} 0 1 = cc in absurd (omega arith)
told_no_refusal f (makes i q) n p e = let z : ◌≡◌ {A = ℕ} 0 1 = cc in absurd (omega arith)
told_no_refusal f (counted i q) n p e = let z : ◌≡◌ {A = ℕ} 0 1 = cc in absurd (omega arith)
told_no_refusal f (stock_of i) n p e = let z : ◌≡◌ {A = ℕ} 0 1 = cc in absurd (omega arith)
told_no_refusal f (account a) n p e = let z : ◌≡◌ {A = ℕ} 0 1 = cc in absurd (omega arith)
told_no_refusal f (order o) n p e = let z : ◌≡◌ {A = ℕ} 0 1 = cc in absurd (omega arith)
told_no_refusal f (lots_of i) n p e = let z : ◌≡◌ {A = ℕ} 0 1 = cc in absurd (omega arith)
told_no_refusal f (entries_from k m) n p e = let z : ◌≡◌ {A = ℕ} 0 1 = cc in absurd (omega arith)
told_no_refusal f (garbled k) n p e = let z : ◌≡◌ {A = ℕ} 0 1 = cc in absurd (omega arith)

module _ (l : Limits) (f : Firm) (c : Call) where
  taken_is : NoRefusal (answer l f c) → eqb (turned l f c) 0 ≡ true
  taken_is =
      pick-both (eqb (turned l f c) 0) (told f c) (refused (turned l f c) (place c (turned l f c))) (λ a. NoRefusal a → eqb (turned l f c) 0 ≡ true)
      (λ e _. e) (λ e h. absurd (h (turned l f c) (place c (turned l f c)) refl))

  refused_is : (n p : ℕ) → answer l f c ≡ refused n p → eqb (turned l f c) 0 ≡ false
  refused_is n p =
      pick-both (eqb (turned l f c) 0) (told f c) (refused (turned l f c) (place c (turned l f c))) (λ a. a ≡ refused n p → eqb (turned l f c) 0 ≡ false)
      (λ e h. absurd (told_no_refusal f c n p h)) (λ e _. e)

  -- the documents of the one call
  one_document : is_document l f c ≡ true → documents_of l f (c ∷ []) ≡ c ∷ []
  unfolding documents_of
  one_document = pick_true (is_document l f c) (c ∷ []) []

  no_document : is_document l f c ≡ false → documents_of l f (c ∷ []) ≡ []
  unfolding documents_of
  no_document = pick_false (is_document l f c) (c ∷ []) []

  -- of a call that is turned away nothing is kept
  none_of_refused : eqb (turned l f c) 0 ≡ false → documents_of l f (c ∷ []) ≡ []
  none_of_refused e = no_document (ap (λ (b : Bool). b && not (is_question c)) e)

  -- and of one that is taken its line, unless it is a question
  kept_of_taken : (b : Bool) (kept : List ℕ) → is_question c ≡ b → eqb (turned l f c) 0 ≡ true → Sendable c → Kept l f (c ∷ []) kept (kept ++ kept_line c)
  kept_of_taken true kept e t h =
      let none : documents_of l f (c ∷ []) ≡ [] = no_document (ap (λ (b : Bool). eqb (turned l f c) 0 && not b) e ∙ and_none (eqb (turned l f c) 0)) in
      record {
        lines = ap (λ (x : List ℕ). kept ++ x) (cond-true (is_question c) [] (document_line c) e) ∙ ap (λ (ds : List Call). kept ++ document_lines ds) (sym none);
        sendable = subst AllSendable (sym none) tt;
      }
  kept_of_taken false kept e t h =
      let one : documents_of l f (c ∷ []) ≡ c ∷ [] = one_document (ap (λ (b : Bool). eqb (turned l f c) 0 && not b) e ∙ ap (λ (b : Bool). b && true) t) in
      record {
        lines = ap (λ (x : List ℕ). kept ++ x) (cond-false (is_question c) [] (document_line c) e ∙ sym (append-nil (document_line c))) ∙ ap (λ (ds : List Call). kept ++ document_lines ds) (sym one);
        sendable = subst AllSendable (sym one) (h, tt);
      }

-- A LINE whose call was taken
taken_one : (c : Call) (s : State) (room : ℕ) (kept : List ℕ) → CallsFated (c ∷ []) s room Taken → Sendable c → CallsKept (c ∷ []) s room kept (kept ++ kept_line c)
unfolding answers
taken_one c s room kept fated send l f h =
    let t = fated l f h in
    let told_is : answer l f c ∷ [] ≡ t.0 ∷ [] = t.1 in
    let same : t.0 ≡ answer l f c = cc in
    kept_of_taken l f c (is_question c) kept refl (taken_is l f c (subst NoRefusal same t.2)) send

pub kept_taken : (cs : List Call) (row : List ℕ) (s : State) (room : ℕ) (kept kept' : List ℕ) → CallsFated cs s room Taken → AtHand cs row Taken → kept' ≡ kept ++ kept_line (call_of row) → CallsKept cs s room kept kept'
kept_taken cs row s room kept kept' fated at_hand wrote =
    let hand = at_hand refl in
    let c : Call = hand.0 in
    let is : cs ≡ c ∷ [] = hand.1 in
    let send : Sendable c = hand.2 in
    let same : call_of row ≡ c = ap call_of hand.3 ∙ comes_back c send in
    let one : CallsKept (c ∷ []) s room kept (kept ++ kept_line c) = taken_one c s room kept (subst (λ (ds : List Call). CallsFated ds s room Taken) is fated) send in
    subst (λ (k : List ℕ). CallsKept cs s room kept k) (sym (wrote ∙ ap (λ (d : Call). kept ++ kept_line d) same))
    (subst (λ (ds : List Call). CallsKept ds s room kept (kept ++ kept_line c)) (sym is) one)

-- and one whose call was not, or that is none
keeps_none : (l : Limits) (f : Firm) (cs : List Call) (kept : List ℕ) → documents_of l f cs ≡ [] → Kept l f cs kept kept
keeps_none l f cs kept e =
    record { lines = sym (append-nil kept) ∙ ap (λ (ds : List Call). kept ++ document_lines ds) (sym e); sendable = subst AllSendable (sym e) tt }

pub kept_none : (cs : List Call) (fate : Fate) (s : State) (room : ℕ) (kept : List ℕ) → fate ≢ Taken → CallsFated cs s room fate → CallsKept cs s room kept kept
unfolding answers documents_of
kept_none cs Taken s room kept other fated l f h = absurd (other refl)
kept_none [] Quiet s room kept other fated l f h = keeps_none l f [] kept refl
kept_none [] (Refused r p) s room kept other fated l f h = keeps_none l f [] kept refl
kept_none (c ∷ cs) Quiet s room kept other fated l f h = absurd (not_nothing (answer l f c) (answers l (after l f c) cs) (fated l f h))
kept_none (c ∷ []) (Refused r p) s room kept other fated l f h =
    let told_is : answer l f c ∷ [] ≡ refused (refusal_number r) p ∷ [] = fated l f h in
    let same : answer l f c ≡ refused (refusal_number r) p = cc in
    keeps_none l f (c ∷ []) kept (none_of_refused l f c (refused_is l f c (refusal_number r) p same))
kept_none (c ∷ d ∷ cs) (Refused r p) s room kept other fated l f h =
    absurd (not_one (answer l f c) (answer l (after l f c) d) (refused (refusal_number r) p) (answers l (after l (after l f c) d) cs) (fated l f h))

-- SOME CALLS AND THEN OTHERS
all_sendable_append : (cs ds : List Call) → AllSendable cs → AllSendable ds → AllSendable (cs ++ ds)
all_sendable_append [] ds h k = k
all_sendable_append (c ∷ cs) ds h k = (h.0, all_sendable_append cs ds h.1 k)

kept_then : (cs ds : List Call) (s t : State) (room : ℕ) (out mid kept more most : List ℕ) → CallsDone cs s t room out mid → CallsKept cs s room kept more → CallsKept ds t room more most → CallsKept (cs ++ ds) s room kept most
kept_then cs ds s t room out mid kept more most done first second l f h =
    let a : Kept l f cs kept more = first l f h in
    let b : Kept l (ran l f cs) ds more most = second l (ran l f cs) (done l f h).standing in
    let C : List Call = documents_of l f cs in
    let D : List Call = documents_of l (ran l f cs) ds in
    let both : documents_of l f (cs ++ ds) ≡ C ++ D = documents_append l f cs ds in
    record {
      lines =
          b.lines ∙ ap (λ (x : List ℕ). x ++ document_lines D) a.lines ∙ append_assoc kept (document_lines C) (document_lines D)
          ∙ ap (λ (x : List ℕ). kept ++ x) (sym (flat_map-append document_line C D)) ∙ ap (λ (xs : List Call). kept ++ document_lines xs) (sym both);
      sendable = subst AllSendable (sym both) (all_sendable_append C D a.sendable b.sendable);
    }

-- AFTER SOME LINES: what is kept of their calls, and then of those of one more
pub keeping_begins : (s : State) (room : ℕ) (kept : List ℕ) → CallsKept (calls_after []) s room kept kept
unfolding documents_of
keeping_begins s room kept l f h = keeps_none l f [] kept refl

pub keeping_goes_on : (ls : List (List ℕ)) (line : List ℕ) (s t : State) (room : ℕ) (out mid kept more most : List ℕ) → CallsDone (calls_after ls) s t room out mid → CallsKept (calls_after ls) s room kept more →
    CallsKept (calls_in (heard line)) t room more most → CallsKept (calls_after (ls ++ line ∷ [])) s room kept most
keeping_goes_on ls line s t room out mid kept more most d k n =
    subst (λ (cs : List Call). CallsKept cs s room kept most) (sym (calls_after_more ls line)) (kept_then (calls_after ls) (calls_in (heard line)) s t room out mid kept more most d k n)

pub keeping_ends : (text : List ℕ) (ls : List (List ℕ)) (s : State) (room : ℕ) (kept more : List ℕ) → ls ≡ lines text → CallsKept (calls_after ls) s room kept more → CallsKept (calls text) s room kept more
keeping_ends text ls s room kept more all k = subst (λ (x : List (List ℕ)). CallsKept (calls_after x) s room kept more) all k

-- BOOKS THAT START AGAIN
whole_more : (text : List ℕ) (cs : List Call) → Whole text → Whole (text ++ document_lines cs)
whole_more text [] h = subst Whole (sym (append-nil text)) h
whole_more text (c ∷ cs) h =
    subst Whole (append_assoc text (document_line c) (document_lines cs))
    (whole_more (text ++ document_line c) cs (inr (text ++ line_of_call c, sym (append_assoc text (line_of_call c) (10 ∷ [])))))

pub restarts : (text : List ℕ) (b b' : Books) (out out' kept kept' : List ℕ) → Answered text b b' out out' → ((l : Limits) (f : Firm) → Keeps l f b → Kept l f (calls text) kept kept') → Restarts b b' kept kept'
restarts text b b' out out' kept kept' answered k l journal whole keeps =
    let J : List ℕ = journal ++ kept in
    let f : Firm = ran l new_firm (calls J) in
    let a : Kept l f (calls text) kept kept' = k l f keeps in
    let D : List Call = documents_of l f (calls text) in
    let now : journal ++ kept' ≡ J ++ document_lines D = ap (λ (x : List ℕ). journal ++ x) a.lines ∙ sym (append_assoc journal kept (document_lines D)) in
    let its_calls : calls (journal ++ kept') ≡ calls J ++ D = ap calls now ∙ whole_then J (document_lines D) whole ∙ ap (λ (x : List Call). calls J ++ x) (lines_come_back D a.sendable) in
    let same : ran l new_firm (calls (journal ++ kept')) ≡ ran l f (calls text) = ap (ran l new_firm) its_calls ∙ ran_append l new_firm (calls J) D ∙ journal_laws.replays l f (calls text) in
    (subst Whole (sym now) (whole_more J D whole), subst (λ (g : Firm). Keeps l g b') (sym same) (answered l f keeps).keeps)
