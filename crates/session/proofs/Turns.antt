-- A run: what was written so far, and what the rest of the rows will be answered. Assumes nothing.
use Rattle.std.proofs.Common.{◌≡◌, ℕ, ◌≤◌, List, [], ◌∷◌, ◌++◌, length, sym, refl, ap, ◌∙◌, subst, ap₂, append_assoc, append-nil}
use Rattle.std.proofs.lemmas.List.{take_at}
use Rattle.fields.specs.Written.{over}
use Rattle.firm.specs.Firm.{Firm, new_firm}
use Rattle.firm.specs.Answers.{answers, answer, after, ran as runs}
use Rattle.firm.specs.Statements.{Reached}
use Rattle.layout.specs.Layout.{Good, answer_need}
use Rattle.layout.specs.declared.limits.Limits.{Limits}
use Rattle.memory.specs.Books.{limits_in}
use Rattle.records.specs.State.{State}
use Rattle.wire.specs.Answers.{bytes_of_answer}
use Rattle.wire.specs.Calls.{call_of}
use Rattle.session.specs.Calling.{called}
use Rattle.session.specs.Held.{words_of, Fresh}
use Rattle.session.specs.declared.held.Held.{Held}
use Rattle.session.specs.Means.{Means}
use Rattle.session.specs.Running.{rows_of, framed, books_limits, answered_rows, ran, RowDone, row_done, answer_row, row_answered}
use Rattle.session.proofs.Called.{Answered, called_means}
use Rattle.session.proofs.Keeping.{opened_means, reached_after}

-- memory means a firm, and what is written, with what the rest is answered from there, is the whole
pub record Going (l : Limits) (calls : List ℕ) (s : State) (rest written : List ℕ) : Type 0 where
  pub firm : Firm
  pub means : Means l s firm
  pub reached : Reached (books_limits l) firm
  pub whole : written ++ answered_rows l firm (rows_of rest) ≡ ran l calls

-- memory of just the size that limits ask for, opened
module _ (l : Limits) (h : Held) (fresh : Fresh l h) where
  pub means_new : Means l (words_of h) new_firm
  means_new = subst (λ (u : State). Means l u new_firm) (sym fresh.opens) (opened_means l fresh.before fresh.good fresh.wide fresh.narrow)

  pub fresh_limits : l ≡ limits_in (words_of h).narrow
  fresh_limits = sym means_new.stands.frame.limits

  pub going_begins : (calls : List ℕ) → Going l calls (words_of h) calls []
  unfolding runs
  going_begins calls = record { firm = new_firm; means = means_new; reached = ([], refl); whole = refl }

next_rows : (l : Limits) (f : Firm) (row : List ℕ) (rows : List (List ℕ)) →
    answered_rows l f (row ∷ rows) ≡ framed (bytes_of_answer (answer (books_limits l) f (call_of row))) ++ answered_rows l (after (books_limits l) f (call_of row)) rows
unfolding answered_rows answers
next_rows l f row rows = refl

module _ (l : Limits) (calls : List ℕ) (s : State) (rest written row more old : List ℕ) (good : Good l) (g : Going l calls s rest written) (room : answer_need l ≤ length old) where
  one : Answered (books_limits l) g.firm (call_of row) old (called (call_of row) s old)
  one = called_means (books_limits l) s g.firm (call_of row) old good refl g.reached g.means room

  told : List ℕ
  told = bytes_of_answer (answer (books_limits l) g.firm (call_of row))

  row_is : answer_row (called (call_of row) s old).came (called (call_of row) s old).bytes ≡ framed told
  unfolding over told
  row_is = ap₂ answer_row one.came one.bytes ∙ ap framed (take_at told _ (length told) refl)

  pub going_on : (t : State) (bytes out : List ℕ) → rows_of rest ≡ row ∷ rows_of more → row_done t bytes out ≡ row_answered row s old written → Going l calls t more out
  unfolding told
  going_on t bytes out next e =
      let outs : out ≡ written ++ framed told = ap (λ (d : RowDone). d.written) e ∙ ap (λ (x : List ℕ). written ++ x) row_is in
      record {
        firm = after (books_limits l) g.firm (call_of row);
        means = subst (λ (u : State). Means l u (after (books_limits l) g.firm (call_of row))) (sym (ap (λ (d : RowDone). d.left) e)) one.means;
        reached = reached_after (books_limits l) g.firm (call_of row) g.reached;
        whole = ap (λ (x : List ℕ). x ++ answered_rows l (after (books_limits l) g.firm (call_of row)) (rows_of more)) outs
            ∙ append_assoc written (framed told) _
            ∙ ap (λ (x : List ℕ). written ++ x) (sym (ap (answered_rows l g.firm) next ∙ next_rows l g.firm row (rows_of more)))
            ∙ g.whole;
      }

-- no row is left
pub going_ends : (l : Limits) (calls : List ℕ) (s : State) (rest written : List ℕ) → Going l calls s rest written → rows_of rest ≡ [] → written ≡ ran l calls
unfolding answered_rows answers
going_ends l calls s rest written g none = sym (append-nil written) ∙ ap (λ (rows : List (List ℕ)). written ++ answered_rows l g.firm rows) (sym none) ∙ g.whole
