-- Columns and rows, one more at the end. Assumes nothing.
use Rattle.std.proofs.Common.{◌≡◌, ℕ, zero, suc, ◌+◌, ◌<◌, List, ◌++◌, sym, refl, ap, ◌∙◌, ap₂, append_assoc, add-one, arith}
use Rattle.reporting.specs.Columns.{rows_to}

-- one text behind another
pub two_more : (out mid end a b : List ℕ) → mid ≡ out ++ a → end ≡ mid ++ b → end ≡ out ++ (a ++ b)
two_more out mid end a b e f = f ∙ ap (λ (s : List ℕ). s ++ b) e ∙ append_assoc out a b

-- A TABLE ROW BY ROW: n rows behind a text
pub record RowsSoFar (row : ℕ → List ℕ) (n : ℕ) (out end : List ℕ) : Type 0 where
  pub text : end ≡ out ++ rows_to row n

pub rows_next : (row : ℕ → List ℕ) (i : ℕ) (out mid end : List ℕ) → RowsSoFar row i out mid → end ≡ mid ++ row i → RowsSoFar row (i + 1) out end
rows_next row i out mid end e g =
    record {
      text = g ∙ ap (λ (s : List ℕ). s ++ row i) e.text ∙ append_assoc out (rows_to row i) (row i) ∙ ap (λ (k : ℕ). out ++ rows_to row k) (sym (add-one i));
    }

-- with its heading
pub rows_all : (row : ℕ → List ℕ) (n i : ℕ) (out heading mid end : List ℕ) → mid ≡ out ++ heading → RowsSoFar row i mid end → i ≡ n → end ≡ out ++ (heading ++ rows_to row n)
rows_all row n i out heading mid end h e is =
    two_more out mid end heading (rows_to row n) h (e.text ∙ ap (λ (k : ℕ). mid ++ rows_to row k) is)

-- rows that are the same, each
pub rows_same : (f g : ℕ → List ℕ) (n : ℕ) → ((i : ℕ) → i < n → f i ≡ g i) → rows_to f n ≡ rows_to g n
rows_same f g zero h = refl
rows_same f g (suc n) h = ap₂ ◌++◌ (rows_same f g n (λ i lt. h i (omega arith))) (h n (omega arith))
