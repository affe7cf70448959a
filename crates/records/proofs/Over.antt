-- Words over a row of a list: what stands there then, and what stands elsewhere.
use Rattle.std.proofs.Common.{◌≡◌, ℕ, zero, suc, ◌+◌, ◌-◌, ◌<◌, ◌≤◌, List, ◌++◌, length, get_or, take, drop, refl, ap, ◌∙◌, inl, inr, arith, length-append, length-drop}
use Rattle.std.proofs.lemmas.List.{length-take-le, get_or_append_left, get_or-append_right, get_or-take, get_or-drop}
use Rattle.records.specs.Kind.{over, word, Outside}

module _ (a : ℕ) (ws s : List ℕ) (h : a + length ws ≤ length s) where
  front : length (take a s) ≡ a
  front = length-take-le a s (omega arith)

  pub length_over : length (over a ws s) ≡ length s
  unfolding over
  length_over =
      length-append (take a s) (ws ++ drop (a + length ws) s) ∙ ap (λ (n : ℕ). length (take a s) + n) (length-append ws (drop (a + length ws) s)) ∙ omega (arith, front, length-drop (a + length ws) s)

  -- a word of the row
  pub over_same : (j : ℕ) → j < length ws → get_or (over a ws s) (a + j) 0 ≡ get_or ws j 0
  unfolding over
  over_same j lt =
      get_or-append_right (take a s) (ws ++ drop (a + length ws) s) a (a + j) 0 front (omega arith) ∙ ap (λ (i : ℕ). get_or (ws ++ drop (a + length ws) s) i 0) (omega arith)
      ∙ get_or_append_left ws (drop (a + length ws) s) 0 j lt

  -- a word elsewhere
  pub over_other : (i : ℕ) → Outside a (length ws) i → get_or (over a ws s) i 0 ≡ get_or s i 0
  unfolding over
  over_other i (inl lt) = get_or_append_left (take a s) (ws ++ drop (a + length ws) s) 0 i (omega (arith, front)) ∙ get_or-take a s i 0 lt
  over_other i (inr ge) =
      get_or-append_right (take a s) (ws ++ drop (a + length ws) s) a i 0 front (omega arith) ∙ get_or-append_right ws (drop (a + length ws) s) (length ws) (i - a) 0 refl (omega arith)
      ∙ get_or-drop (a + length ws) s (i - a - length ws) 0 ∙ ap (λ (q : ℕ). get_or s q 0) (omega arith)

pub word_is : (s : List ℕ) (a j : ℕ) → word s a j ≡ get_or s (a + j) 0
word_is s a zero = ap (λ (i : ℕ). get_or s i 0) (omega arith)
word_is s a (suc j) = refl
