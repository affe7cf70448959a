-- Blanks and words in front, by how many bytes they are. Assumes nothing.
use Rattle.std.proofs.Common.{◌≡◌, ℕ, suc, ◌+◌, Bool, true, false, not, cond, List, [], ◌∷◌, take, drop, refl, ap, ◌∙◌, arith}
use Rattle.std.specs.List.{prefix_len}
use Rattle.words.specs.Words.{blank, gap, trimmed, word, past}

one_more : (n : ℕ) → 1 + n ≡ suc n
one_more n = omega arith

-- the first byte is one of those in front, or the first that is none
trimmed_if : (b : Bool) (c n : ℕ) (cs : List ℕ) → drop n cs ≡ trimmed cs → drop (cond b (1 + n) 0) (c ∷ cs) ≡ cond b (trimmed cs) (c ∷ cs)
trimmed_if true c n cs h = ap (λ (k : ℕ). drop k (c ∷ cs)) (one_more n) ∙ h
trimmed_if false c n cs h = refl

pub trimmed_is : (s : List ℕ) → drop (prefix_len blank s) s ≡ trimmed s
trimmed_is [] = refl
trimmed_is (c ∷ cs) = trimmed_if (blank c) c (prefix_len blank cs) cs (trimmed_is cs)

abbrev pub inner : ℕ → Bool
inner c = not (gap c)

word_if : (b : Bool) (c n : ℕ) (cs : List ℕ) → take n cs ≡ word cs → take (cond (not b) (1 + n) 0) (c ∷ cs) ≡ cond b [] (c ∷ word cs)
word_if true c n cs h = refl
word_if false c n cs h = ap (λ (k : ℕ). take k (c ∷ cs)) (one_more n) ∙ ap (λ (x : List ℕ). c ∷ x) h

pub word_is : (s : List ℕ) → take (prefix_len inner s) s ≡ word s
word_is [] = refl
word_is (c ∷ cs) = word_if (gap c) c (prefix_len inner cs) cs (word_is cs)

past_if : (b : Bool) (c n : ℕ) (cs : List ℕ) → drop n cs ≡ past cs → drop (cond (not b) (1 + n) 0) (c ∷ cs) ≡ cond b (c ∷ cs) (past cs)
past_if true c n cs h = refl
past_if false c n cs h = ap (λ (k : ℕ). drop k (c ∷ cs)) (one_more n) ∙ h

pub past_is : (s : List ℕ) → drop (prefix_len inner s) s ≡ past s
past_is [] = refl
past_is (c ∷ cs) = past_if (gap c) c (prefix_len inner cs) cs (past_is cs)
