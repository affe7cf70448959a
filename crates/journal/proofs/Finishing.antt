-- A text without the line that was not finished. Assumes nothing.
use Rattle.std.proofs.Common.{◌≡◌, ℕ, ◌+◌, ◌-◌, ◌≤◌, List, [], ◌∷◌, ◌++◌, length, take, get_or, sym, ap, ◌∙◌, append_assoc, arith}
use Rattle.std.proofs.lemmas.List.{take_all, take_more}

-- a text, and its last byte apart
pub last_apart : (xs : List ℕ) → 1 ≤ length xs → xs ≡ take (length xs - 1) xs ++ get_or xs (length xs - 1) 0 ∷ []
last_apart xs h = sym (take_all (length xs - 1 + 1) xs (omega arith)) ∙ take_more xs (length xs - 1) 0 (omega arith)

pub shorter : (text xs torn : List ℕ) → 1 ≤ length xs → text ≡ xs ++ torn → text ≡ take (length xs - 1) xs ++ get_or xs (length xs - 1) 0 ∷ torn
shorter text xs torn h e = e ∙ ap (λ (x : List ℕ). x ++ torn) (last_apart xs h) ∙ append_assoc (take (length xs - 1) xs) (get_or xs (length xs - 1) 0 ∷ []) torn
