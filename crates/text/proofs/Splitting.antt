-- The lines of a text, as it is cut at line feeds. Assumes nothing.
use Rattle.std.proofs.Common.{◌≡◌, ℕ, ◌<◌, Bool, false, cond, eqb, None, Option, Bor, map, List, [], ◌∷◌, ◌++◌, length, arith, sym, refl, ap, ◌∙◌, append_assoc, append-nil}
use denote.Param.Members.{Mut}
use Rattle.std.specs.Fn.{CalledAt}
use Rattle.std.specs.Iterator.{Yields}
use Rattle.std.specs.List.{flat_map, slice_split, onto_first}
use Rattle.std.specs.declared.slice.Split.{Split}
use Rattle.std.specs.Slice.Iter.{split_rest, split_done, split_callee, split_steps}
use Rattle.std.proofs.lemmas.Iterator.Consumers.{YieldsList-end}
use Rattle.std.proofs.lemmas.Iterator.Splits.{YieldsList-from_slice_split}
use Rattle.std.proofs.lemmas.Bool.{cond_both, cond-true, cond-false}
use Rattle.std.proofs.lemmas.Grind.{flat_map-append}
use Rattle.std.proofs.lemmas.List.Splits.{length-slice_split}
use Rattle.text.specs.Lines.{lines_after, lines, heard, lines_of_calls}

abbrev pub feed : ℕ → Bool
feed c = eqb c 10

-- the line so far stands in front of the first part
abbrev behind : List ℕ → List (List ℕ) → List (List ℕ)
behind l [] = []
behind l (x ∷ xs) = (l ++ x) ∷ xs

behind_none : (xs : List (List ℕ)) → behind [] xs ≡ xs
behind_none [] = refl
behind_none (x ∷ xs) = refl

behind_more : (l : List ℕ) (c : ℕ) (xs : List (List ℕ)) → 0 < length xs → behind (l ++ c ∷ []) xs ≡ behind l (onto_first c xs)
behind_more l c [] h = absurd (omega arith)
behind_more l c (x ∷ xs) h = ap (λ (y : List ℕ). y ∷ xs) (append_assoc l (c ∷ []) x)

parts_are : (l text : List ℕ) → lines_after l text ≡ behind l (slice_split feed text)
parts_are l [] = ap (λ (x : List ℕ). x ∷ []) (sym (append-nil l))
parts_are l (c ∷ cs) =
    let some : 0 < length (slice_split feed cs) = omega (arith, length-slice_split feed cs) in
    cond_both (eqb c 10) (l ∷ lines_after [] cs) (lines_after (l ++ c ∷ []) cs)
    (λ (ls : List (List ℕ)). ls ≡ behind l (cond (eqb c 10) ([] ∷ slice_split feed cs) (onto_first c (slice_split feed cs))))
    (λ e. ap (λ (x : List ℕ). x ∷ lines_after [] cs) (sym (append-nil l)) ∙ ap (λ (ls : List (List ℕ)). (l ++ []) ∷ ls) (parts_are [] cs ∙ behind_none (slice_split feed cs))
    ∙ ap (behind l) (sym (cond-true (eqb c 10) ([] ∷ slice_split feed cs) (onto_first c (slice_split feed cs)) e)))
    (λ e. parts_are (l ++ c ∷ []) cs ∙ behind_more l c (slice_split feed cs) some
    ∙ ap (behind l) (sym (cond-false (eqb c 10) ([] ∷ slice_split feed cs) (onto_first c (slice_split feed cs)) e)))

pub lines_are : (text : List ℕ) → slice_split feed text ≡ lines text
lines_are text = sym (parts_are [] text ∙ behind_none (slice_split feed text))

-- all parts that a closure cuts at line feeds are the lines
pub all_lines : {F : Type 0} {g : Mut F (Bor ℕ × Unit {0}) Bool} {f : F} (s : Split ℕ F) (text : List ℕ) (xs : List (Bor (List ℕ))) (t : Split ℕ F) → Yields (split_steps g) s xs t → (r : Option (Bor (List ℕ))) (u : Split ℕ F) →
    r ≡ None → split_steps g t r u → split_rest s ≡ text → split_done s ≡ false → split_callee s ≡ f → ((x : ℕ) (b : Bool) (q : F) → CalledAt g f x b q → (q ≡ f) × (b ≡ feed x)) → map (λ x. x.now) xs ≡ lines text
all_lines {g = g} s text xs t y r u none step rest done closure by = (YieldsList-end (YieldsList-from_slice_split g feed text rest done closure by) xs t y r u none step).0 ∙ lines_are text

-- what stands before a line feed, and what stands behind it
lines_add : (l a b : List ℕ) → lines_after l (a ++ 10 ∷ b) ≡ lines_after l a ++ lines b
lines_add l [] b = refl
lines_add l (c ∷ a) b =
    cond_both (eqb c 10) (l ∷ lines_after [] (a ++ 10 ∷ b)) (lines_after (l ++ c ∷ []) (a ++ 10 ∷ b))
    (λ (ls : List (List ℕ)). ls ≡ cond (eqb c 10) (l ∷ lines_after [] a) (lines_after (l ++ c ∷ []) a) ++ lines b)
    (λ e. ap (λ (ls : List (List ℕ)). l ∷ ls) (lines_add [] a b) ∙ ap (λ (ls : List (List ℕ)). ls ++ lines b) (sym (cond-true (eqb c 10) (l ∷ lines_after [] a) (lines_after (l ++ c ∷ []) a) e)))
    (λ e. lines_add (l ++ c ∷ []) a b ∙ ap (λ (ls : List (List ℕ)). ls ++ lines b) (sym (cond-false (eqb c 10) (l ∷ lines_after [] a) (lines_after (l ++ c ∷ []) a) e)))

pub call_lines_add : (a b : List ℕ) → lines_of_calls (a ++ 10 ∷ b) ≡ lines_of_calls a ++ lines_of_calls b
call_lines_add a b = ap (flat_map heard) (lines_add [] a b) ∙ flat_map-append heard (lines a) (lines b)
