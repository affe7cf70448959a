-- Parts of a recipe, one after the other. Assumes nothing.
use Rattle.std.proofs.Common.{◌≡◌, ℕ, zero, suc, ◌+◌, ◌<◌, ◌≤◌, Bool, true, false, ◌&&◌, List, [], ◌∷◌, length, drop, Some, None, Result, sym, refl, ap, ◌∙◌, ap₂, arith}
use Rattle.std.proofs.lemmas.List.{drop_all}
use Rattle.std.proofs.lemmas.Bool.{and_parts}
use Rattle.firm.specs.Refusals.{good_parts}
use Rattle.firm.specs.Stock as stock
use Rattle.layout.specs.declared.limits.Limits.{Limits}
use Rattle.records.specs.declared.part.Part.{Part}
use Rattle.store.specs.Steps.{After, after, add_part}
use Rattle.store.specs.declared.refusal.Refusal.{Refusal}
use Rattle.wire.specs.Rows.{nth}
use Rattle.rules.specs.Checks.{if}
use Rattle.rules.specs.Recipes.{good_part, row_of, good_row, parts_added}

-- the k-th part, if there are so many
there : (ps : List stock.Part) (k : ℕ) → k < length ps → (p : stock.Part) × (nth ps k ≡ Some p) × (drop k ps ≡ p ∷ drop (k + 1) ps)
unfolding nth
there [] k lt = absurd (omega arith)
there (q ∷ ps) zero lt = (q, refl, refl)
there (q ∷ ps) (suc k) lt = let on : suc k + 1 ≡ suc (k + 1) = omega arith in let r = there ps k (omega arith) in (r.0, r.1, r.2 ∙ ap (λ (j : ℕ). r.0 ∷ drop j (q ∷ ps)) (sym on))

-- a row is that of a good part
module _ (i : ℕ) (p : stock.Part) where
  good_is : (x : Part) → Some x ≡ good_row i (Some p) → (good_part p i ≡ true) × (x ≡ row_of p)
  good_is x e = at (good_part p i) e
    where
      at : (b : Bool) → Some x ≡ if b (row_of p) → (b ≡ true) × (x ≡ row_of p)
      at true h = (refl, cc)
      at false h = absurd (cc)

  bad_is : None ≡ good_row i (Some p) → good_part p i ≡ false
  bad_is e = at (good_part p i) e
    where
      at : (b : Bool) → None ≡ if b (row_of p) → b ≡ false
      at true h = absurd (cc)
      at false h = refl

module _ (i : ℕ) (ps : List stock.Part) (k : ℕ) where
  -- WHETHER THEY ARE GOOD ONES, as far as they are looked through
  pub good_turns : (x : Part) → k < length ps → good_parts (drop k ps) i ≡ good_parts ps i → Some x ≡ good_row i (nth ps k) → good_parts (drop (k + 1) ps) i ≡ good_parts ps i
  unfolding good_parts
  good_turns x lt h e =
      let r = there ps k lt in
      let g = good_is i r.0 x (e ∙ ap (good_row i) r.1) in
      sym (ap (λ (b : Bool). b && good_parts (drop (k + 1) ps) i) g.0) ∙ sym (ap (λ (qs : List stock.Part). good_parts qs i) r.2) ∙ h

  pub good_stops : k < length ps → good_parts (drop k ps) i ≡ good_parts ps i → None ≡ good_row i (nth ps k) → false ≡ good_parts ps i
  unfolding good_parts
  good_stops lt h e =
      let r = there ps k lt in
      sym (ap (λ (b : Bool). b && good_parts (drop (k + 1) ps) i) (bad_is i r.0 (e ∙ ap (good_row i) r.1))) ∙ sym (ap (λ (qs : List stock.Part). good_parts qs i) r.2) ∙ h

  pub good_ends : length ps ≤ k → good_parts (drop k ps) i ≡ good_parts ps i → true ≡ good_parts ps i
  unfolding good_parts
  good_ends le h = sym (ap (λ (qs : List stock.Part). good_parts qs i) (drop_all k ps le)) ∙ h

  -- AS FAR AS THEY ARE KEPT: what is to come leaves the same
  pub record KeptSoFar (l : Limits) (old now : List ℕ) : Type 0 where
    pub good : good_parts (drop k ps) i ≡ true
    pub left : parts_added l (drop k ps) now ≡ parts_added l ps old

pub kept_turns : (i : ℕ) (ps : List stock.Part) (k : ℕ) (l m : Limits) (old now new : List ℕ) (x : Part) (came : Result ℕ Refusal) → k < length ps → KeptSoFar i ps k l old now →
    Some x ≡ good_row i (nth ps k) → m ≡ l → after came new ≡ add_part m x now → KeptSoFar i ps (k + 1) l old new
unfolding good_parts parts_added
kept_turns i ps k l m old now new x came lt h e same one =
    let r = there ps k lt in
    let g = good_is i r.0 x (e ∙ ap (good_row i) r.1) in
    let all : good_parts (r.0 ∷ drop (k + 1) ps) i ≡ true = sym (ap (λ (qs : List stock.Part). good_parts qs i) r.2) ∙ h.good in
    let put : new ≡ (add_part l (row_of r.0) now).left = ap (λ (a : After ℕ (List ℕ)). a.left) (one ∙ ap₂ (λ (n : Limits) (y : Part). add_part n y now) same g.1) in
    record {
      good = (and_parts (good_part r.0 i) (good_parts (drop (k + 1) ps) i) all).1;
      left = ap (parts_added l (drop (k + 1) ps)) put ∙ sym (ap (λ (qs : List stock.Part). parts_added l qs now) r.2) ∙ h.left;
    }

-- a part that is there is a good one
pub kept_none : (i : ℕ) (ps : List stock.Part) (k : ℕ) (l : Limits) (old now : List ℕ) → k < length ps → KeptSoFar i ps k l old now → None ≡ good_row i (nth ps k) → ⊥
unfolding good_parts
kept_none i ps k l old now lt h e =
    let r = there ps k lt in
    let all : good_parts (r.0 ∷ drop (k + 1) ps) i ≡ true = sym (ap (λ (qs : List stock.Part). good_parts qs i) r.2) ∙ h.good in
    let bad : good_part r.0 i ≡ false = bad_is i r.0 (e ∙ ap (good_row i) r.1) in
    let good : good_part r.0 i ≡ true = (and_parts (good_part r.0 i) (good_parts (drop (k + 1) ps) i) all).0 in
    cc

pub kept_ends : (i : ℕ) (ps : List stock.Part) (k : ℕ) (l : Limits) (old now : List ℕ) → length ps ≤ k → KeptSoFar i ps k l old now → now ≡ parts_added l ps old
unfolding parts_added
kept_ends i ps k l old now le h = sym (ap (λ (qs : List stock.Part). parts_added l qs now) (drop_all k ps le)) ∙ h.left
