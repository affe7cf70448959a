-- What a tally comes to. Assumes nothing.
use Rattle.std.proofs.Common.{◌≡◌, ℕ, ◌+◌, ◌^◌, ◌<◌, true, false, cond, eqb, ◌⊎◌, List, [], ◌∷◌, length, get_or, set, sym, ap, ◌∙◌, inl, inr, arith, length-set, get_or-set_other, get_or-set_same}
use Rattle.std.proofs.lemmas.List.{length-replicate}
use Rattle.std.proofs.lemmas.Simd.{get_or-replicate}
use Rattle.std.proofs.lemmas.Bool.{cases_eq, cond-true, cond-false, eq-eqb, ne_eqb}
use Rattle.firm.specs.Calls.{Answer, refused, number, two, lots, entries}
use Rattle.text.specs.Statements.{taken, refused_by, count_if, capped, TallyCounts}
use Rattle.text.specs.Tallies.{no_tally, one_more, with_taken, with_refused, tallied}
use Rattle.text.specs.declared.tally.Tally.{Tally}

takes_from : (told : List Answer) (t : Tally) → t.taken < 2 ^ 64 → (tallied t told).taken ≡ capped (t.taken + count_if taken told)
takes_from [] t h = omega arith
takes_from (refused n k ∷ told) t h = takes_from told (with_refused n t) h ∙ omega arith
takes_from (number n ∷ told) t h = takes_from told (with_taken t) (omega arith) ∙ omega arith
takes_from (two a b ∷ told) t h = takes_from told (with_taken t) (omega arith) ∙ omega arith
takes_from (lots ls ∷ told) t h = takes_from told (with_taken t) (omega arith) ∙ omega arith
takes_from (entries es ∷ told) t h = takes_from told (with_taken t) (omega arith) ∙ omega arith

turns_from : (told : List Answer) (t : Tally) → t.turned < 2 ^ 64 → (tallied t told).turned ≡ capped (t.turned + count_if (λ a. cond (taken a) false true) told)
turns_from [] t h = omega arith
turns_from (refused n k ∷ told) t h = turns_from told (with_refused n t) (omega arith) ∙ omega arith
turns_from (number n ∷ told) t h = turns_from told (with_taken t) h ∙ omega arith
turns_from (two a b ∷ told) t h = turns_from told (with_taken t) h ∙ omega arith
turns_from (lots ls ∷ told) t h = turns_from told (with_taken t) h ∙ omega arith
turns_from (entries es ∷ told) t h = turns_from told (with_taken t) h ∙ omega arith

-- one more by a refusal, and by which
bumped : (xs : List ℕ) (m n : ℕ) → n < length xs → get_or xs n 0 < 2 ^ 64 → get_or (set xs m (one_more (get_or xs m 0))) n 0 ≡ capped (get_or xs n 0 + cond (eqb m n) 1 0)
bumped xs m n h small = at (cases_eq m n)
  where
    at : (m ≡ n) ⊎ (m ≡ n → ⊥) → get_or (set xs m (one_more (get_or xs m 0))) n 0 ≡ capped (get_or xs n 0 + cond (eqb m n) 1 0)
    at (inl e) =
        ap (λ (k : ℕ). get_or (set xs k (one_more (get_or xs k 0))) n 0) e ∙ get_or-set_same xs n (one_more (get_or xs n 0)) 0 h
        ∙ ap (λ (k : ℕ). capped (get_or xs n 0 + k)) (sym (cond-true {A = ℕ} (eqb m n) 1 0 (eq-eqb m n e)))
    at (inr ne) =
        get_or-set_other xs m n (one_more (get_or xs m 0)) 0 (λ e. ne (sym e)) ∙ whole (get_or xs n 0) small ∙ ap (λ (k : ℕ). capped (get_or xs n 0 + k)) (sym (cond-false {A = ℕ} (eqb m n) 1 0 (ne_eqb m n ne)))
      where
        whole : (k : ℕ) → k < 2 ^ 64 → k ≡ capped (k + 0)
        whole k lt = omega arith

by_from : (told : List Answer) (t : Tally) (n : ℕ) → n < length t.by → get_or t.by n 0 < 2 ^ 64 → get_or (tallied t told).by n 0 ≡ capped (get_or t.by n 0 + count_if (refused_by n) told)
by_from [] t n h small = omega arith
by_from (refused m k ∷ told) t n h small =
    let more = bumped t.by m n h small in
    by_from told (with_refused m t) n (omega (arith, length-set t.by m (one_more (get_or t.by m 0)))) (omega (arith, more)) ∙ omega (arith, more)
by_from (number m ∷ told) t n h small = by_from told (with_taken t) n h small ∙ omega arith
by_from (two a b ∷ told) t n h small = by_from told (with_taken t) n h small ∙ omega arith
by_from (lots ls ∷ told) t n h small = by_from told (with_taken t) n h small ∙ omega arith
by_from (entries es ∷ told) t n h small = by_from told (with_taken t) n h small ∙ omega arith

pub tally_counts : TallyCounts
tally_counts =
    record {
      takes = λ told. takes_from told no_tally (omega arith) ∙ omega arith;
      turns = λ told. turns_from told no_tally (omega arith) ∙ omega arith;
      by_each = λ told n h.
          let none : get_or no_tally.by n 0 ≡ 0 = get_or-replicate 10 n 0 0 h in
          by_from told no_tally n (omega (arith, length-replicate {A = ℕ} 10 0)) (omega (arith, none)) ∙ omega (arith, none);
    }
