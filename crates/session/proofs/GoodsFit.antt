-- Whether goods can go: where all that lies there of an item would be within the limits, what costs no more is. Assumes nothing.
use Rattle.std.proofs.Common.{◌≡◌, ℕ, ◌+◌, ◌≤◌, Bool, true, false, cond, ◌&&◌, ◌||◌, eqb, leb, sym, refl, ap, ◌∙◌, arith}
use Rattle.std.proofs.lemmas.Bool.{cond_both, and_from, and_parts, leb-true, le-leb}
use Rattle.layout.specs.declared.head.Counter.TheVariants.{Entries}
use Rattle.layout.specs.declared.head.Total.TheVariants.{Booked}
use Rattle.layout.specs.declared.limits.Limits.{Limits}
use Rattle.memory.specs.Books.{count_of, total_of, stock_of}
use Rattle.records.specs.State.{State}
use Rattle.rules.specs.Checks.{document_fits, room, enters}
use Rattle.rules.specs.Going.{goods_fit}
use Rattle.taking.specs.Takes.{cost_of}
use Rattle.taking.specs.declared.wants.Want.{Want}

-- what goes at the cost x is within the limits
abbrev pub goes_fits : Limits → ℕ → State → Bool
goes_fits l x s = enters l x s && document_fits s

module _ (l : Limits) (w : Want) (x : ℕ) (s : State) where
  abbrev all : ℕ
  all = (stock_of w.item s.wide).worth

  one_most : (n : ℕ) → cond (eqb n 0) 0 1 ≤ 1
  one_most n = cond_both (eqb n 0) 0 1 (λ (m : ℕ). m ≤ 1) (λ _. omega arith) (λ _. omega arith)

  whole : x ≤ all → room l 1 all s ≡ true → enters l x s ≡ true
  whole le e =
      let p = and_parts (leb (count_of Entries s.narrow + 1) l.entries) (leb (total_of Booked s.wide + all) 1000000000000000) e in
      and_from (leb (count_of Entries s.narrow + cond (eqb x 0) 0 1) l.entries) (leb (total_of Booked s.wide + x) 1000000000000000)
      (le-leb _ _ (omega (arith, leb-true _ _ p.0, one_most x))) (le-leb _ _ (omega (arith, leb-true _ _ p.1, le)))

  implied : (u v : Bool) → (u ≡ true → v ≡ true) → (u || v) ≡ v
  implied true v to = sym (to refl)
  implied false v to = refl

  pub goods_are : cost_of l w s ≡ x → x ≤ all → goods_fit l w s ≡ goes_fits l x s
  goods_are is le =
      ap (λ (b : Bool). b && document_fits s) (ap (λ (n : ℕ). room l 1 all s || enters l n s) is ∙ implied (room l 1 all s) (enters l x s) (whole le))
