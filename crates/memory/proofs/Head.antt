-- The words of the head: what was put is got, and the others stay.
use Rattle.std.proofs.Common.{◌≡◌, ℕ, ◌<◌, ◌≤◌, cond, eqb, ◌≢◌, List, length, get_or, sym, refl, ap, ◌∙◌, arith, length-set, get_or-set_other, get_or-set_same}
use Rattle.layout.proofs.Owners.{owns_limit, owns_counter, owns_total}
use Rattle.layout.specs.Layout.{count_at, total_at}
use Rattle.layout.specs.Words.{Owner, limits, counters, totals, owner, wide_owner, Only, OnlyWide}
use Rattle.layout.specs.declared.head.Counter.{Counter}
use Rattle.layout.specs.declared.head.Counter.TheVariants.{Orders, Entries, Parts, Lots}
use Rattle.layout.specs.declared.head.Total.{Total}
use Rattle.layout.specs.declared.head.Total.TheVariants.{Documents, Booked, Worth}
use Rattle.layout.specs.declared.limits.Limits.{Limits}
use Rattle.memory.specs.Books.{limits_in, count_of, put_count, total_of, put_total}
use Rattle.memory.specs.Slots.{Head}

pub count_place : (c : Counter) → (16 ≤ count_at c) × (count_at c < 20)
count_place Orders = (omega arith, omega arith)
count_place Entries = (omega arith, omega arith)
count_place Parts = (omega arith, omega arith)
count_place Lots = (omega arith, omega arith)

abbrev counter_at : ℕ → Counter
counter_at i = cond (eqb i 16) Orders (cond (eqb i 17) Entries (cond (eqb i 18) Parts Lots))

counter_back : (c : Counter) → counter_at (count_at c) ≡ c
counter_back Orders = refl
counter_back Entries = refl
counter_back Parts = refl
counter_back Lots = refl

pub total_place : (t : Total) → total_at t < 3
total_place Documents = omega arith
total_place Booked = omega arith
total_place Worth = omega arith

abbrev total_which : ℕ → Total
total_which i = cond (eqb i 0) Documents (cond (eqb i 1) Booked Worth)

total_back : (t : Total) → total_which (total_at t) ≡ t
total_back Documents = refl
total_back Booked = refl
total_back Worth = refl

pub count_same : (c : Counter) (v : ℕ) (n : List ℕ) → 64 ≤ length n → count_of c (put_count c v n) ≡ v
unfolding count_of put_count
count_same c v n long = get_or-set_same n (count_at c) v 0 (omega (arith, count_place c))

pub count_other : (c d : Counter) (v : ℕ) (n : List ℕ) → c ≢ d → count_of c (put_count d v n) ≡ count_of c n
unfolding count_of put_count
count_other c d v n ne = get_or-set_other n (count_at d) (count_at c) v 0 (λ e. ne (sym (counter_back c) ∙ ap counter_at e ∙ counter_back d))

counter_own : (c : Counter) (l : Limits) → owner l (count_at c) ≡ counters
counter_own c l = owns_counter l (count_at c) (count_place c).0 (omega (arith, count_place c))

pub count_within : (c : Counter) (v : ℕ) (l : Limits) (n : List ℕ) → Only counters l n (put_count c v n)
unfolding put_count
count_within c v l n = record { long = length-set n (count_at c) v; others = λ i ne. get_or-set_other n (count_at c) i v 0 (λ e. ne (ap (owner l) e ∙ counter_own c l)) }

pub count_kept : (c : Counter) (y : Owner) (l : Limits) (n n' : List ℕ) → counters ≢ y → Only y l n n' → count_of c n' ≡ count_of c n
unfolding count_of
count_kept c y l n n' ne only = only.others (count_at c) (λ e. ne (sym (counter_own c l) ∙ e))

pub total_same : (t : Total) (v : ℕ) (w : List ℕ) → 64 ≤ length w → total_of t (put_total t v w) ≡ v
unfolding total_of put_total
total_same t v w long = get_or-set_same w (total_at t) v 0 (omega (arith, total_place t))

pub total_other : (t u : Total) (v : ℕ) (w : List ℕ) → t ≢ u → total_of t (put_total u v w) ≡ total_of t w
unfolding total_of put_total
total_other t u v w ne = get_or-set_other w (total_at u) (total_at t) v 0 (λ e. ne (sym (total_back t) ∙ ap total_which e ∙ total_back u))

total_own : (t : Total) (l : Limits) → wide_owner l (total_at t) ≡ totals
total_own t l = owns_total l (total_at t) (omega (arith, total_place t))

pub total_within : (t : Total) (v : ℕ) (l : Limits) (w : List ℕ) → OnlyWide totals l w (put_total t v w)
unfolding put_total
total_within t v l w = record { long = length-set w (total_at t) v; others = λ i ne. get_or-set_other w (total_at t) i v 0 (λ e. ne (ap (wide_owner l) e ∙ total_own t l)) }

pub total_kept : (t : Total) (y : Owner) (l : Limits) (w w' : List ℕ) → totals ≢ y → OnlyWide y l w w' → total_of t w' ≡ total_of t w
unfolding total_of
total_kept t y l w w' ne only = only.others (total_at t) (λ e. ne (sym (total_own t l) ∙ e))

pub limits_same : (n n' : List ℕ) → ((i : ℕ) → i < 5 → get_or n' i 0 ≡ get_or n i 0) → limits_in n' ≡ limits_in n
limits_same n n' same =
    let a = same 0 (omega arith) in
    let b = same 1 (omega arith) in
    let c = same 2 (omega arith) in
    let d = same 3 (omega arith) in
    let e = same 4 (omega arith) in
    cc

pub limits_kept : (y : Owner) (l : Limits) (n n' : List ℕ) → limits ≢ y → Only y l n n' → limits_in n' ≡ limits_in n
limits_kept y l n n' ne only = limits_same n n' (λ i lt. only.others i (λ e. ne (sym (owns_limit l i (omega arith)) ∙ e)))

pub head : Head
head = record {
  count_same = count_same;
  count_other = count_other;
  count_within = count_within;
  count_kept = count_kept;
  total_same = total_same;
  total_other = total_other;
  total_within = total_within;
  total_kept = total_kept;
  limits_kept = limits_kept;
}
