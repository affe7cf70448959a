-- Statements 2 and 3: taking loses nothing, and the oldest goes first. Assumes nothing.
use Rattle.std.proofs.Common.{◌≡◌, ℕ, ◌+◌, ◌-◌, ◌*◌, ◌/◌, ◌<◌, ◌≤◌, ◌≢◌, List, [], ◌∷◌, ◌++◌, sym, refl, ap, ◌∙◌, append_assoc, le_of_lt, mul-le-mul_left, arith}
use native.Mathlib.Nat.{div-le_of_le-mul}
use Rattle.firm.specs.Stock.{Lot, Taken, take, on_hand, worth, all_worth}
use Rattle.firm.specs.Statements.{TakingKeeps, OldestFirst}
use Rattle.firm.proofs.Picks.{counts, counts_not}
use Rattle.firm.proofs.Cases.{take_cases, rest_of}

-- some pieces of a lot cost no more than all
pub share_le : (c q p : ℕ) → q < p → c * q / p ≤ c
share_le c q p h = div-le_of_le-mul p (omega (arith, mul-le-mul_left c (le_of_lt h)))

-- what statement 2 says of what was taken
abbrev pub Kept : List Lot → ℕ → ℕ → Taken → Type 0
Kept ls i q t =
    (all_worth t.left + t.cost ≡ all_worth ls) × (all_worth t.parts ≡ t.cost) × (on_hand t.parts i + t.lacking ≡ q)
    × (on_hand t.left i + on_hand t.parts i ≡ on_hand ls i) × ((j : ℕ) → j ≢ i → on_hand t.left j ≡ on_hand ls j)

pub take_keeps : (ls : List Lot) (i q : ℕ) → Kept ls i q (take ls i q)
unfolding take on_hand all_worth
take_keeps [] i q = (refl, refl, omega arith, refl, λ j h. refl)
take_keeps (l ∷ ls) i q =
    take_cases l ls i q (Kept (l ∷ ls) i q)
    (λ z. omega arith)
    (λ p n. let h = take_keeps ls i q in omega arith)
    (λ p e w.
    let h = take_keeps ls i (q - l.pieces) in
    let here = counts l.item i l.pieces e in
    (omega arith, omega arith, omega arith, omega arith, λ j n. omega (arith, h.4 j n, counts_not l.item j l.pieces (apart e n))))
    (λ p e w.
    let here = counts l.item i l.pieces e in
    let left = counts i i (l.pieces - q) refl in
    let gone = counts i i q refl in
    let share = share_le l.cost q l.pieces w in (
      omega arith,
      omega arith,
      omega arith,
      omega arith,
      λ j n. omega (arith, counts_not l.item j l.pieces (apart e n), counts_not i j (l.pieces - q) (apart refl n)),
    ))
  where
    apart : {a b j : ℕ} → a ≡ b → j ≢ b → a ≢ j
    apart e n d = omega arith

-- of every other item no cent is taken
pub take_worth_other : (ls : List Lot) (i q j : ℕ) → j ≢ i → worth (take ls i q).left j ≡ worth ls j
unfolding take worth
take_worth_other [] i q j n = refl
take_worth_other (l ∷ ls) i q j n =
    take_cases l ls i q (λ t. worth t.left j ≡ worth (l ∷ ls) j)
    (λ _. refl)
    (λ _ _. omega (arith, take_worth_other ls i q j n))
    (λ _ e _. omega (arith, take_worth_other ls i (q - l.pieces) j n, counts_not l.item j l.cost (λ d. n (sym d ∙ e))))
    (λ _ e _. omega (arith, counts_not l.item j l.cost (λ d. n (sym d ∙ e)), counts_not i j (l.cost - l.cost * q / l.pieces) (λ d. n (sym d))))

pub taking_keeps : TakingKeeps
taking_keeps = take_keeps

-- STATEMENT 3: by induction on the older lots; in each way what is left ends in ys
pub oldest_first : OldestFirst
unfolding take on_hand
oldest_first [] ys l q h =
    take_cases l ys l.item q (λ t. (rest : List Lot) × (t.left ≡ rest ++ ys))
    (λ z. (l ∷ [], refl))
    (λ p n. absurd (n refl))
    (λ p e w. absurd (omega arith))
    (λ p e w. (_ ∷ [], refl))
oldest_first (x ∷ xs) ys l q h =
    take_cases x (xs ++ (l ∷ ys)) l.item q (λ t. (rest : List Lot) × (t.left ≡ rest ++ ys))
    (λ z. (x ∷ (xs ++ (l ∷ [])), ap (λ s. x ∷ s) (sym (append_assoc xs (l ∷ []) ys))))
    (λ p n. let r = oldest_first xs ys l q (omega (arith, counts_not x.item l.item x.pieces n)) in (x ∷ r.0, ap (λ s. x ∷ s) r.1))
    (λ p e w. oldest_first xs ys l (q - x.pieces) (omega (arith, counts x.item l.item x.pieces e)))
    (λ p e w. let y = rest_of x l.item q in (y ∷ (xs ++ (l ∷ [])), ap (λ s. y ∷ s) (sym (append_assoc xs (l ∷ []) ys))))
