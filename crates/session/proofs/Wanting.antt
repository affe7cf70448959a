-- What is wanted in all of each item: whether so many lie there, and whether taking it empties a lot. Assumes nothing.
use Rattle.std.proofs.Common.{◌≡◌, ℕ, ◌+◌, ◌-◌, ◌^◌, ◌<◌, ◌≤◌, Bool, true, false, cond, ◌||◌, eqb, leb, ◌≢◌, ◌⊎◌, List, [], ◌∷◌, length, sym, refl, ap, ◌∙◌, subst, inl, inr, arith}
use Rattle.std.proofs.lemmas.Bool.{cond-true, cond-false, cases_eq, cases_lt, eq-eqb, ne_eqb, leb-true, leb-false, le-leb, lt-leb, and_parts, and_from}
use Rattle.std.specs.List.{fold, list_all, list_any}
use Rattle.firm.specs.Stock.{take, on_hand, worth, of_item}
use Rattle.firm.specs.Stock as stock
use Rattle.firm.proofs.Bounds.{take_lacking}
use Rattle.firm.proofs.Taking.{take_keeps}
use Rattle.rules.specs.Making.{more_wanted, in_all}
use Rattle.store.specs.Steps.{sum}
use Rattle.taking.specs.Wanted.{wanted}
use Rattle.taking.specs.declared.wants.Want.{Want}
use Rattle.taking.proofs.OneItem.{AllOf, all_of_item, one_item, take_whole, take_some}
use Rattle.session.proofs.Counting.{take_few}

-- pieces of an item that are wanted in all
abbrev pub total : List Want → ℕ → ℕ
total [] i = 0
total (w ∷ ws) i = cond (eqb w.item i) w.pieces 0 + total ws i

pub total_here : (w : Want) (ws : List Want) (i : ℕ) → w.item ≡ i → total (w ∷ ws) i ≡ w.pieces + total ws i
total_here w ws i e = ap (λ (n : ℕ). n + total ws i) (cond-true (eqb w.item i) w.pieces 0 (eq-eqb w.item i e))

pub total_other : (w : Want) (ws : List Want) (i : ℕ) → w.item ≢ i → total (w ∷ ws) i ≡ total ws i
total_other w ws i ne = omega (arith, ap (λ (n : ℕ). n + total ws i) (cond-false (eqb w.item i) w.pieces 0 (ne_eqb w.item i ne)))

fold_total : (ws : List Want) (i a : ℕ) → a < 2 ^ 64 → fold (more_wanted i) a ws ≡ sum a (total ws i)
fold_total [] i a lt = omega arith
fold_total (w ∷ ws) i a lt = at (eqb w.item i) (fold_total ws i)
  where
    at : (t : Bool) → ((b : ℕ) → b < 2 ^ 64 → fold (more_wanted i) b ws ≡ sum b (total ws i)) → fold (more_wanted i) (cond t (sum a w.pieces) a) ws ≡ sum a (cond t w.pieces 0 + total ws i)
    at true h = h (sum a w.pieces) (omega arith) ∙ omega arith
    at false h = h a lt ∙ omega arith

pub in_all_is : (ws : List Want) (i : ℕ) → total ws i < 2 ^ 64 → in_all ws i ≡ total ws i
unfolding in_all
in_all_is ws i lt = fold_total ws i 0 (omega arith) ∙ omega arith

-- each want is of some pieces
abbrev pub AllSome : List Want → Type 0
AllSome [] = Unit
AllSome (w ∷ ws) = (0 < w.pieces) × AllSome ws

-- A TEST OF ITEMS that holds of all or of one that is wanted
pub all_so : (t : ℕ → Bool) (ws : List Want) → list_all (λ w. t w.item) ws ≡ true → (i : ℕ) → 0 < total ws i → t i ≡ true
all_so t [] h i some = absurd (omega arith)
all_so t (w ∷ ws) h i some =
    let p = and_parts (t w.item) (list_all (λ v. t v.item) ws) h in
    elim (cases_eq w.item i) [
      | inl e ↦ subst (λ (n : ℕ). t n ≡ true) e p.0
      | inr ne ↦ all_so t ws p.1 i (omega (arith, total_other w ws i ne))
    ]

pub all_by : (t : ℕ → Bool) (ws : List Want) → ((i : ℕ) → t i ≡ true) → list_all (λ w. t w.item) ws ≡ true
all_by t [] h = refl
all_by t (w ∷ ws) h = and_from (t w.item) (list_all (λ v. t v.item) ws) (h w.item) (all_by t ws h)

-- one of them, with what is wanted of it
pub one_so : (t : ℕ → Bool) (ws : List Want) → AllSome ws → list_any (λ w. t w.item) ws ≡ true → (i : ℕ) × (0 < total ws i) × (t i ≡ true)
one_so t [] k h = absurd (absurd_false h)
  where
    absurd_false : false ≡ true → ⊥
    absurd_false e = cc
one_so t (w ∷ ws) k h = at (t w.item) refl (one_so t ws k.1)
  where
    more : (i : ℕ) → (w.item ≡ i) ⊎ (w.item ≡ i → ⊥) → total ws i ≤ total (w ∷ ws) i
    more i (inl e) = omega (arith, total_here w ws i e)
    more i (inr ne) = omega (arith, total_other w ws i ne)

    at : (b : Bool) → t w.item ≡ b → (list_any (λ v. t v.item) ws ≡ true → (i : ℕ) × (0 < total ws i) × (t i ≡ true)) → (i : ℕ) × (0 < total (w ∷ ws) i) × (t i ≡ true)
    at true e later = (w.item, omega (arith, k.0, total_here w ws w.item refl), e)
    at false e later =
        let r = later (sym (ap (λ (b : Bool). b || list_any (λ v. t v.item) ws) e) ∙ h) in
        (r.0, omega (arith, r.1, more r.0 (cases_eq w.item r.0)), r.2)

pub none_so : (t : ℕ → Bool) (ws : List Want) → list_any (λ w. t w.item) ws ≡ false → (i : ℕ) → 0 < total ws i → t i ≡ false
none_so t [] h i some = absurd (omega arith)
none_so t (w ∷ ws) h i some =
    let p = or_parts (t w.item) (list_any (λ v. t v.item) ws) h in
    elim (cases_eq w.item i) [
      | inl e ↦ subst (λ (n : ℕ). t n ≡ false) e p.0
      | inr ne ↦ none_so t ws p.1 i (omega (arith, total_other w ws i ne))
    ]
  where
    or_parts : (a b : Bool) → (a || b) ≡ false → (a ≡ false) × (b ≡ false)
    or_parts true b e = absurd (apart e)
      where
        apart : true ≡ false → ⊥
        apart e = cc
    or_parts false b e = (refl, e)

-- WHETHER IT LIES THERE: nothing is lacking just where of each item so many lie there
pub rest_lies : (ls : List stock.Lot) (w : Want) (ws : List Want) → ((i : ℕ) → total (w ∷ ws) i ≤ on_hand ls i) → (i : ℕ) → total ws i ≤ on_hand (take ls w.item w.pieces).left i
rest_lies ls w ws h i =
    let k = take_keeps ls w.item w.pieces in
    elim (cases_eq i w.item) [
      | inl e ↦ subst (λ (n : ℕ). total ws n ≤ on_hand (take ls w.item w.pieces).left n) (sym e)
          (omega (arith, k.2, k.3, take_lacking ls w.item w.pieces, h w.item, total_here w ws w.item refl))
      | inr ne ↦ omega (arith, k.4 i ne, h i, total_other w ws i (λ e. ne (sym e)))
    ]

pub lie_lack : (ls : List stock.Lot) (ws : List Want) → ((i : ℕ) → total ws i ≤ on_hand ls i) → (wanted ls ws).lacking ≡ 0
unfolding wanted
lie_lack ls [] h = refl
lie_lack ls (w ∷ ws) h =
    omega (arith, take_lacking ls w.item w.pieces, total_here w ws w.item refl, h w.item, lie_lack (take ls w.item w.pieces).left ws (rest_lies ls w ws h))

pub lack_lie : (ls : List stock.Lot) (ws : List Want) → (wanted ls ws).lacking ≡ 0 → (i : ℕ) → on_hand (wanted ls ws).left i + total ws i ≡ on_hand ls i
unfolding wanted
lack_lie ls [] h i = omega arith
lack_lie ls (w ∷ ws) h i =
    let t : stock.Taken = take ls w.item w.pieces in
    let k = take_keeps ls w.item w.pieces in
    let rest = lack_lie t.left ws (omega (arith, h)) i in
    elim (cases_eq i w.item) [
      | inl e ↦ subst (λ (n : ℕ). on_hand (wanted t.left ws).left n + total ws n ≡ on_hand t.left n → on_hand (wanted t.left ws).left n + total (w ∷ ws) n ≡ on_hand ls n) (sym e)
          (λ r. omega (arith, r, k.2, k.3, h, total_here w ws w.item refl)) rest
      | inr ne ↦ omega (arith, rest, k.4 i ne, total_other w ws i (λ e. ne (sym e)))
    ]

-- WHETHER A LOT IS EMPTIED: the oldest of an item's lots gives all its pieces where so many are wanted
abbrev pub gives : List stock.Lot → ℕ → Bool
gives [] q = false
gives (x ∷ xs) q = leb x.pieces q

fewer_gives : (xs : List stock.Lot) (a b : ℕ) → b ≤ a → gives xs a ≡ false → gives xs b ≡ false
fewer_gives [] a b le h = refl
fewer_gives (x ∷ xs) a b le h = lt-leb x.pieces b (omega (arith, leb-false x.pieces a h))

emptied : (xs : List stock.Lot) (i q : ℕ) → AllOf i xs → 0 < q → gives xs q ≡ true → length (take xs i q).left < length xs
emptied [] i q all some h = absurd (apart h)
  where
    apart : false ≡ true → ⊥
    apart e = cc
emptied (x ∷ xs) i q all some h =
    omega (arith, ap (λ (t : stock.Taken). length t.left) (take_whole x xs i q some all.0 (leb-true x.pieces q h)), take_few xs i (q - x.pieces))

record NoneEmptied (xs left : List stock.Lot) (q : ℕ) : Type 0 where
  many : length left ≡ length xs
  gives-on : (n : ℕ) → gives left n ≡ gives xs (q + n)

none_emptied : (xs : List stock.Lot) (i q : ℕ) → AllOf i xs → 0 < q → gives xs q ≡ false → NoneEmptied xs (take xs i q).left q
unfolding take
none_emptied [] i q all some h = record { many = refl; gives-on = λ n. refl }
none_emptied (x ∷ xs) i q all some h =
    let less : q < x.pieces = leb-false x.pieces q h in
    subst (λ (t : stock.Taken). NoneEmptied (x ∷ xs) t.left q) (sym (take_some x xs i q some all.0 less))
    (record { many = refl; gives-on = λ n. over n (cases_lt (q + n) x.pieces) less })
  where
    over : (n : ℕ) → (q + n < x.pieces) ⊎ (x.pieces ≤ q + n) → q < x.pieces → leb (x.pieces - q) n ≡ leb x.pieces (q + n)
    over n (inl lt) less = lt-leb (x.pieces - q) n (omega arith) ∙ sym (lt-leb x.pieces (q + n) lt)
    over n (inr ge) less = le-leb (x.pieces - q) n (omega arith) ∙ sym (le-leb x.pieces (q + n) ge)

-- taking leaves no more lots
pub wanted_few : (ls : List stock.Lot) (ws : List Want) → length (wanted ls ws).left ≤ length ls
unfolding wanted
wanted_few ls [] = omega arith
wanted_few ls (w ∷ ws) = omega (arith, wanted_few (take ls w.item w.pieces).left ws, take_few ls w.item w.pieces)

module _ (ls : List stock.Lot) (w : Want) (some : 0 < w.pieces) where
  abbrev first : stock.Taken
  first = take ls w.item w.pieces

  abbrev own : List stock.Lot
  own = of_item ls w.item

  first_emptied : gives own w.pieces ≡ true → length first.left < length ls
  first_emptied h = omega (arith, (one_item ls w.item w.pieces).many, emptied own w.item w.pieces (all_of_item ls w.item) some h)

  first_none : gives own w.pieces ≡ false → length first.left ≡ length ls
  first_none h = omega (arith, (one_item ls w.item w.pieces).many, (none_emptied own w.item w.pieces (all_of_item ls w.item) some h).many)

  first_gives : gives own w.pieces ≡ false → (n : ℕ) → gives (of_item first.left w.item) n ≡ gives own (w.pieces + n)
  first_gives h n = ap (λ (xs : List stock.Lot). gives xs n) (one_item ls w.item w.pieces).left ∙ (none_emptied own w.item w.pieces (all_of_item ls w.item) some h).gives-on n

pub frees_less : (ls : List stock.Lot) (ws : List Want) (i : ℕ) → AllSome ws → 0 < total ws i → gives (of_item ls i) (total ws i) ≡ true → length (wanted ls ws).left < length ls
unfolding wanted
frees_less ls [] i all some h = absurd (omega arith)
frees_less ls (w ∷ ws) i all some h = at (gives (of_item ls w.item) w.pieces) refl (λ j. frees_less (take ls w.item w.pieces).left ws j all.1)
  where
    t : stock.Taken
    t = take ls w.item w.pieces

    goal : Type 0
    goal = length (wanted t.left ws).left < length ls

    later : Type 0
    later = (j : ℕ) → 0 < total ws j → gives (of_item t.left j) (total ws j) ≡ true → length (wanted t.left ws).left < length t.left

    same : gives (of_item ls w.item) w.pieces ≡ false → later → (w.item ≡ i) ⊎ (w.item ≡ i → ⊥) → goal
    same e on (inl j) =
        let all_here : gives (of_item ls w.item) (w.pieces + total ws w.item) ≡ true =
        ap (gives (of_item ls w.item)) (sym (total_here w ws w.item refl)) ∙ subst (λ (n : ℕ). gives (of_item ls n) (total (w ∷ ws) n) ≡ true) (sym j) h in
        omega (arith, first_none ls w all.0 e, on w.item (positive (cases_lt 0 (total ws w.item)) all_here e) (first_gives ls w all.0 e (total ws w.item) ∙ all_here))
      where
        positive : (0 < total ws w.item) ⊎ (total ws w.item ≤ 0) → gives (of_item ls w.item) (w.pieces + total ws w.item) ≡ true → gives (of_item ls w.item) w.pieces ≡ false → 0 < total ws w.item
        positive (inl lt) a b = lt
        positive (inr le) a b = absurd (apart (sym a ∙ ap (gives (of_item ls w.item)) (omega (arith, le)) ∙ b))
          where
            apart : true ≡ false → ⊥
            apart e = cc
    same e on (inr ne) =
        omega (
          arith,
          first_none ls w all.0 e,
          on i (omega (arith, some, total_other w ws i ne))
              (ap (λ (xs : List stock.Lot). gives xs (total ws i)) ((one_item ls w.item w.pieces).others i (λ e. ne (sym e))) ∙ ap (gives (of_item ls i)) (sym (total_other w ws i ne)) ∙ h),
        )

    at : (b : Bool) → gives (of_item ls w.item) w.pieces ≡ b → later → goal
    at true e on = omega (arith, first_emptied ls w all.0 e, wanted_few t.left ws)
    at false e on = same e on (cases_eq w.item i)

pub frees_none : (ls : List stock.Lot) (ws : List Want) → AllSome ws → ((i : ℕ) → 0 < total ws i → gives (of_item ls i) (total ws i) ≡ false) → length (wanted ls ws).left ≡ length ls
unfolding wanted
frees_none ls [] all h = refl
frees_none ls (w ∷ ws) all h =
    frees_none (take ls w.item w.pieces).left ws all.1 (λ i some. rest i some (cases_eq w.item i)) ∙ first_none ls w all.0 here
  where
    whole : gives (of_item ls w.item) (w.pieces + total ws w.item) ≡ false
    whole = ap (gives (of_item ls w.item)) (sym (total_here w ws w.item refl)) ∙ h w.item (omega (arith, all.0, total_here w ws w.item refl))

    here : gives (of_item ls w.item) w.pieces ≡ false
    here = fewer_gives (of_item ls w.item) (w.pieces + total ws w.item) w.pieces (omega arith) whole

    rest : (i : ℕ) → 0 < total ws i → (w.item ≡ i) ⊎ (w.item ≡ i → ⊥) → gives (of_item (take ls w.item w.pieces).left i) (total ws i) ≡ false
    rest i some (inl e) =
        subst (λ (n : ℕ). gives (of_item (take ls w.item w.pieces).left n) (total ws n) ≡ false) e (first_gives ls w all.0 here (total ws w.item) ∙ whole)
    rest i some (inr ne) =
        ap (λ (xs : List stock.Lot). gives xs (total ws i)) ((one_item ls w.item w.pieces).others i (λ e. ne (sym e))) ∙ ap (gives (of_item ls i)) (sym (total_other w ws i ne))
        ∙ h i (omega (arith, some, total_other w ws i ne))
