-- Beyond the eight statements, what a program that keeps the books in 64 bits needs: what is reached fits, products stay small, and what is
-- lacking is what is not on hand. Assumes nothing.
use Rattle.std.proofs.Common.{◌≡◌, ℕ, ◌-◌, ◌*◌, ◌≤◌, true, ◌&&◌, ltb, leb, List, [], ◌∷◌, ◌++◌, refl, subst, inl, inr, mul-le-mul, arith}
use lib.Dec.{leb-zero}
use Rattle.std.proofs.lemmas.Bool.{and_parts, leb-true}
use Rattle.firm.specs.Stock.{Lot, Part, take, take_all, on_hand, all_worth}
use Rattle.firm.specs.Ledger.{sum_of}
use Rattle.firm.specs.Firm.{Firm, recipe, the_order, recipe_parts, new_firm}
use Rattle.firm.specs.Calls.{Call, buys, sells, comes, goes, billed_by, bills, pays_out, pays_in, made_of, makes, counted, stock_of, account, order, lots_of, entries_from, garbled, Limits, call_number}
use Rattle.firm.specs.Changes.{changed}
use Rattle.firm.specs.Refusals.{some_pieces, good_fields, good_call, fits}
use Rattle.firm.specs.Statements.{Reached}
use Rattle.firm.specs.Laws.{LackingIs, ReachedFits, Small, AllSmall, LotsSmall, ProductsSmall}
use Rattle.firm.proofs.Picks.{counts, counts_not}
use Rattle.firm.proofs.Cases.{take_cases, counted_cases, reached_keeps}
use Rattle.firm.proofs.Fitting.{Fits, fits_parts}

-- what is lacking is what is not on hand
pub take_lacking : LackingIs
unfolding take on_hand
take_lacking [] i q = omega arith
take_lacking (l ∷ ls) i q =
    take_cases l ls i q (λ t. t.lacking ≡ q - on_hand (l ∷ ls) i)
    (λ z. omega arith)
    (λ p n. omega (arith, take_lacking ls i q, counts_not l.item i l.pieces n))
    (λ p e w. omega (arith, take_lacking ls i (q - l.pieces), counts l.item i l.pieces e))
    (λ p e w. omega (arith, counts l.item i l.pieces e))

-- all that is reached is within the limits
fits_new : (l : Limits) → fits l new_firm ≡ true
unfolding recipe_parts sum_of all_worth
fits_new l = simp leb-zero

pub reached_fits : ReachedFits
reached_fits l = reached_keeps l (λ g. fits l g ≡ true) (λ f c k _. k.fitting) (fits_new l)

pub reached_parts : (l : Limits) (f : Firm) → Reached l f → Fits l f
reached_parts l f r = fits_parts l f (reached_fits l f r)

small_push : (ls : List Lot) (l : Lot) → AllSmall ls → Small l → AllSmall (ls ++ (l ∷ []))
small_push [] l h k = (k, tt)
small_push (m ∷ ls) l h k = (h.0, small_push ls l h.1 k)

pub small_take : (ls : List Lot) (i q : ℕ) → AllSmall ls → AllSmall (take ls i q).left
unfolding take
small_take [] i q h = tt
small_take (l ∷ ls) i q h =
    take_cases l ls i q (λ t. AllSmall t.left)
    (λ z. h)
    (λ p n. (h.0, small_take ls i q h.1))
    (λ p e w. small_take ls i (q - l.pieces) h.1)
    (λ p e w. (elim h.0 [ inl c ↦ inl (omega arith) | inr c ↦ inr (omega arith) ], h.1))

small_take_all : (ls : List Lot) (ps : List Part) (q : ℕ) → AllSmall ls → AllSmall (take_all ls ps q).left
unfolding take_all
small_take_all ls [] q h = h
small_take_all ls (p ∷ ps) q h = small_take_all (take ls p.item (p.each * q)).left ps q (small_take ls p.item (p.each * q) h)

-- the pieces of a call that is good
pieces_small : (q : ℕ) → some_pieces q ≡ true → q ≤ 1000000
pieces_small q h = leb-true q 1000000 (and_parts (leb 1 q) (leb q 1000000) h).1

abbrev AllSmallIn : Firm → Type 0
AllSmallIn f = AllSmall f.lots

small_keeps : (l : Limits) (f : Firm) (c : Call) → good_call l c ≡ true → AllSmallIn f → AllSmallIn (changed f c)
unfolding changed good_fields call_number
small_keeps l f (buys i q p) g h = h
small_keeps l f (sells i q p) g h = h
small_keeps l f (comes o q) g h = small_push f.lots _ h (inr (pieces_small q (and_parts _ (some_pieces q) g).1))
small_keeps l f (goes o q) g h = small_take f.lots (the_order f o).item q h
small_keeps l f (billed_by o q x) g h = h
small_keeps l f (bills o q) g h = h
small_keeps l f (pays_out x) g h = h
small_keeps l f (pays_in x) g h = h
small_keeps l f (made_of i ps) g h = h
small_keeps l f (makes i q) g h =
    let pieces = (and_parts (ltb i l.items) (some_pieces q) (and_parts _ (ltb i l.items && some_pieces q) g).1).1 in
    small_push _ _ (small_take_all f.lots (recipe f.recipes i []) q h) (inr (pieces_small q pieces))
small_keeps l f (counted i q) g h =
    counted_cases f i q AllSmallIn (λ _. h) (λ _. small_push f.lots _ h (inl refl)) (λ _. small_take f.lots i (on_hand f.lots i - q) h)
small_keeps l f (stock_of i) g h = h
small_keeps l f (account a) g h = h
small_keeps l f (order o) g h = h
small_keeps l f (lots_of i) g h = h
small_keeps l f (entries_from n k) g h = h
small_keeps l f (garbled n) g h = h

pub reached_small : LotsSmall
reached_small l = reached_keeps l AllSmallIn (λ f c k. small_keeps l f c k.good) tt

-- so cost times pieces stays below 2 ^ 63
pub product_small : (l : Lot) → Small l → l.cost ≤ 1000000000000 → l.cost * l.pieces ≤ 1000000000000000000
product_small l (inl e) h = rw e (omega arith)
product_small l (inr k) h = mul-le-mul h k

-- one of several lots is small where all are, and costs no more than all
small_at : (xs ys : List Lot) (x : Lot) → AllSmall (xs ++ (x ∷ ys)) → Small x
small_at [] ys x h = h.0
small_at (y ∷ xs) ys x h = small_at xs ys x h.1

worth_at : (xs ys : List Lot) (x : Lot) → x.cost ≤ all_worth (xs ++ (x ∷ ys))
unfolding all_worth
worth_at [] ys x = omega arith
worth_at (y ∷ xs) ys x = omega (arith, worth_at xs ys x)

pub products_small : ProductsSmall
products_small l f xs ys x r e =
    let small = small_at xs ys x (subst AllSmall e (reached_small l f r)) in
    let cheap : all_worth (xs ++ (x ∷ ys)) ≤ 1000000000000 = subst (λ ls. all_worth ls ≤ 1000000000000) e (leb-true _ _ (reached_parts l f r).worth) in
    let cost : x.cost ≤ 1000000000000 = omega (arith, worth_at xs ys x) in
    omega (arith, product_small x small cost)
