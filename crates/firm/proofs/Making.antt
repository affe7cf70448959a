-- Statement 6: what is made costs what went into it, and is on hand. Assumes nothing.
use Rattle.std.proofs.Common.{◌≡◌, ℕ, ◌+◌, ◌*◌, ◌<◌, true, ◌&&◌, eqb, ltb, leb, ◌≢◌, List, [], ◌∷◌, ◌++◌, length, sym, refl, ◌∙◌, subst, append-nil, arith}
use Rattle.std.proofs.lemmas.Bool.{and_parts, ltb-true, eqb-true, eq-eqb}
use Rattle.firm.specs.Stock.{pick, Lot, Part, Taken, take, take_all, on_hand, worth, all_worth}
use Rattle.firm.specs.Firm.{Firm, Recipe, recipe}
use Rattle.firm.specs.Calls.{Call, buys, sells, comes, goes, billed_by, bills, pays_out, pays_in, made_of, makes, counted, stock_of, account, order, lots_of, entries_from, garbled, Limits, call_number}
use Rattle.firm.specs.Changes.{changed}
use Rattle.firm.specs.Refusals.{good_parts, good_fields, good_call, turned}
use Rattle.firm.specs.Statements.{MadeCosts}
use Rattle.firm.proofs.Picks.{pick-both, pick_true, counts}
use Rattle.firm.proofs.Cases.{counted_cases, reached_keeps}
use Rattle.firm.proofs.Taking.{take_keeps, take_worth_other}
use Rattle.firm.proofs.RecipeTaking.{recipe_taking_keeps}
use Rattle.firm.proofs.Ledger.{worth_push, on_hand_push, item_worth_push}

-- all parts are of smaller items, so of what is made no piece is taken, and no cent
pub take_all_other : (ls : List Lot) (ps : List Part) (q i : ℕ) → good_parts ps i ≡ true →
    (on_hand (take_all ls ps q).left i ≡ on_hand ls i) × (worth (take_all ls ps q).left i ≡ worth ls i)
unfolding take_all good_parts
take_all_other ls [] q i h = (refl, refl)
take_all_other ls (p ∷ ps) q i h =
    let both = and_parts (ltb p.item i && (leb 1 p.each && leb p.each 1000)) (good_parts ps i) h in
    let smaller : p.item < i = ltb-true p.item i (and_parts (ltb p.item i) (leb 1 p.each && leb p.each 1000) both.0).0 in
    let t : Taken = take ls p.item (p.each * q) in
    let more = take_all_other t.left ps q i both.1 in
    (more.0 ∙ (take_keeps ls p.item (p.each * q)).4 i (apart smaller), more.1 ∙ take_worth_other ls p.item (p.each * q) i (apart smaller))
  where
    apart : {a b : ℕ} → a < b → b ≢ a
    apart h e = omega arith

-- every recipe in the books is of smaller items
GoodRecipes : List Recipe → Type 0
GoodRecipes [] = Unit
GoodRecipes (r ∷ rs) = (good_parts r.of_parts r.makes ≡ true) × GoodRecipes rs

good_push : (rs : List Recipe) (r : Recipe) → GoodRecipes rs → good_parts r.of_parts r.makes ≡ true → GoodRecipes (rs ++ (r ∷ []))
unfolding GoodRecipes
good_push [] r h k = (k, tt)
good_push (s ∷ rs) r h k = (h.0, good_push rs r h.1 k)

good_recipe : (rs : List Recipe) (i : ℕ) (d : List Part) → GoodRecipes rs → good_parts d i ≡ true → good_parts (recipe rs i d) i ≡ true
unfolding GoodRecipes recipe
good_recipe [] i d h k = k
good_recipe (r ∷ rs) i d h k =
    good_recipe rs i (pick (eqb r.makes i) r.of_parts d) h.1
    (pick-both (eqb r.makes i) r.of_parts d (λ ps. good_parts ps i ≡ true)
    (λ e. subst (λ n. good_parts r.of_parts n ≡ true) (eqb-true r.makes i e) h.0) (λ _. k))

abbrev Makeable : Firm → Type 0
Makeable f = GoodRecipes f.recipes

makeable_keeps : (l : Limits) (f : Firm) (c : Call) → good_call l c ≡ true → Makeable f → Makeable (changed f c)
unfolding changed good_fields call_number
makeable_keeps l f (buys i q p) g h = h
makeable_keeps l f (sells i q p) g h = h
makeable_keeps l f (comes o q) g h = h
makeable_keeps l f (goes o q) g h = h
makeable_keeps l f (billed_by o q x) g h = h
makeable_keeps l f (bills o q) g h = h
makeable_keeps l f (pays_out x) g h = h
makeable_keeps l f (pays_in x) g h = h
makeable_keeps l f (made_of i ps) g h =
    let fields = (and_parts _ (ltb i l.items && (good_parts ps i && (leb 1 (length ps) && leb (length ps) 16))) g).1 in
    let parts = (and_parts (ltb i l.items) (good_parts ps i && (leb 1 (length ps) && leb (length ps) 16)) fields).1 in
    good_push f.recipes (record { makes = i; of_parts = ps }) h (and_parts (good_parts ps i) (leb 1 (length ps) && leb (length ps) 16) parts).0
makeable_keeps l f (makes i q) g h = h
makeable_keeps l f (counted i q) g h = counted_cases f i q Makeable (λ _. h) (λ _. h) (λ _. h)
makeable_keeps l f (stock_of i) g h = h
makeable_keeps l f (account a) g h = h
makeable_keeps l f (order o) g h = h
makeable_keeps l f (lots_of i) g h = h
makeable_keeps l f (entries_from n k) g h = h
makeable_keeps l f (garbled n) g h = h

-- what statement 6 says of what became of f
abbrev Made : Firm → ℕ → ℕ → Firm → Type 0
Made f i q g =
    (all_worth g.lots ≡ all_worth f.lots) × (g.entries ≡ f.entries) × (on_hand g.lots i ≡ on_hand f.lots i + q)
    × (worth g.lots i ≡ worth f.lots i + (take_all f.lots (recipe f.recipes i []) q).cost)

changed_made : (f : Firm) (i q : ℕ) → GoodRecipes f.recipes → Made f i q (changed f (makes i q))
unfolding changed good_parts
changed_made f i q h =
    let ps : List Part = recipe f.recipes i [] in
    let none = take_all_other f.lots ps q i (good_recipe f.recipes i [] h refl) in
    let cents = (recipe_taking_keeps f.lots ps q).0 in
    let cost : ℕ = (take_all f.lots ps q).cost in (
      rw worth_push (omega arith),
      append-nil f.entries,
      rw on_hand_push (omega (arith, counts i i q refl)),
      rw item_worth_push (omega (arith, counts i i cost refl)),
    )

pub made_costs : MadeCosts
unfolding GoodRecipes
made_costs l f i q r t =
    subst (Made f i q) (sym (pick_true (eqb (turned l f (makes i q)) 0) (changed f (makes i q)) f (eq-eqb (turned l f (makes i q)) 0 t)))
    (changed_made f i q (reached_keeps l Makeable (λ g c k. makeable_keeps l g c k.good) tt f r))
