-- Recipes of the books: what one asks for, read row by row. Assumes nothing.
use Rattle.std.proofs.Common.{◌≡◌, ℕ, zero, suc, ◌+◌, ◌*◌, ◌^◌, ◌<◌, ◌≤◌, min, true, ◌&&◌, eqb, ltb, leb, ◌⊎◌, inl, inr, List, [], ◌∷◌, ◌++◌, map, length, get_or, take, drop, sym, refl, ap, ◌∙◌, subst, mul-le-mul, arith, length-drop}
use Rattle.std.proofs.lemmas.List.{drop_more, length-take, length-map}
use Rattle.std.proofs.lemmas.Bool.{and_parts, ltb-true, leb-true, eqb-true, cond_both, cases_eq}
use Rattle.firm.specs.Stock.{pick, Part}
use Rattle.firm.specs.Firm.{Firm, Recipe, recipe}
use Rattle.firm.specs.Calls.{Call, buys, sells, comes, goes, billed_by, bills, pays_out, pays_in, made_of, makes, counted, stock_of, account, order, lots_of, entries_from, garbled, Limits, call_number}
use Rattle.firm.specs.Changes.{changed}
use Rattle.firm.specs.Refusals.{good_parts, good_fields, good_call}
use Rattle.firm.specs.Statements.{Reached}
use Rattle.firm.proofs.Cases.{counted_cases, reached_keeps}
use Rattle.firm.proofs.Picks.{pick-both}
use Rattle.layout.specs.declared.limits.Limits as memory
use Rattle.memory.specs.Books.{part_record}
use Rattle.records.specs.Kinds.{part_kind}
use Rattle.records.specs.declared.part.Part as records
use Rattle.records.specs.declared.recipe.Recipe as lying
use Rattle.rules.specs.Making.{row_from, part_wanted, wants_on, parts_wanted}
use Rattle.rules.specs.Making as making
use Rattle.store.specs.View.{Table}
use Rattle.taking.specs.Laws.{KnownItems}
use Rattle.taking.specs.Takes.{want}
use Rattle.taking.specs.Wanted.{wants_of}
use Rattle.taking.specs.declared.wants.Want.{Want}
use Rattle.session.specs.Means.{part_of, rows_of}
use Rattle.session.proofs.Wanting.{total, AllSome}

-- IN BOOKS THAT ARE REACHED a recipe is of smaller items, 1 to 1,000 pieces of each, and of 16 parts at most
pub record Fine (i : ℕ) (ps : List Part) : Type 0 where
  pub parts : good_parts ps i ≡ true
  pub few : length ps ≤ 16

abbrev AllFine : List Recipe → Type 0
AllFine [] = Unit
AllFine (r ∷ rs) = Fine r.makes r.of_parts × AllFine rs

fine_push : (rs : List Recipe) (r : Recipe) → AllFine rs → Fine r.makes r.of_parts → AllFine (rs ++ (r ∷ []))
fine_push [] r h k = (k, tt)
fine_push (s ∷ rs) r h k = (h.0, fine_push rs r h.1 k)

fine_recipe : (rs : List Recipe) (i : ℕ) (d : List Part) → AllFine rs → Fine i d → Fine i (recipe rs i d)
unfolding recipe
fine_recipe [] i d h k = k
fine_recipe (r ∷ rs) i d h k =
    fine_recipe rs i (pick (eqb r.makes i) r.of_parts d) h.1
    (pick-both (eqb r.makes i) r.of_parts d (Fine i) (λ e. subst (λ (n : ℕ). Fine n r.of_parts) (eqb-true r.makes i e) h.0) (λ _. k))

fine_keeps : (l : Limits) (f : Firm) (c : Call) → good_call l c ≡ true → AllFine f.recipes → AllFine (changed f c).recipes
unfolding changed good_fields call_number
fine_keeps l f (buys i q p) g h = h
fine_keeps l f (sells i q p) g h = h
fine_keeps l f (comes o q) g h = h
fine_keeps l f (goes o q) g h = h
fine_keeps l f (billed_by o q x) g h = h
fine_keeps l f (bills o q) g h = h
fine_keeps l f (pays_out x) g h = h
fine_keeps l f (pays_in x) g h = h
fine_keeps l f (made_of i ps) g h =
    let fields = (and_parts _ (ltb i l.items && (good_parts ps i && (leb 1 (length ps) && leb (length ps) 16))) g).1 in
    let parts = and_parts (good_parts ps i) (leb 1 (length ps) && leb (length ps) 16) (and_parts (ltb i l.items) (good_parts ps i && (leb 1 (length ps) && leb (length ps) 16)) fields).1 in
    fine_push f.recipes (record { makes = i; of_parts = ps }) h
    (record { parts = parts.0; few = leb-true (length ps) 16 (and_parts (leb 1 (length ps)) (leb (length ps) 16) parts.1).1 })
fine_keeps l f (makes i q) g h = h
fine_keeps l f (counted i q) g h = counted_cases f i q (λ (g : Firm). AllFine g.recipes) (λ _. h) (λ _. h) (λ _. h)
fine_keeps l f (stock_of i) g h = h
fine_keeps l f (account a) g h = h
fine_keeps l f (order o) g h = h
fine_keeps l f (lots_of i) g h = h
fine_keeps l f (entries_from n k) g h = h
fine_keeps l f (garbled n) g h = h

pub reached_fine : (l : Limits) (f : Firm) → Reached l f → (i : ℕ) → Fine i (recipe f.recipes i [])
unfolding good_parts
reached_fine l f r i =
    fine_recipe f.recipes i [] (reached_keeps l (λ (g : Firm). AllFine g.recipes) (λ g c k. fine_keeps l g c k.good) tt f r) (record { parts = refl; few = omega arith })

-- WHAT ONE ASKS FOR: some pieces each, of items that there are, and not too many
module _ (i q : ℕ) where
  first_part : (p : Part) (ps : List Part) → good_parts (p ∷ ps) i ≡ true → (p.item < i) × (1 ≤ p.each) × (p.each ≤ 1000) × (good_parts ps i ≡ true)
  unfolding good_parts
  first_part p ps h =
      let both = and_parts (ltb p.item i && (leb 1 p.each && leb p.each 1000)) (good_parts ps i) h in
      let here = and_parts (ltb p.item i) (leb 1 p.each && leb p.each 1000) both.0 in
      let each = and_parts (leb 1 p.each) (leb p.each 1000) here.1 in
      (ltb-true p.item i here.0, leb-true 1 p.each each.0, leb-true p.each 1000 each.1, both.1)

  pub wants_known : (l : memory.Limits) (ps : List Part) → i < l.items → good_parts ps i ≡ true → KnownItems l (wants_of ps q)
  wants_known l [] lt h = tt
  wants_known l (p ∷ ps) lt h = let k = first_part p ps h in (omega (arith, k.0), wants_known l ps lt k.3)

  pub wants_some : (ps : List Part) → 1 ≤ q → good_parts ps i ≡ true → AllSome (wants_of ps q)
  wants_some [] le h = tt
  wants_some (p ∷ ps) le h = let k = first_part p ps h in (omega (arith, mul-le-mul k.1 le), wants_some ps le k.3)

  pub wants_few : (ps : List Part) (j : ℕ) → q ≤ 1000000 → good_parts ps i ≡ true → total (wants_of ps q) j ≤ length ps * 1000000000
  wants_few [] j le h = omega arith
  wants_few (p ∷ ps) j le h =
      let k = first_part p ps h in
      cond_both (eqb p.item j) (p.each * q) 0 (λ (n : ℕ). n + total (wants_of ps q) j ≤ length (p ∷ ps) * 1000000000)
      (λ _. omega (arith, mul-le-mul k.2 le, wants_few ps j le k.3)) (λ _. omega (arith, wants_few ps j le k.3))

-- ITS ROWS say what it asks for
module _ (l : memory.Limits) (q : ℕ) (n : List ℕ) (all : List records.Part) (rows : Table (λ k. part_record l k n) part_kind.nothing all) (small : length all < 2 ^ 32) where
  pub rows_wanted : (k m f j : ℕ) → k ≤ m → f + j + k ≤ length all → take k (wants_on m l f j q n) ≡ wants_of (map part_of (take k (drop (f + j) all))) q
  rows_wanted zero m f j le room = refl
  rows_wanted (suc k) zero f j le room = absurd (omega arith)
  rows_wanted (suc k) (suc m) f j le room =
      let at : part_record l (row_from f j) n ≡ get_or all (f + j) part_kind.nothing = ap (λ (r : ℕ). part_record l r n) (omega (arith, small)) ∙ rows (f + j) (omega arith) in
      let next : f + (j + 1) ≡ f + j + 1 = omega arith in
      ap (λ (p : records.Part). want p.item (p.each * q) ∷ take k (wants_on m l f (j + 1) q n)) at
      ∙ ap (λ (ws : List Want). want (get_or all (f + j) part_kind.nothing).item ((get_or all (f + j) part_kind.nothing).each * q) ∷ ws)
      (rows_wanted k m f (j + 1) (omega arith) (omega arith) ∙ ap (λ (r : ℕ). wants_of (map part_of (take k (drop r all))) q) next)
      ∙ ap (λ (ps : List records.Part). wants_of (map part_of (take (suc k) ps)) q) (sym (drop_more all (f + j) part_kind.nothing (omega arith)))

  pub recipe_wants : (r : lying.Recipe) (ps : List Part) → map part_of (rows_of r all) ≡ ps → r.parts ≡ length ps → length ps ≤ 16 → parts_wanted l r q n ≡ wants_of ps q
  unfolding making.wants_of
  recipe_wants r ps is many few =
      let there : min r.parts (length (drop r.first all)) ≡ r.parts = sym (length-take r.parts (drop r.first all)) ∙ sym (length-map (rows_of r all) part_of) ∙ ap length is ∙ sym many in
      let sixteen : min 16 r.parts ≡ r.parts = omega (arith, many, few) in
      ap (λ (k : ℕ). take k (wants_on 16 l r.first 0 q n)) sixteen
      ∙ at r.parts r.first (room (cases_eq r.parts 0) there) (omega (arith, many, few))
      ∙ ap (λ (xs : List Part). wants_of xs q) is
    where
      room : (r.parts ≡ 0) ⊎ (r.parts ≡ 0 → ⊥) → min r.parts (length (drop r.first all)) ≡ r.parts → (r.parts ≡ 0) ⊎ (r.first + r.parts ≤ length all)
      room (inl e) h = inl e
      room (inr ne) h = inr (omega (arith, ne, h, length-drop r.first all))

      at : (k f : ℕ) → (k ≡ 0) ⊎ (f + k ≤ length all) → k ≤ 16 → take k (wants_on 16 l f 0 q n) ≡ wants_of (map part_of (take k (drop f all))) q
      at k f (inl e) le = ap (λ (m : ℕ). take m (wants_on 16 l f 0 q n)) e ∙ ap (λ (m : ℕ). wants_of (map part_of (take m (drop f all))) q) (sym e)
      at k f (inr room) le = rows_wanted k 16 f 0 le (omega arith) ∙ ap (λ (m : ℕ). wants_of (map part_of (take k (drop m all))) q) (omega arith)
