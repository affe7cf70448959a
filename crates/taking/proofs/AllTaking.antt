-- What is wanted, one after the other: memory stands for what taking leaves of the books' lots, and the parts are what was taken. Assumes nothing.
use Rattle.std.proofs.Common.{◌≡◌, ℕ, ◌+◌, ◌-◌, ◌*◌, ◌<◌, ◌≤◌, ◌⊎◌, List, [], ◌∷◌, ◌++◌, map, length, sym, refl, ap, ◌∙◌, subst, ap₂, inl, inr, append-nil, arith}
use Rattle.std.proofs.lemmas.List.{length-map}
use Rattle.std.proofs.lemmas.Bool.{cases_eq}
use Rattle.firm.specs.Stock as firm
use Rattle.firm.specs.Stock.{take, of_item, all_worth}
use Rattle.firm.proofs.Bounds.{small_take}
use Rattle.firm.proofs.Cases.{take_cases}
use Rattle.firm.proofs.Ledger.{worth_sums}
use Rattle.firm.proofs.Sums.{sum_append}
use Rattle.firm.proofs.Taking.{take_keeps}
use Rattle.layout.specs.Layout.{Good}
use Rattle.layout.specs.declared.limits.Limits.{Limits}
use Rattle.questions.specs.Listing.{lot_of}
use Rattle.records.specs.State.{State}
use Rattle.records.specs.declared.lot.Lot.{Lot}
use Rattle.store.specs.View.{Kept, Stands}
use Rattle.taking.specs.Laws.{LotsMean, Priced, KnownItems, with_all_lots, Took}
use Rattle.taking.specs.Takes.{Taking, taken_on, most_lines, taken_each}
use Rattle.taking.specs.Wanted.{wanted, WantedCosts, OneWanted, RecipeWanted}
use Rattle.taking.specs.declared.wants.Want.{Want}
use Rattle.taking.proofs.OneItem.{AllOf, one_item, of_item_few, of_item_worth, of_item_small, all_of_item}
use Rattle.taking.proofs.RowTaking.{RowTaken, row_taken}

-- each want gives one part at most of a lot that stays
pub take_few : (ls : List firm.Lot) (i q : ℕ) → length (take ls i q).parts + length (take ls i q).left ≤ length ls + 1
unfolding take
take_few [] i q = omega arith
take_few (x ∷ ls) i q =
    take_cases x ls i q (λ t. length t.parts + length t.left ≤ length (x ∷ ls) + 1)
    (λ _. omega arith)
    (λ _ _. omega (arith, take_few ls i q))
    (λ _ _ _. omega (arith, take_few ls i (q - x.pieces)))
    (λ _ _ _. omega arith)

-- ONE WANT
module _ (l : Limits) (b : Kept) (good : Good l) (ls : List firm.Lot) (priced : Priced ls) (s : State) (of : ℕ → List Lot) (many : ℕ) (st : Stands l s (with_all_lots of many b))
    (mean : LotsMean l of many ls) (k i q : ℕ) (room : many ≤ k) (it : i < l.items) where
  same : map lot_of (of i) ≡ of_item ls i
  same = mean.each i it

  long : length (of i) ≡ length (of_item ls i)
  long = sym (length-map (of i) lot_of) ∙ ap length same

  row : RowTaken l b i of many (taken_on k l i q s) (take (map lot_of (of i)) i q)
  row =
      row_taken l b i good it k q s of many (record {
        stands = st;
        few = omega (arith, long, of_item_few ls i, mean.used);
        own = subst (AllOf i) (sym same) (all_of_item ls i);
        priced = subst Priced (sym same) (record { small = of_item_small ls i priced.small; worth = omega (arith, of_item_worth ls i, priced.worth) });
      })

  says : take (map lot_of (of i)) i q ≡ take (of_item ls i) i q
  says = ap (λ (zs : List firm.Lot). take zs i q) same

  each : (j : ℕ) → j < l.items → map lot_of (row.after j) ≡ of_item (take ls i q).left j
  each j lt = at (cases_eq j i)
    where
      at : (j ≡ i) ⊎ (j ≡ i → ⊥) → map lot_of (row.after j) ≡ of_item (take ls i q).left j
      at (inl e) =
          ap (λ (k : ℕ). map lot_of (row.after k)) e ∙ row.left ∙ ap (λ (r : firm.Taken). r.left) says ∙ sym (one_item ls i q).left
          ∙ ap (of_item (take ls i q).left) (sym e)
      at (inr ne) = ap (map lot_of) (row.others j ne) ∙ mean.each j lt ∙ sym ((one_item ls i q).others j ne)

  pub one_taken : Took l b (taken_on k l i q s) (take ls i q)
  one_taken = record {
    lots = record {
      of = row.after;
      many = row.now_many;
      stands = row.stands;
      means = record {
        each = each;
        used = omega (arith, row.fewer, mean.used, long, (one_item ls i q).many, ap (λ (r : firm.Taken). length r.left) says);
      };
    };
    parts = row.parts ∙ ap (λ (r : firm.Taken). r.parts) says ∙ sym (one_item ls i q).parts;
  }

pub priced_left : (ls : List firm.Lot) (i q : ℕ) → Priced ls → Priced (take ls i q).left
priced_left ls i q h = record { small = small_take ls i q h.small; worth = omega (arith, (take_keeps ls i q).0, h.worth) }

-- ALL, where n parts were taken before: each want takes a lot away for each of its parts but one
pub each_taken : (l : Limits) (b : Kept) (ws : List Want) (ls : List firm.Lot) (n : ℕ) (s : State) (of : ℕ → List Lot) (many : ℕ) → Good l → Priced ls →
    Stands l s (with_all_lots of many b) → LotsMean l of many ls → KnownItems l ws → n + many + length ws ≤ most_lines l → Took l b (taken_each ws l n s) (wanted ls ws)
unfolding wanted
each_taken l b [] ls n s of many good priced st mean known room = record { lots = record { of = of; many = many; stands = st; means = mean }; parts = refl }
each_taken l b (w ∷ ws) ls n s of many good priced st mean known room =
    let one = one_taken l b good ls priced s of many st mean (most_lines l - n) w.item w.pieces (omega arith) known.0 in
    let t : Taking = taken_on (most_lines l - n) l w.item w.pieces s in
    let r : firm.Taken = take ls w.item w.pieces in
    let rest = each_taken l b ws r.left (n + length t.parts) t.slices one.lots.of one.lots.many good (priced_left ls w.item w.pieces priced) one.lots.stands one.lots.means
    known.1 (omega (arith, one.lots.means.used, mean.used, ap length one.parts, take_few ls w.item w.pieces)) in
    record { lots = rest.lots; parts = ap₂ (λ (ps qs : List firm.Lot). ps ++ qs) one.parts rest.parts }

-- THE BOOKS' SIDE
-- what was taken costs what its parts cost, and no more than all lots did
pub wanted_costs : WantedCosts
unfolding wanted all_worth
wanted_costs ls [] = (refl, omega arith)
wanted_costs ls (w ∷ ws) =
    let t : firm.Taken = take ls w.item w.pieces in
    let k = take_keeps ls w.item w.pieces in
    let h = wanted_costs t.left ws in
    (omega (arith, h.0, k.1, sum_append worth_sums t.parts (wanted t.left ws).parts), omega (arith, h.1, k.0))

same_taken : {l m : List firm.Lot} {c d k n : ℕ} {p r : List firm.Lot} → l ≡ m → c ≡ d → k ≡ n → p ≡ r →
    ◌≡◌ {A = firm.Taken} (record { left = l; cost = c; lacking = k; parts = p }) (record { left = m; cost = d; lacking = n; parts = r })
same_taken a b c d = cc

pub one_wanted : OneWanted
unfolding wanted
one_wanted ls w =
    let t : firm.Taken = take ls w.item w.pieces in
    same_taken refl (omega arith) (omega arith) (append-nil t.parts)

pub recipe_wanted : RecipeWanted
unfolding wanted firm.take_all
recipe_wanted ls [] q = refl
recipe_wanted ls (p ∷ ps) q =
    let t : firm.Taken = take ls p.item (p.each * q) in
    ap (λ (u : firm.Taken). record { left = u.left; cost = t.cost + u.cost; lacking = t.lacking + u.lacking; parts = t.parts ++ u.parts }) (recipe_wanted t.left ps q)
