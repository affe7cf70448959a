-- What taking means for the lots of the books, on memory that stands for them. Definitions only: nothing is assumed.
use Rattle.std.specs.Prelude.{◌≡◌, ℕ, ◌+◌, ◌-◌, ◌^◌, ◌<◌, ◌≤◌, ◌≢◌, min, List, [], ◌∷◌, ◌++◌, map, length}
use Rattle.fields.specs.Written.{over}
use Rattle.firm.specs.Stock as firm
use Rattle.firm.specs.Stock.{take, of_item, on_hand, all_worth}
use Rattle.firm.specs.Calls.{lots}
use Rattle.firm.specs.Laws.{AllSmall}
use Rattle.layout.specs.Layout.{Good, answer_need}
use Rattle.layout.specs.declared.limits.Limits.{Limits}
use Rattle.questions.specs.Listing.{lot_of}
use Rattle.records.specs.State.{State}
use Rattle.records.specs.declared.lot.Lot.{Lot}
use Rattle.store.specs.View.{Kept, Stands}
use Rattle.wire.specs.Answers.{bytes_of_answer}
use Rattle.taking.specs.Takes.{cost_of, Taking, most_lines, take_all, take_counted, told}
use Rattle.taking.specs.Wanted.{wanted, WantedCosts, OneItem, OneWanted, RecipeWanted}
use Rattle.taking.specs.declared.wants.Want.{Want}

-- THE LOTS of memory: each item's are the books', and there are as many
pub record LotsMean (l : Limits) (of : ℕ → List Lot) (many : ℕ) (ls : List firm.Lot) : Type 0 where
  pub each : (i : ℕ) → i < l.items → map lot_of (of i) ≡ of_item ls i
  pub used : many ≡ length ls

-- lots whose costs, and these by their pieces, stay in a word
pub record Priced (ls : List firm.Lot) : Type 0 where
  pub small : AllSmall ls
  pub worth : all_worth ls ≤ 1000000000000

-- each want is of an item that there is
abbrev pub KnownItems : Limits → List Want → Type 0
KnownItems l [] = Unit
KnownItems l (w ∷ ws) = (w.item < l.items) × KnownItems l ws

-- other lots in place of those that are kept
abbrev pub with_all_lots : (ℕ → List Lot) → ℕ → Kept → Kept
with_all_lots of many b =
    record { lots_of = of; lots_used = many; all_orders = b.all_orders; all_entries = b.all_entries; all_parts = b.all_parts; recipes = b.recipes; totals = b.totals; stocks = b.stocks; balances = b.balances }

-- memory that stands for what it stood for, but with the lots ls
pub record LotsLeft (l : Limits) (s : State) (b : Kept) (ls : List firm.Lot) : Type 0 where
  pub of : ℕ → List Lot
  pub many : ℕ
  pub stands : Stands l s (with_all_lots of many b)
  pub means : LotsMean l of many ls

-- what pieces would cost
abbrev pub Costs : Type 0
Costs =
    (l : Limits) (s : State) (b : Kept) (ls : List firm.Lot) (w : Want) → Good l → Stands l s b → LotsMean l b.lots_of b.lots_used ls → Priced ls → w.item < l.items →
    cost_of l w s ≡ (take ls w.item w.pieces).cost

-- what was taken, and what is left
pub record Took (l : Limits) (b : Kept) (t : Taking) (r : firm.Taken) : Type 0 where
  pub lots : LotsLeft l t.slices b r.left
  pub parts : t.parts ≡ r.parts

-- what is taken on memory is what is taken in the books
abbrev pub Takes : Type 0
Takes =
    (l : Limits) (s : State) (b : Kept) (ls : List firm.Lot) (ws : List Want) → Good l → Stands l s b → LotsMean l b.lots_of b.lots_used ls → Priced ls → KnownItems l ws → length ws ≤ 256 →
    Took l b (take_all l ws s) (wanted ls ws)

-- WHAT THE CODE TAKES of one item, on memory that stands for books: no piece and no cent is lost, and what was taken is said truly
abbrev pub LosesNothing : Type 0
LosesNothing =
    (l : Limits) (s : State) (b : Kept) (ls : List firm.Lot) (w : Want) → Good l → Stands l s b → LotsMean l b.lots_of b.lots_used ls → Priced ls → w.item < l.items →
    let t : Taking = take_all l (w ∷ []) s in
    (left : List firm.Lot) × LotsLeft l t.slices b left × (all_worth left + all_worth t.parts ≡ all_worth ls) × (on_hand left w.item + on_hand t.parts w.item ≡ on_hand ls w.item)
    × ((j : ℕ) → j ≢ w.item → on_hand left j ≡ on_hand ls j)

-- and of a younger lot nothing is taken while the lot x is left: what comes behind it stays
abbrev pub OldestFirst : Type 0
OldestFirst =
    (l : Limits) (s : State) (b : Kept) (xs ys : List firm.Lot) (x : firm.Lot) (w : Want) → Good l → Stands l s b → LotsMean l b.lots_of b.lots_used (xs ++ (x ∷ ys)) → Priced (xs ++ (x ∷ ys)) →
    w.item < l.items → x.item ≡ w.item → w.pieces < x.pieces + on_hand xs w.item →
    (rest : List firm.Lot) × LotsLeft l (take_all l (w ∷ []) s).slices b (rest ++ ys)

-- ON ANY MEMORY an answer has room for what was taken
abbrev pub TakesFew : Type 0
TakesFew = (l : Limits) (ws : List Want) (s : State) → length (take_all l ws s).parts ≤ most_lines l

-- and so is what is counted off as it is taken
abbrev pub CountedFew : Type 0
CountedFew = (l : Limits) (ws : List Want) (s : State) → length (take_counted l ws s).parts ≤ most_lines l

-- it is then the bytes of an answer that says these lots
abbrev pub Tells : Type 0
Tells = (l : Limits) (ps : List firm.Lot) (old : List ℕ) → length ps ≤ most_lines l → answer_need l ≤ length old → (told ps old).answer ≡ over (bytes_of_answer (lots ps)) old

-- it has a line for each
abbrev pub CountsLines : Type 0
CountsLines = (l : Limits) (ps : List firm.Lot) (old : List ℕ) → length ps ≤ most_lines l → (told ps old).taken.lines ≡ length ps

-- where no bytes are lent, none is written
abbrev pub TellsNothing : Type 0
TellsNothing = (ps : List firm.Lot) → (told ps []).answer ≡ []

-- and what parts cost together
abbrev pub SumsCosts : Type 0
SumsCosts = (ps : List firm.Lot) (old : List ℕ) → (told ps old).taken.cost ≡ min (2 ^ 64 - 1) (all_worth ps)

pub record TakingLaws : Type 0 where
  pub costs : Costs
  pub takes : Takes
  pub loses_nothing : LosesNothing
  pub oldest_first : OldestFirst
  pub takes_few : TakesFew
  pub counted_few : CountedFew
  pub tells : Tells
  pub counts_lines : CountsLines
  pub tells_nothing : TellsNothing
  pub sums_costs : SumsCosts
  pub wanted_costs : WantedCosts
  pub one_item : OneItem
  pub one_wanted : OneWanted
  pub recipe_wanted : RecipeWanted
