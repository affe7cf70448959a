-- From one call to every list of calls: what the promises ask of the keeper. Assumes nothing.
use Rattle.std.proofs.Common.{◌≡◌, ℕ, suc, ◌+◌, ◌*◌, ◌^◌, ◌<◌, ◌≤◌, true, false, ltb, List, [], ◌∷◌, ◌++◌, length, take, drop, sym, refl, ap, ◌∙◌, subst, ap₂, arith, length-append}
use Rattle.std.proofs.lemmas.List.{take_at, drop_at, get_or_append_left, length-replicate}
use Rattle.std.proofs.lemmas.Bool.{and_parts, and_from, lt-ltb}
use Rattle.firm.specs.Firm.{Firm, new_firm, recipe, recipe_parts}
use Rattle.firm.specs.Calls.{Call, Limits, call_number, readable}
use Rattle.firm.specs.Calls as calls
use Rattle.firm.specs.Refusals.{turned, place}
use Rattle.firm.specs.Answers.{after, answer, ran}
use Rattle.firm.specs.Promise.{GoodLimits, Memory, all_below}
use Rattle.firm.specs.Keeping.{AllSteps, Stays, KeepsSound, Within}
use Rattle.firm.specs.Statements.{Reached}
use Rattle.firm.specs.Ledger.{left_side, right_side, sum_of}
use Rattle.firm.specs.Stock.{on_hand, worth, all_worth, of_item}
use Rattle.layout.specs.Layout.{Good, wide_need, narrow_need}
use Rattle.layout.specs.declared.limits.Limits as memory
use Rattle.memory.specs.Books.{limits_in}
use Rattle.memory.specs.Opened.{opened}
use Rattle.memory.proofs.Head.{limits_same}
use Rattle.records.specs.State.{State, state}
use Rattle.store.specs.Laws.{nothing_kept}
use Rattle.store.proofs.Opening.{opens_empty}
use Rattle.session.specs.Calling.{done}
use Rattle.session.specs.Keeper.{memory_of, state_of, blank, keeper, Standing, for_all_calls, Sound}
use Rattle.session.specs.Means.{limits_of, Below, Means}
use Rattle.firm.specs.Promise.{whole}
use Rattle.session.proofs.Asking.{order_done, stock_done, lots_done, account_done, garbled_done}
use Rattle.session.proofs.Ordering.{ordered_done}
use Rattle.session.proofs.Counted.{counted_done}
use Rattle.session.proofs.Going.{goes_done}
use Rattle.session.proofs.Making.{makes_done}
use Rattle.session.proofs.Recipes.{made_of_done}
use Rattle.session.proofs.Billing.{billed_by_done, bills_done}
use Rattle.session.proofs.Listing.{entries_done}
use Rattle.session.proofs.Paying.{pays_out_done, pays_in_done}
use Rattle.session.proofs.Receiving.{comes_done}
use Rattle.session.proofs.Small.{sized_opened}
use Rattle.session.proofs.Turning.{Done}

pub good_of : (l : Limits) → GoodLimits l → Good (limits_of l)
good_of l g = record { items = g.0; orders = g.1; lots = g.2; parts = g.3; entries = g.4 }

-- ONE CALL on memory that means a firm
module _ (l : Limits) (s : State) (f : Firm) (good : Good (limits_of l)) (cans : l.calls_can ≡ whole) (r : Reached l f) (h : Means (limits_of l) s f) where
  pub done_means : (c : Call) → Done l s f c (done (limits_of l) c s)
  unfolding call_number place
  done_means (calls.buys i q p) = ordered_done l s f false i q p good cans r h
  done_means (calls.sells i q p) = ordered_done l s f true i q p good cans r h
  done_means (calls.comes o q) = comes_done l s f o q good cans r h
  done_means (calls.goes o q) = goes_done l s f o q whole refl good cans r h
  done_means (calls.billed_by o q x) = billed_by_done l s f o q x whole refl good cans r h
  done_means (calls.bills o q) = bills_done l s f o q whole refl good cans r h
  done_means (calls.pays_out x) = pays_out_done l s f x whole refl good cans r h
  done_means (calls.pays_in x) = pays_in_done l s f x whole refl good cans r h
  done_means (calls.made_of i ps) = made_of_done l s f i ps whole refl good cans r h
  done_means (calls.makes i q) = makes_done l s f i q whole refl good cans r h
  done_means (calls.counted i q) = counted_done l s f i q whole refl good cans r h
  done_means (calls.stock_of i) = stock_done l s f good cans r h i
  done_means (calls.account a) = account_done l s f good cans r h a
  done_means (calls.order o) = order_done l s f good cans r h o
  done_means (calls.lots_of i) = lots_done l s f good cans r h i
  done_means (calls.entries_from n k) = entries_done l s f n k whole refl cans r h
  done_means (calls.garbled n) = garbled_done l s f good cans r h n

-- OPENED MEMORY means a firm that has nothing
pub opened_means : (l : memory.Limits) (s : State) → Good l → length s.wide ≡ wide_need l → length s.narrow ≡ narrow_need l → Means l (opened l s) new_firm
unfolding sum_of all_worth of_item on_hand worth left_side right_side recipe recipe_parts
opened_means l s good w n =
    record {
      kept = nothing_kept;
      stands = opens_empty l s good (record { wide = omega (arith, w); narrow = omega (arith, n) });
      documents = refl;
      booked = refl;
      worth = refl;
      lots = λ i lt. refl;
      used = refl;
      orders = refl;
      entries = refl;
      stocks = λ i lt. refl;
      balances = λ a lt. refl;
      recipes = record { each = λ i lt. refl; many = λ i lt. refl; rows = refl };
      sized = sized_opened l s good w n;
    }

-- MEMORY AS ONE LIST: the words say where one slice ends
limits_there : (l : Limits) (s : State) (f : Firm) → Means (limits_of l) s f → limits_in (s.narrow ++ s.wide) ≡ limits_of l
limits_there l s f h =
    limits_same s.narrow (s.narrow ++ s.wide) (λ i lt. get_or_append_left s.narrow s.wide 0 i (omega (arith, h.sized.narrow.long))) ∙ h.stands.frame.limits

pub split_back : (l : Limits) (s : State) (f : Firm) → Means (limits_of l) s f → state_of (memory_of s) ≡ s
split_back l s f h =
    ap (λ (k : memory.Limits). state (drop (narrow_need k) (s.narrow ++ s.wide)) (take (narrow_need k) (s.narrow ++ s.wide))) (limits_there l s f h)
    ∙ ap₂ state (drop_at s.narrow s.wide (narrow_need (limits_of l)) h.sized.narrow.long) (take_at s.narrow s.wide (narrow_need (limits_of l)) h.sized.narrow.long)

pub reached_after : (l : Limits) (f : Firm) (c : Call) → Reached l f → Reached l (after l f c)
unfolding ran
reached_after l f c r = (r.0 ++ (c ∷ []), go r.0 new_firm ∙ ap (λ (g : Firm). after l g c) r.1)
  where
    go : (cs : List Call) (g : Firm) → ran l g (cs ++ (c ∷ [])) ≡ after l (ran l g cs) c
    go [] g = refl
    go (d ∷ cs) g = go cs (after l g d)

-- what the keeper does on words that stand for books
module _ (l : Limits) (m : Memory) (f : Firm) (g : GoodLimits l) (h : Standing l m f) (c : Call) where
  on_slices : done (limits_in m.words) c (state_of m) ≡ done (limits_of l) c h.slices
  on_slices =
      ap (λ (n : Memory). done (limits_in n.words) c (state_of n)) h.words
      ∙ ap₂ (λ (k : memory.Limits) (s : State). done k c s) (limits_there l h.slices f h.means) (split_back l h.slices f h.means)

  one : Done l h.slices f c (done (limits_of l) c h.slices)
  one = done_means l h.slices f (good_of l g) h.cans h.reached h.means c

  on_says : keeper.says m c ≡ answer l f c
  on_says = ap (λ o. o.answer) on_slices ∙ one.says

  on_next : keeper.next m c ≡ memory_of (done (limits_of l) c h.slices).left
  on_next = ap (λ o. memory_of o.left) on_slices

  next_stands : Standing l (keeper.next m c) (after l f c)
  next_stands = record { slices = (done (limits_of l) c h.slices).left; words = on_next; means = one.means; reached = reached_after l f c h.reached; cans = h.cans }

  next_stays : 0 < turned l f c → keeper.next m c ≡ m
  next_stays t = on_next ∙ ap memory_of (one.stays t) ∙ sym h.words

opens_standing : (l : Limits) → GoodLimits l → l.calls_can ≡ whole → Standing l (keeper.opened l) new_firm
unfolding ran
opens_standing l g cans =
    record {
      slices = opened (limits_of l) (blank (limits_of l));
      words = refl;
      means = opened_means (limits_of l) (blank (limits_of l)) (good_of l g) (length-replicate {A = ℕ} (wide_need (limits_of l)) 0) (length-replicate {A = ℕ} (narrow_need (limits_of l)) 0);
      reached = ([], refl);
      cans = cans;
    }

-- WHAT IS OWED
pub all_steps : AllSteps whole keeper Standing
all_steps l g cans = record { opens = opens_standing l g cans; answering = λ m f c _ h. on_says l m f g h c; going_on = λ m f c _ h. next_stands l m f g h c }

pub stays : Stays keeper Standing
stays l m f c g _ h t = next_stays l m f g h c t

pub keeps_sound : KeepsSound keeper Sound
keeps_sound =
    record {
      opens = λ l g. (new_firm, opens_standing (for_all_calls l) g refl);
      going_on = λ l m c g _ h. (after (for_all_calls l) h.0 c, next_stands (for_all_calls l) m h.0 g h.1 c);
    }

-- words that fit
below_from : (b : ℕ) (xs : List ℕ) → Below b xs → all_below b xs ≡ true
unfolding all_below
below_from b [] h = refl
below_from b (x ∷ xs) h = and_from (ltb x b) (all_below b xs) (lt-ltb x b (h 0)) (below_from b xs (λ i. h (suc i)))

below_append : (b : ℕ) (xs ys : List ℕ) → all_below b xs ≡ true → all_below b ys ≡ true → all_below b (xs ++ ys) ≡ true
unfolding all_below
below_append b [] ys h k = k
below_append b (x ∷ xs) ys h k =
    let p = and_parts (ltb x b) (all_below b xs) h in
    and_from (ltb x b) (all_below b (xs ++ ys)) p.0 (below_append b xs ys p.1 k)

pub within : Within Sound
within l m g h =
    let e = h.1 in
    let z = e.means.sized in
    let small : Below (2 ^ 64) e.slices.narrow = λ i. omega (arith, z.narrow.small i) in (
      subst (λ (n : Memory). length n.words ≤ 8 * (l.items + l.orders + l.lots + l.parts + l.entries) + 2048) (sym e.words)
          (omega (arith, length-append e.slices.narrow e.slices.wide, z.wide.long, z.narrow.long)),
      subst (λ (n : Memory). all_below 18446744073709551616 n.words ≡ true) (sym e.words)
          (below_append 18446744073709551616 e.slices.narrow e.slices.wide (below_from _ _ small) (below_from _ _ z.wide.small)),
    )
