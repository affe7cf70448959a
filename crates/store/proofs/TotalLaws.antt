-- A total that is put: the lists that are kept stay.
use Rattle.std.proofs.Common.{◌≡◌, cond, eqb, ◌⊎◌, sym, refl, ap, ◌∙◌, inl, inr, arith}
use Rattle.std.proofs.lemmas.Bool.{cases_eq, cond-true, cond-false, eq-eqb, ne_eqb}
use Rattle.layout.proofs.Owners.{differ}
use Rattle.layout.proofs.Placed.{only_none}
use Rattle.layout.specs.Layout.{total_at}
use Rattle.layout.specs.Words.{totals}
use Rattle.layout.specs.declared.head.Total.{Total}
use Rattle.layout.specs.declared.head.Total.TheVariants.{Documents, Booked, Worth}
use Rattle.memory.proofs.Head.{total_same, total_other, total_within}
use Rattle.memory.specs.Books.{total_of, put_total}
use Rattle.memory.specs.Slots.{Within}
use Rattle.records.specs.State.{State, state}
use Rattle.store.specs.Laws.{PutsTotal}
use Rattle.store.proofs.Kept.{lots_kept, orders_kept, entries_kept, recipes_kept, sums_kept}

-- totals that lie at one place are one
same_place : (u t : Total) → total_at u ≡ total_at t → u ≡ t
same_place Documents Documents e = refl
same_place Documents Booked e = absurd (omega arith)
same_place Documents Worth e = absurd (omega arith)
same_place Booked Documents e = absurd (omega arith)
same_place Booked Booked e = refl
same_place Booked Worth e = absurd (omega arith)
same_place Worth Documents e = absurd (omega arith)
same_place Worth Booked e = absurd (omega arith)
same_place Worth Worth e = refl

pub puts_total : PutsTotal
puts_total l s b t v good st = record {
  frame = record {
    limits = st.frame.limits;
    roomy = record { wide = omega (arith, st.frame.roomy.wide, with_in.wide.long); narrow = st.frame.roomy.narrow };
    totals = λ u. at u (cases_eq (total_at u) (total_at t));
  };
  lots = lots_kept l s s' good totals with_in b.lots_of b.lots_used (differ _ _ (λ e. omega arith)) (differ _ _ (λ e. omega arith)) refl st.lots;
  orders = orders_kept l s s' good totals with_in b.all_orders (differ _ _ (λ e. omega arith)) (differ _ _ (λ e. omega arith)) refl st.orders;
  entries = entries_kept l s s' good totals with_in b.all_entries (differ _ _ (λ e. omega arith)) (differ _ _ (λ e. omega arith)) refl st.entries;
  recipes = recipes_kept l s s' good totals with_in b.all_parts b.recipes (differ _ _ (λ e. omega arith)) (differ _ _ (λ e. omega arith)) refl st.recipes;
  sums = sums_kept l s s' good totals with_in b.stocks b.balances (differ _ _ (λ e. omega arith)) (differ _ _ (λ e. omega arith)) st.sums;
}
  where
    s' : State
    s' = state (put_total t v s.wide) s.narrow

    with_in : Within totals l s s'
    with_in = record { wide = total_within t v l s.wide; narrow = only_none totals l s.narrow }

    at : (u : Total) → (total_at u ≡ total_at t) ⊎ (total_at u ≡ total_at t → ⊥) → total_of u (put_total t v s.wide) ≡ cond (eqb (total_at u) (total_at t)) v (b.totals u)
    at u (inl e) =
        ap (λ (w : Total). total_of w (put_total t v s.wide)) (same_place u t e) ∙ total_same t v s.wide (omega (arith, st.frame.roomy.wide))
        ∙ sym (cond-true (eqb (total_at u) (total_at t)) v (b.totals u) (eq-eqb _ _ e))
    at u (inr ne) =
        total_other u t v s.wide (λ e. ne (ap total_at e)) ∙ st.frame.totals u ∙ sym (cond-false (eqb (total_at u) (total_at t)) v (b.totals u) (ne_eqb _ _ ne))
