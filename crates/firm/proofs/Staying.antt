-- Statements 7 and 8: entries stay, and what is turned away changes nothing. Assumes nothing.
use Rattle.std.proofs.Common.{◌≡◌, eqb, List, [], ◌++◌, sym, refl, ap, append-nil, arith}
use Rattle.std.proofs.lemmas.Bool.{ne_eqb}
use Rattle.firm.specs.Ledger.{Entry}
use Rattle.firm.specs.Firm.{Firm}
use Rattle.firm.specs.Calls.{Call, buys, sells, comes, goes, billed_by, bills, pays_out, pays_in, made_of, makes, counted, stock_of, account, order, lots_of, entries_from, garbled}
use Rattle.firm.specs.Changes.{changed}
use Rattle.firm.specs.Refusals.{turned}
use Rattle.firm.specs.Answers.{answers}
use Rattle.firm.specs.Statements.{EntriesStay, TurnedAway}
use Rattle.firm.proofs.Picks.{pick_false}
use Rattle.firm.proofs.Cases.{counted_cases, after_cases}

-- g has the entries of f, and perhaps some more after them
abbrev pub MoreEntries : Firm → Firm → Type 0
MoreEntries f g = (es : List Entry) × (g.entries ≡ f.entries ++ es)

no_more : (f : Firm) → MoreEntries f f
no_more f = ([], sym (append-nil f.entries))

pub changed_stays : (f : Firm) (c : Call) → MoreEntries f (changed f c)
unfolding changed
changed_stays f (buys i q p) = (_, refl)
changed_stays f (sells i q p) = (_, refl)
changed_stays f (comes o q) = (_, refl)
changed_stays f (goes o q) = (_, refl)
changed_stays f (billed_by o q x) = (_, refl)
changed_stays f (bills o q) = (_, refl)
changed_stays f (pays_out x) = (_, refl)
changed_stays f (pays_in x) = (_, refl)
changed_stays f (made_of i ps) = (_, refl)
changed_stays f (makes i q) = (_, refl)
changed_stays f (counted i q) = counted_cases f i q (MoreEntries f) (λ _. (_, refl)) (λ _. (_, refl)) (λ _. (_, refl))
changed_stays f (stock_of i) = no_more f
changed_stays f (account a) = no_more f
changed_stays f (order o) = no_more f
changed_stays f (lots_of i) = no_more f
changed_stays f (entries_from n k) = no_more f
changed_stays f (garbled n) = no_more f

pub entries_stay : EntriesStay
entries_stay l f c = after_cases l f c (MoreEntries f) (λ _. changed_stays f c) (no_more f)

pub turned_away : TurnedAway
turned_away l f c cs h = ap (λ g. answers l g cs) (pick_false (eqb (turned l f c) 0) (changed f c) f (ne_eqb _ _ (omega arith)))
