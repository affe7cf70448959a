-- What fits the limits, test by test. Assumes nothing.
use Rattle.std.proofs.Common.{◌≡◌, ℕ, ◌+◌, Bool, true, false, cond, ◌&&◌, eqb, leb, List, [], ◌∷◌, ◌++◌, length, refl, ap, ◌∙◌, ap₂, append-nil, arith, length-append}
use Rattle.std.proofs.lemmas.Bool.{and_parts, eqb-true}
use Rattle.firm.specs.Stock.{pick, all_worth}
use Rattle.firm.specs.Ledger.{Entry, entry, sum_of}
use Rattle.firm.specs.Firm.{Firm, recipe_parts}
use Rattle.firm.specs.Calls.{Limits}
use Rattle.firm.specs.Refusals.{fits}
use Rattle.firm.proofs.Sums.{Sums, sum_push}

-- the seven tests, each with its value
pub fits_by : (l : Limits) (f : Firm) (a b c d e g h : Bool) →
    leb (length f.orders) l.orders ≡ a → leb (length f.lots) l.lots ≡ b → leb (recipe_parts f.recipes) l.parts ≡ c → leb (length f.entries) l.entries ≡ d →
    leb (sum_of f.entries) 1000000000000000 ≡ e → leb (all_worth f.lots) 1000000000000 ≡ g → leb f.documents 1099511627776 ≡ h →
    fits l f ≡ ((a && b) && ((c && d) && (e && (g && h))))
fits_by l f a b c d e g h pa pb pc pd pe pg ph = ap₂ ◌&&◌ (ap₂ ◌&&◌ pa pb) (ap₂ ◌&&◌ (ap₂ ◌&&◌ pc pd) (ap₂ ◌&&◌ pe (ap₂ ◌&&◌ pg ph)))

pub record Fits (l : Limits) (f : Firm) : Type 0 where
  pub orders : leb (length f.orders) l.orders ≡ true
  pub lots : leb (length f.lots) l.lots ≡ true
  pub parts : leb (recipe_parts f.recipes) l.parts ≡ true
  pub entries : leb (length f.entries) l.entries ≡ true
  pub sum : leb (sum_of f.entries) 1000000000000000 ≡ true
  pub worth : leb (all_worth f.lots) 1000000000000 ≡ true
  pub documents : leb f.documents 1099511627776 ≡ true

pub fits_parts : (l : Limits) (f : Firm) → fits l f ≡ true → Fits l f
fits_parts l f h =
    let p = and_parts (leb (length f.orders) l.orders && leb (length f.lots) l.lots)
    ((leb (recipe_parts f.recipes) l.parts && leb (length f.entries) l.entries) && (leb (sum_of f.entries) 1000000000000000 && (leb (all_worth f.lots) 1000000000000 && leb f.documents 1099511627776))) h in
    let q = and_parts (leb (length f.orders) l.orders) (leb (length f.lots) l.lots) p.0 in
    let r = and_parts (leb (recipe_parts f.recipes) l.parts && leb (length f.entries) l.entries) (leb (sum_of f.entries) 1000000000000000 && (leb (all_worth f.lots) 1000000000000 && leb f.documents 1099511627776)) p.1 in
    let s = and_parts (leb (recipe_parts f.recipes) l.parts) (leb (length f.entries) l.entries) r.0 in
    let t = and_parts (leb (sum_of f.entries) 1000000000000000) (leb (all_worth f.lots) 1000000000000 && leb f.documents 1099511627776) r.1 in
    let u = and_parts (leb (all_worth f.lots) 1000000000000) (leb f.documents 1099511627776) t.1 in
    record { orders = q.0; lots = q.1; parts = s.0; entries = s.1; sum = t.0; worth = u.0; documents = u.1 }

amount_sums : Sums (λ (e : Entry). e.amount) sum_of
unfolding sum_of
amount_sums = record { none = refl; more = λ e es. refl }

-- an entry, if it is of something
pub length_entry : (es : List Entry) (a b x d : ℕ) → length (es ++ entry a b x d) ≡ length es + cond (eqb x 0) 0 1
unfolding entry
length_entry es a b x d = length-append es (entry a b x d) ∙ ap (λ (n : ℕ). length es + n) (at (eqb x 0))
  where
    at : (t : Bool) → length {A = Entry} (pick t [] (record { on_left = a; on_right = b; amount = x; document = d } ∷ [])) ≡ cond t 0 1
    at true = refl
    at false = refl

pub sum_entry : (es : List Entry) (a b x d : ℕ) → sum_of (es ++ entry a b x d) ≡ sum_of es + x
unfolding entry
sum_entry es a b x d = at (eqb x 0) refl
  where
    at : (t : Bool) → eqb x 0 ≡ t → sum_of (es ++ pick t [] (record { on_left = a; on_right = b; amount = x; document = d } ∷ [])) ≡ sum_of es + x
    at true e = ap sum_of (append-nil es) ∙ omega (arith, eqb-true x 0 e)
    at false e = sum_push amount_sums es (record { on_left = a; on_right = b; amount = x; document = d })
