-- Each kind of record is sound.
use Rattle.std.specs.Prelude.{◌≡◌, ℕ, Bool, true, false, cond, []}
use Rattle.std.proofs.Common.{refl, ap, ap₂, ◌∙◌, arith, eqb}
use Rattle.records.specs.Kind.{Kind, Sound, Alike, word}
use Rattle.records.specs.Kinds.{lot_kind, order_kind, entry_kind, part_kind, recipe_kind, stock_kind, balance_kind}
use Rattle.records.specs.declared.balance.Balance.{Balance}
use Rattle.records.specs.declared.entry.Entry.{Entry}
use Rattle.records.specs.declared.lot.Lot.{Lot}
use Rattle.records.specs.declared.order.Order.{Order}
use Rattle.records.specs.declared.part.Part.{Part}
use Rattle.records.specs.declared.recipe.Recipe.{Recipe}
use Rattle.records.specs.declared.stock.Stock.{Stock}

ap₄ : {X : Type 0} (f : ℕ → ℕ → ℕ → ℕ → X) {a b c d a' b' c' d' : ℕ} → a ≡ a' → b ≡ b' → c ≡ c' → d ≡ d' → f a b c d ≡ f a' b' c' d'
ap₄ f p q r t = cc

sells_kept : (b : Bool) → eqb (cond b 1 0) 1 ≡ b
sells_kept true = refl
sells_kept false = refl

abbrev lot : ℕ → ℕ → ℕ → ℕ → Lot
lot a b c d = record { item = a; pieces = b; cost = c; «document» = d }

pub lot_sound : Sound lot_kind
lot_sound = record {
  wide_long = λ x. refl;
  narrow_long = λ x. refl;
  again = λ x f g w n. ap₄ lot (n 0 (omega arith)) (n 1 (omega arith)) (w 0 (omega arith)) (w 1 (omega arith));
  alike = λ f g f' g' w n. ap₄ lot (n 0 (omega arith)) (n 1 (omega arith)) (w 0 (omega arith)) (w 1 (omega arith));
}

abbrev entry : ℕ → ℕ → ℕ → ℕ → Entry
entry a b c d = record { left = a; right = b; amount = c; «document» = d }

pub entry_sound : Sound entry_kind
entry_sound = record {
  wide_long = λ x. refl;
  narrow_long = λ x. refl;
  again = λ x f g w n. ap₄ entry (n 0 (omega arith)) (n 1 (omega arith)) (w 0 (omega arith)) (w 1 (omega arith));
  alike = λ f g f' g' w n. ap₄ entry (n 0 (omega arith)) (n 1 (omega arith)) (w 0 (omega arith)) (w 1 (omega arith));
}

abbrev part : ℕ → ℕ → Part
part a b = record { item = a; each = b }

pub part_sound : Sound part_kind
part_sound = record {
  wide_long = λ x. refl;
  narrow_long = λ x. refl;
  again = λ x f g w n. ap₂ part (n 0 (omega arith)) (n 1 (omega arith));
  alike = λ f g f' g' w n. ap₂ part (n 0 (omega arith)) (n 1 (omega arith));
}

abbrev recipe : ℕ → ℕ → Recipe
recipe a b = record { first = a; parts = b }

pub recipe_sound : Sound recipe_kind
recipe_sound = record {
  wide_long = λ x. refl;
  narrow_long = λ x. refl;
  again = λ x f g w n. ap₂ recipe (n 0 (omega arith)) (n 1 (omega arith));
  alike = λ f g f' g' w n. ap₂ recipe (n 0 (omega arith)) (n 1 (omega arith));
}

abbrev stock : ℕ → ℕ → Stock
stock a b = record { pieces = a; worth = b }

pub stock_sound : Sound stock_kind
stock_sound = record {
  wide_long = λ x. refl;
  narrow_long = λ x. refl;
  again = λ x f g w n. ap₂ stock (w 0 (omega arith)) (w 1 (omega arith));
  alike = λ f g f' g' w n. ap₂ stock (w 0 (omega arith)) (w 1 (omega arith));
}

abbrev balance : ℕ → ℕ → Balance
balance a b = record { left = a; right = b }

pub balance_sound : Sound balance_kind
balance_sound = record {
  wide_long = λ x. refl;
  narrow_long = λ x. refl;
  again = λ x f g w n. ap₂ balance (w 0 (omega arith)) (w 1 (omega arith));
  alike = λ f g f' g' w n. ap₂ balance (w 0 (omega arith)) (w 1 (omega arith));
}

abbrev order : Bool → ℕ → ℕ → ℕ → ℕ → ℕ → Order
order a b c d e f = record { sells = a; item = b; pieces = c; price = d; moved = e; billed = f }

order_same : (a a' : Bool) (b c d e f b' c' d' e' f' : ℕ) → a ≡ a' → b ≡ b' → c ≡ c' → d ≡ d' → e ≡ e' → f ≡ f' → order a b c d e f ≡ order a' b' c' d' e' f'
order_same a a' b c d e f b' c' d' e' f' p q r t u v = cc

pub order_sound : Sound order_kind
order_sound = record {
  wide_long = λ x. refl;
  narrow_long = λ x. refl;
  again = λ x f g w n.
      order_same _ _ _ _ _ _ _ _ _ _ _ _ (ap (λ (i : ℕ). eqb i 1) (n 0 (omega arith)) ∙ sells_kept x.sells) (n 1 (omega arith)) (n 2 (omega arith)) (n 3 (omega arith)) (n 4 (omega arith)) (n 5 (omega arith));
  alike = λ f g f' g' w n.
      order_same _ _ _ _ _ _ _ _ _ _ _ _ (ap (λ (i : ℕ). eqb i 1) (n 0 (omega arith))) (n 1 (omega arith)) (n 2 (omega arith)) (n 3 (omega arith)) (n 4 (omega arith)) (n 5 (omega arith));
}

-- a record in a row of one slice alone depends on its words alone
pub wide_alike : {X : Type 0} {k : Kind X} → Sound k → Alike k.wide_size (λ f. k.made f (word [] 0))
wide_alike sound f g same = sound.alike g (word [] 0) f (word [] 0) same (λ j lt. refl)

pub narrow_alike : {X : Type 0} {k : Kind X} → Sound k → Alike k.narrow_size (k.made (word [] 0))
narrow_alike sound f g same = sound.alike (word [] 0) g (word [] 0) f (λ j lt. refl) same
