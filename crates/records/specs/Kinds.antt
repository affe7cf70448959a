-- The kinds of record: which words each is kept in.
use Rattle.std.specs.Prelude.{false, cond, [], ◌∷◌, ◌==◌}
use Rattle.records.specs.Kind.{Kind, Laws}
use Rattle.records.specs.declared.lot.Lot.{Lot}
use Rattle.records.specs.declared.order.Order.{Order}
use Rattle.records.specs.declared.entry.Entry.{Entry}
use Rattle.records.specs.declared.part.Part.{Part}
use Rattle.records.specs.declared.stock.Stock.{Stock}
use Rattle.records.specs.declared.balance.Balance.{Balance}
use Rattle.records.specs.declared.recipe.Recipe.{Recipe}

abbrev pub lot_kind : Kind Lot
lot_kind = record {
  wide_size = 2;
  narrow_size = 2;
  wide_words = λ x. x.cost ∷ x.«document» ∷ [];
  narrow_words = λ x. x.item ∷ x.pieces ∷ [];
  made = λ f g. record { item = g 0; pieces = g 1; cost = f 0; «document» = f 1 };
  nothing = record { item = 0; pieces = 0; cost = 0; «document» = 0 };
}

-- the first word says whether it sells: 1, or 0 where it buys
abbrev pub order_kind : Kind Order
order_kind = record {
  wide_size = 0;
  narrow_size = 6;
  wide_words = λ x. [];
  narrow_words = λ x. cond x.sells 1 0 ∷ x.item ∷ x.pieces ∷ x.price ∷ x.moved ∷ x.billed ∷ [];
  made = λ f g. record { sells = (g 0 == 1); item = g 1; pieces = g 2; price = g 3; moved = g 4; billed = g 5 };
  nothing = record { sells = false; item = 0; pieces = 0; price = 0; moved = 0; billed = 0 };
}

abbrev pub entry_kind : Kind Entry
entry_kind = record {
  wide_size = 2;
  narrow_size = 2;
  wide_words = λ x. x.amount ∷ x.«document» ∷ [];
  narrow_words = λ x. x.left ∷ x.right ∷ [];
  made = λ f g. record { left = g 0; right = g 1; amount = f 0; «document» = f 1 };
  nothing = record { left = 0; right = 0; amount = 0; «document» = 0 };
}

abbrev pub part_kind : Kind Part
part_kind = record {
  wide_size = 0;
  narrow_size = 2;
  wide_words = λ x. [];
  narrow_words = λ x. x.item ∷ x.each ∷ [];
  made = λ f g. record { item = g 0; each = g 1 };
  nothing = record { item = 0; each = 0 };
}

abbrev pub recipe_kind : Kind Recipe
recipe_kind = record {
  wide_size = 0;
  narrow_size = 2;
  wide_words = λ x. [];
  narrow_words = λ x. x.first ∷ x.parts ∷ [];
  made = λ f g. record { first = g 0; parts = g 1 };
  nothing = record { first = 0; parts = 0 };
}

abbrev pub stock_kind : Kind Stock
stock_kind = record {
  wide_size = 2;
  narrow_size = 0;
  wide_words = λ x. x.pieces ∷ x.worth ∷ [];
  narrow_words = λ x. [];
  made = λ f g. record { pieces = f 0; worth = f 1 };
  nothing = record { pieces = 0; worth = 0 };
}

abbrev pub balance_kind : Kind Balance
balance_kind = record {
  wide_size = 2;
  narrow_size = 0;
  wide_words = λ x. x.left ∷ x.right ∷ [];
  narrow_words = λ x. [];
  made = λ f g. record { left = f 0; right = f 1 };
  nothing = record { left = 0; right = 0 };
}

pub record RecordLaws : Type 0 where
  pub lots : Laws lot_kind
  pub orders : Laws order_kind
  pub entries : Laws entry_kind
  pub parts : Laws part_kind
  pub recipes : Laws recipe_kind
  pub stocks : Laws stock_kind
  pub balances : Laws balance_kind
