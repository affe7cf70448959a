-- Why nothing is kept or taken, in words.
use Rattle.std.specs.Prelude.{ℕ, List, codes}
use Rattle.store.specs.declared.refusal.Refusal.{Refusal}
use Rattle.store.specs.declared.refusal.Refusal.TheVariants.{NoSuchItem, NoSuchAccount, NoSuchOrder, NoLot, Full}

abbrev pub refusal_text : Refusal → List ℕ
refusal_text NoSuchItem = codes "no such item"
refusal_text NoSuchAccount = codes "no such account"
refusal_text NoSuchOrder = codes "no such order"
refusal_text NoLot = codes "no lot"
refusal_text Full = codes "full"
