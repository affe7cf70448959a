-- Why a call is turned away, in words, and what is said of a number that stands for nothing. Definitions only: nothing is assumed.
use Rattle.std.specs.Prelude.{ℕ, List, codes}
use Rattle.wire.specs.declared.refusal.Refusal.{Refusal}
use Rattle.wire.specs.declared.refusal.Refusal.TheVariants.{Unreadable, BadField, NoRoom, NoSuchOrder, OtherKind, TooMany, NotOnHand, NoRecipe, OverLimits}

abbrev pub refusal_text : Refusal → List ℕ
refusal_text Unreadable = codes "no call"
refusal_text BadField = codes "out of range, or not done"
refusal_text NoRoom = codes "too little memory"
refusal_text NoSuchOrder = codes "no such order"
refusal_text OtherKind = codes "an order of the other kind"
refusal_text TooMany = codes "more than was ordered, moved or is owed"
refusal_text NotOnHand = codes "not enough on hand"
refusal_text NoRecipe = codes "no recipe"
refusal_text OverLimits = codes "over the limits"

abbrev pub unknown_text : List ℕ
unknown_text = codes "a number that stands for nothing"
