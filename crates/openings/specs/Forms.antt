-- What stands after a call's first words. Definitions only: nothing is assumed.
use Rattle.wire.specs.declared.call_kind.CallKind.{CallKind}
use Rattle.wire.specs.declared.call_kind.CallKind.TheVariants.{Buys, Sells, Comes, Goes, BilledBy, Bills, PaysOut, PaysIn, MadeOf, Makes, Counted, StockOf, Account, Order, LotsOf, EntriesFrom}
use Rattle.openings.specs.declared.form.Form.{Form}
use Rattle.openings.specs.declared.form.Form.TheVariants.{One, Two, Three, Recipe}

abbrev pub form_of : CallKind → Form
form_of Buys = Three
form_of Sells = Three
form_of Comes = Two
form_of Goes = Two
form_of BilledBy = Three
form_of Bills = Two
form_of PaysOut = One
form_of PaysIn = One
form_of MadeOf = Recipe
form_of Makes = Two
form_of Counted = Two
form_of StockOf = One
form_of Account = One
form_of Order = One
form_of LotsOf = One
form_of EntriesFrom = Two
