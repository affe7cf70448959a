use Rattle.text.proofs.Going.{opens}
use Rattle.text.proofs.books.Books.open.Goals as goal

pub returns : goal.returns
returns c =
    let h = c.in_ok-open.field-0 in
    let fresh = c.in_ok-open.ensures in
    (fresh.0, record { keeps = opens c.args.limits h fresh.1; tally = c.new-2.ensures })
