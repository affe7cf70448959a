use Rattle.text.specs.Books.{memory_of}
use Rattle.text.specs.declared.fate.Fate.TheVariants.{Quiet}
use Rattle.text.proofs.Fated.{none_fated, some_fated}
use Rattle.text.proofs.Lined.{none_came, some_came}
use Rattle.text.proofs.Noting.{none_noted, some_noted}
use Rattle.text.proofs.books.Books.answer_call.Goals as goal

pub returns-clause-done : goal.returns-clause-done
returns-clause-done c =
    let b = c.args.self.now in
    rw (← c.as_slice.ensures.value)
    (some_came c.as_slice.result.now b.held.answer.items (memory_of b) _ c.in-Some.answer.now c.args.out.now.items _ c.call.follows.holds-at-none.memory c.in-Some.ensures.answer c.in_ok-put_answer.ensures)

pub returns-clause-counted : goal.returns-clause-counted
returns-clause-counted c =
    let b = c.args.self.now in
    rw (← c.as_slice.ensures.value)
    (some_noted c.as_slice.result.now b.held.answer.items (memory_of b) c.in-Some.answer.now b.tally _ c.in-Some.ensures.answer c.note.ensures)

pub returns-clause-fated : goal.returns-clause-fated
returns-clause-fated c =
    let b = c.args.self.now in
    rw (← c.as_slice.ensures.value)
    (some_fated c.as_slice.result.now b.held.answer.items (memory_of b) c.in-Some.answer.now c.fate_told.result c.in-Some.ensures.answer c.fate_told.ensures)

pub returns-in_default-clause-done : goal.returns-in_default-clause-done
returns-in_default-clause-done c =
    let b = c.args.self.now in
    rw (← c.as_slice.ensures.value) (none_came c.as_slice.result.now b.held.answer.items (memory_of b) _ c.args.out.now.items c.in_default.ensures.answer)

pub returns-in_default-clause-counted : goal.returns-in_default-clause-counted
returns-in_default-clause-counted c =
    let b = c.args.self.now in
    rw (← c.as_slice.ensures.value) (none_noted c.as_slice.result.now b.held.answer.items (memory_of b) b.tally c.in_default.ensures.answer)

pub returns-in_default-clause-fated : goal.returns-in_default-clause-fated
returns-in_default-clause-fated c =
    let b = c.args.self.now in
    rw (← c.as_slice.ensures.value) (none_fated c.as_slice.result.now b.held.answer.items (memory_of b) Quiet c.in_default.ensures.answer)
