-- The worked books: all answers compute. Assumes nothing.
use Rattle.std.proofs.Common.{refl}
use Rattle.firm.specs.Stock.{take, on_hand, worth, all_worth, take_all, of_item}
use Rattle.firm.specs.Ledger.{entry, left_side, right_side, sum_of, some_from}
use Rattle.firm.specs.Firm.{recipe, recipe_parts}
use Rattle.firm.specs.Calls.{call_number}
use Rattle.firm.specs.Changes.{changed}
use Rattle.firm.specs.Refusals.{good_parts, good_fields, turned_by, place}
use Rattle.firm.specs.Answers.{told, answers}
use Rattle.firm.specs.Books.{WorkedBooks, books_calls, books_answers}

pub worked_books : WorkedBooks
unfolding take on_hand worth all_worth take_all recipe entry left_side right_side call_number good_parts good_fields turned_by changed recipe_parts sum_of of_item some_from told place answers books_calls books_answers
worked_books = refl
