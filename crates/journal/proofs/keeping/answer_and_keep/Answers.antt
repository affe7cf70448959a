use Rattle.std.proofs.Common.{ℕ, sym, subst}
use Rattle.firm.specs.Answers.{ran}
use Rattle.text.specs.Books.{memory_of, Answered}
use Rattle.text.specs.Run.{calls}
use Rattle.text.specs.Standing.{Standing}
use Rattle.journal.proofs.Kept.{restarts}
use Rattle.journal.proofs.keeping.answer_and_keep.Goals as goal

pub returns : goal.returns
returns c =
    let e = c.in_ok-keep_lines.ensures in
    let b' = c.keep_lines.new.books in
    let answered : Answered c.args.text.now c.args.books.now b' c.args.out.now.items c.keep_lines.new.out.items =
    λ l f h. record {
      keeps = subst (λ (r : ℕ). Standing l (ran l f (calls c.args.text.now)) (memory_of b') r) (sym e.room) (e.done l f h).standing;
      text = (e.done l f h).text;
      tally = e.counted l f h;
    } in
    record {
      answered = answered;
      keeps = λ l f h. (e.kept l f h).lines;
      restarts = restarts c.args.text.now c.args.books.now b' c.args.out.now.items c.keep_lines.new.out.items c.args.kept.now.items c.keep_lines.new.kept.items answered (λ l f h. e.kept l f h);
    }
