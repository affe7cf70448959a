use Rattle.std.proofs.Common.{◌≡◌, List, ℕ, ◌+◌, ◌-◌, take, Ok, Err, sym, ap, ◌∙◌, arith, rules, length-set}
use Rattle.std.specs.Result.{result_map_both}
use Rattle.std.proofs.lemmas.List.{take_all, take_more_set}
use Rattle.call_lines.specs.Numbers.{numbers}
use Rattle.call_lines.proofs.NumberSteps.{behind, number_more, number_misfit, numbers_end, end_misfit}
use Rattle.call_lines.proofs.numbers.read_numbers.Goals as goal

pub loop-number-preserved : goal.loop-number-preserved
loop-number-preserved g c =
    let i = c.loop-number.number-index in
    record {
      many = length-set c.loop-number.number-items i c.in_ok-n.n ∙ c.loop-number.invariant.many;
      read =
          ap (λ (x : List ℕ). behind x (numbers (g.row.N - (i + 1)) c.in_ok-n.after.now)) (take_more_set c.loop-number.number-items i c.in_ok-n.n (omega (arith, c.loop-number.invariant.many)))
          ∙ number_more i g.row.N c.in_ok-n.n (take i c.loop-number.number-items) c.loop-number.rest.now c.in_ok-n.after.now c.loop-number-test.true c.in_ok-n.ensures
          ∙ c.loop-number.invariant.read;
    }

pub returns : goal.returns
returns g c =
    let i = c.loop-number.number-index in
    let items = c.loop-number.number-items in
    ap (λ (x : List ℕ). Ok x) (sym (take_all i items (omega (arith, c.loop-number.invariant.many))))
    ∙ numbers_end i g.row.N (take i items) c.loop-number.rest.now c.in_ok-read_end.field-0 c.loop-number-test.false c.in_ok-read_end.ensures
    ∙ c.loop-number.invariant.read

pub returns-in_err-n : goal.returns-in_err-n
returns-in_err-n g c =
    let stopped : result_map_both (λ ns. ns) (λ x. x.now) c.from_residual.result ≡ Err c.in_err-n.field-0.0.now = search rules in
    stopped
    ∙ number_misfit c.loop-number.number-index g.row.N (take c.loop-number.number-index c.loop-number.number-items) c.loop-number.rest.now c.in_err-n.field-0.0.now c.loop-number-test.true c.in_err-n.ensures
    ∙ c.loop-number.invariant.read

pub returns-in_err-read_end : goal.returns-in_err-read_end
returns-in_err-read_end g c =
    let stopped : result_map_both (λ ns. ns) (λ x. x.now) c.from_residual-in_err-read_end.result ≡ Err c.in_err-read_end.field-0.0.now = search rules in
    stopped
    ∙ end_misfit c.loop-number.number-index g.row.N (take c.loop-number.number-index c.loop-number.number-items) c.loop-number.rest.now c.in_err-read_end.field-0.0.now c.loop-number-test.false c.in_err-read_end.ensures
    ∙ c.loop-number.invariant.read
