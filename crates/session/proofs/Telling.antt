-- What was taken, as an answer: where the bytes for it suffice, they have it, and its length is that of its lines. Assumes nothing.
use Rattle.std.proofs.Common.{◌≡◌, ℕ, ◌+◌, ◌*◌, ◌≤◌, List, length, ap, ◌∙◌, arith}
use Rattle.firm.specs.Calls.{lots}
use Rattle.firm.specs.Stock.{Lot}
use Rattle.layout.specs.Layout.{answer_need}
use Rattle.layout.specs.declared.limits.Limits.{Limits}
use Rattle.taking.specs.Takes.{most_lines, Tally, tally, told}
use Rattle.taking.specs.declared.wants.Taken.{Taken}
use Rattle.taking.proofs.Tallies.{tells, counts_lines}
use Rattle.session.specs.Calling.{Said}
use Rattle.session.specs.Lengths.{lots_long}

pub lots_said : (l : Limits) (ps : List Lot) (t : Taken) (n : ℕ) (old now : List ℕ) → n ≡ 9 + 32 * t.lines → length ps ≤ most_lines l → answer_need l ≤ length old → tally now t ≡ told ps old →
    Said (lots ps) n old now
lots_said l ps t n old now is few room e =
    let lines : t.lines ≡ length ps = ap (λ (y : Tally). y.taken.lines) e ∙ counts_lines l ps old few in
    record {
      long = omega (arith, is, lines, lots_long ps);
      fits = omega (arith, is, lines, few, room);
      bytes = ap (λ (y : Tally). y.answer) e ∙ tells l ps old few room;
    }
