-- Reading what is written of a call's numbers gives them again. Assumes nothing.
use Rattle.std.proofs.Common.{◌≡◌, ℕ, ◌^◌, ◌<◌, List, [], ◌++◌, Ok, codes, decimal, sym, refl, ap, ◌∙◌, append-nil}
use Rattle.words.specs.Readers.{then, number, end}
use Rattle.words.proofs.ReadBack.{number_reads, then_reads}
use Rattle.call_lines.specs.Numbers.{one, two, three}
use Rattle.call_lines.specs.Written.{written_two, written_three}

pub one_reads : (a : ℕ) → a < 2 ^ 64 → one (codes " " ++ decimal a) ≡ Ok a
unfolding one number end
one_reads a h = ap (λ (s : List ℕ). one (codes " " ++ s)) (sym (append-nil (decimal a))) ∙ then_reads (number (decimal a ++ [])) (a, []) (λ p. then (end p.1) (λ _. Ok p.0)) (number_reads a [] h refl)

pub two_reads : (a b : ℕ) → a < 2 ^ 64 → b < 2 ^ 64 → two (codes " " ++ written_two a b) ≡ Ok (a, b)
unfolding two number
two_reads a b h k =
    then_reads (number (written_two a b)) (a, codes " " ++ decimal b) (λ p. then (one p.1) (λ q. Ok (p.0, q))) (number_reads a (codes " " ++ decimal b) h refl)
    ∙ then_reads (one (codes " " ++ decimal b)) b (λ q. Ok (a, q)) (one_reads b k)

pub three_reads : (a b c : ℕ) → a < 2 ^ 64 → b < 2 ^ 64 → c < 2 ^ 64 → three (codes " " ++ written_three a b c) ≡ Ok (a, b, c)
unfolding three number
three_reads a b c h k l =
    then_reads (number (written_three a b c)) (a, codes " " ++ written_two b c) (λ p. then (two p.1) (λ q. Ok (p.0, q.0, q.1))) (number_reads a (codes " " ++ written_two b c) h refl)
    ∙ then_reads (two (codes " " ++ written_two b c)) (b, c) (λ q. Ok (a, q.0, q.1)) (two_reads b c k l)
