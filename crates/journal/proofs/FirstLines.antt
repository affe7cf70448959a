-- The first line, as it is written and read. Assumes nothing.
use Rattle.std.proofs.Common.{◌≡◌, ℕ, suc, ◌+◌, ◌^◌, ◌<◌, Bool, true, false, not, cond, eqb, ltb, List, [], ◌∷◌, ◌++◌, take, Ok, codes, decimal, refl, ap, ◌∙◌, append_assoc, arith}
use Rattle.std.specs.List.{prefix_len, list_all}
use Rattle.std.proofs.lemmas.Bool.{cond-true, cond-false, and_parts, not-true, lt-ltb}
use Rattle.layout.specs.declared.limits.Limits.{Limits}
use Rattle.words.specs.Readers.{then, number, keyword, end}
use Rattle.words.proofs.ReadBack.{ends, number_reads, then_reads}
use Rattle.journal.specs.FirstLine.{first_of, below_limit, limit_read, limits_read, if_read}
use Rattle.journal.specs.Statements.{Small, FirstLineComesBack}
use Rattle.journal.proofs.Lines.{inside, Inside, number_inside}

-- a word and a number more, with something behind them
pub more : (o x y rest : List ℕ) → (o ++ (x ++ y)) ++ rest ≡ o ++ (x ++ (y ++ rest))
more o x y rest = append_assoc o (x ++ y) rest ∙ ap (λ (z : List ℕ). o ++ z) (append_assoc x y rest)

abbrev pub within : ℕ → Bool
within c = not (eqb c 10)

one_more : (n : ℕ) → 1 + n ≡ suc n
one_more n = omega arith

first_if : (b : Bool) (c n : ℕ) (cs : List ℕ) → take n cs ≡ first_of cs → take (cond (not b) (1 + n) 0) (c ∷ cs) ≡ cond b [] (c ∷ first_of cs)
first_if true c n cs h = refl
first_if false c n cs h = ap (λ (k : ℕ). take k (c ∷ cs)) (one_more n) ∙ ap (λ (x : List ℕ). c ∷ x) h

pub first_is : (s : List ℕ) → take (prefix_len within s) s ≡ first_of s
first_is [] = refl
first_is (c ∷ cs) = first_if (eqb c 10) c (prefix_len within cs) cs (first_is cs)

-- PIECES WITHOUT LINE FEEDS: what stands before the line feed behind them is these
abbrev joined : List (List ℕ) → List ℕ → List ℕ
joined [] t = t
joined (p ∷ ps) t = p ++ joined ps t

abbrev AllInside : List (List ℕ) → Type 0
AllInside [] = Unit {0}
AllInside (p ∷ ps) = Inside p × AllInside ps

first_over : (xs ys : List ℕ) → Inside xs → first_of (xs ++ ys) ≡ xs ++ first_of ys
first_over [] ys h = refl
first_over (c ∷ cs) ys h =
    let p = and_parts (inside c) (list_all inside cs) h in
    cond-false (eqb c 10) [] (c ∷ first_of (cs ++ ys)) (not-true (eqb c 10) (and_parts (not (eqb c 10)) (not (eqb c 13)) p.0).0) ∙ ap (λ (x : List ℕ). c ∷ x) (first_over cs ys p.1)

first_joined : (ps : List (List ℕ)) (rest : List ℕ) → AllInside ps → first_of (joined ps (10 ∷ []) ++ rest) ≡ joined ps []
first_joined [] rest h = refl
first_joined (p ∷ ps) rest h =
    ap first_of (append_assoc p (joined ps (10 ∷ [])) rest) ∙ first_over p (joined ps (10 ∷ []) ++ rest) h.0 ∙ ap (λ (x : List ℕ). p ++ x) (first_joined ps rest h.1)

-- an option and its number
option_reads : (w s r : List ℕ) (n : ℕ) → keyword w s ≡ Ok (codes " " ++ (decimal n ++ r)) → n < 2 ^ 32 → ends r ≡ true → limit_read w s ≡ Ok (n, r)
unfolding limit_read number
option_reads w s r n e h k =
    then_reads (keyword w s) (codes " " ++ (decimal n ++ r)) (λ t. then (number t) below_limit) e
    ∙ then_reads (number (decimal n ++ r)) (n, r) below_limit (number_reads n r (omega arith) k)
    ∙ cond-true (ltb n (2 ^ 32)) (Ok (n, r)) _ (lt-ltb n (2 ^ 32) h)

options_read : (l : Limits) → Small l →
    limits_read (codes "# books --items " ++ (decimal l.items ++ (codes " --orders " ++ (decimal l.orders ++ (codes " --lots " ++ (decimal l.lots
    ++ (codes " --parts " ++ (decimal l.parts ++ (codes " --entries " ++ (decimal l.entries ++ [])))))))))) ≡ Ok l
unfolding limits_read keyword end
options_read l h =
    let D : List ℕ = codes " --entries " ++ (decimal l.entries ++ []) in
    let C : List ℕ = codes " --parts " ++ (decimal l.parts ++ D) in
    let B : List ℕ = codes " --lots " ++ (decimal l.lots ++ C) in
    let A : List ℕ = codes " --orders " ++ (decimal l.orders ++ B) in
    then_reads (limit_read (codes "--items") (codes " --items " ++ (decimal l.items ++ A))) (l.items, A) _ (option_reads (codes "--items") (codes " --items " ++ (decimal l.items ++ A)) A l.items refl h.0 refl)
    ∙ then_reads (limit_read (codes "--orders") A) (l.orders, B) _ (option_reads (codes "--orders") A B l.orders refl h.1 refl)
    ∙ then_reads (limit_read (codes "--lots") B) (l.lots, C) _ (option_reads (codes "--lots") B C l.lots refl h.2 refl)
    ∙ then_reads (limit_read (codes "--parts") C) (l.parts, D) _ (option_reads (codes "--parts") C D l.parts refl h.3 refl)
    ∙ then_reads (limit_read (codes "--entries") D) (l.entries, []) _ (option_reads (codes "--entries") D [] l.entries refl h.4 refl)

small_inside : (n : ℕ) → n < 2 ^ 32 → Inside (decimal n)
small_inside n h = number_inside n (lt-ltb n 18446744073709551616 (omega arith))

pub first_line_comes_back : FirstLineComesBack
first_line_comes_back l rest h =
    let ps : List (List ℕ) =
    codes "# books --items " ∷ decimal l.items ∷ codes " --orders " ∷ decimal l.orders ∷ codes " --lots " ∷ decimal l.lots
    ∷ codes " --parts " ∷ decimal l.parts ∷ codes " --entries " ∷ decimal l.entries ∷ [] in
    let fine : AllInside ps =
    (refl, (small_inside l.items h.0, (refl, (small_inside l.orders h.1, (refl, (small_inside l.lots h.2, (refl, (small_inside l.parts h.3, (refl, (small_inside l.entries h.4, tt)))))))))) in
    ap (λ (x : List ℕ). if_read (limits_read x)) (first_joined ps rest fine) ∙ ap if_read (options_read l h)
