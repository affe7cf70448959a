-- Reading what is written of a recipe gives its parts again. Assumes nothing.
use Rattle.std.proofs.Common.{◌≡◌, ℕ, zero, suc, ◌^◌, ◌<◌, ◌≤◌, true, List, [], ◌∷◌, ◌++◌, length, Ok, codes, decimal, sym, refl, ap, ◌∙◌, append_assoc, append-nil, arith, length-append}
use Rattle.std.specs.List.{flat_map}
use Rattle.std.proofs.lemmas.Bool.{cond-false, ne_eqb}
use Rattle.words.specs.Readers.{Read, then, number, keyword, mark, end}
use Rattle.words.proofs.ReadBack.{ends, number_reads, keyword_reads, then_reads}
use Rattle.firm.specs.Stock.{Part}
use Rattle.call_lines.specs.Recipes.{head, part, next_part, part_of, parts}
use Rattle.call_lines.specs.Written.{written_part, another_part, written_parts}

-- parts whose numbers fit fields
abbrev pub SmallParts : List Part → Type 0
SmallParts [] = Unit {0}
SmallParts (p ∷ ps) = (p.item < 2 ^ 64) × (p.each < 2 ^ 64) × SmallParts ps

each_reads : (r : List ℕ) → ends r ≡ true → keyword (codes "each") (codes " each" ++ r) ≡ Ok r
unfolding keyword
each_reads r e = keyword_reads (codes "each") r refl (omega arith) refl e

part_reads : (p : Part) (r : List ℕ) → p.item < 2 ^ 64 → p.each < 2 ^ 64 → ends r ≡ true → part (written_part p ++ r) ≡ Ok ((p.item, p.each), r)
unfolding part keyword number mark
part_reads p r h k e =
    let V : List ℕ = codes " each" ++ r in
    let W : List ℕ = decimal p.each ++ V in
    let Z : List ℕ = codes ", " ++ W in
    ap (λ (t : List ℕ). part (codes " item " ++ t))
    (append_assoc (decimal p.item) (codes ", " ++ (decimal p.each ++ codes " each")) r
    ∙ ap (λ (t : List ℕ). decimal p.item ++ (codes ", " ++ t)) (append_assoc (decimal p.each) (codes " each") r))
    ∙ then_reads (number (decimal p.item ++ Z)) (p.item, Z)
    (λ a. then (mark 44 a.1) (λ u. then (number u) (λ b. then (keyword (codes "each") b.1) (λ v. Ok ((a.0, b.0), v)))))
    (number_reads p.item Z h refl)
    ∙ then_reads (number W) (p.each, V) (λ b. then (keyword (codes "each") b.1) (λ v. Ok ((p.item, b.0), v))) (number_reads p.each V k refl)
    ∙ then_reads (keyword (codes "each") V) r (λ v. Ok ((p.item, p.each), v)) (each_reads r e)

-- one part is read, and then the others
abbrev turn : ℕ → List Part → Read ((ℕ × ℕ) × List ℕ) → Read (List Part)
turn k got r = then r (λ p. parts k (got ++ part_of p.0 ∷ []) p.1)

others_end : (ps : List Part) → ends (flat_map another_part ps) ≡ true
others_end [] = refl
others_end (p ∷ ps) = refl

-- a part behind others has a comma in front
later_part : (n : ℕ) (s : List ℕ) → 0 < n → next_part n s ≡ then (mark 44 s) part
unfolding next_part
later_part n s h = cond-false _ _ _ (ne_eqb n 0 (λ e. omega arith))

others_read : (k : ℕ) (got : List Part) (ps : List Part) → 0 < length got → SmallParts ps → length ps ≤ k → parts k got (flat_map another_part ps) ≡ Ok (got ++ ps)
unfolding parts end mark
others_read zero got [] g h l = ap (λ (x : List Part). Ok x) (sym (append-nil got))
others_read (suc k) got [] g h l = ap (λ (x : List Part). Ok x) (sym (append-nil got))
others_read zero got (p ∷ ps) g h l = absurd (omega arith)
others_read (suc k) got (p ∷ ps) g h l =
    ap (turn k got) (later_part (length got) (flat_map another_part (p ∷ ps)) g ∙ part_reads p (flat_map another_part ps) h.0 h.1 (others_end ps))
    ∙ others_read k (got ++ p ∷ []) ps (omega (arith, length-append got (p ∷ []))) h.2 (omega arith)
    ∙ ap (λ (x : List Part). Ok x) (append_assoc got (p ∷ []) ps)

pub parts_read : (ps : List Part) → SmallParts ps → length ps ≤ 255 → parts 255 [] (written_parts ps) ≡ Ok ps
unfolding parts next_part end
parts_read [] h l = refl
parts_read (p ∷ ps) h l =
    ap (turn 254 []) (part_reads p (flat_map another_part ps) h.0 h.1 (others_end ps)) ∙ others_read 254 (p ∷ []) ps (omega arith) h.2 (omega arith)

pub head_reads : (i : ℕ) (r : List ℕ) → i < 2 ^ 64 → head (codes " " ++ (decimal i ++ (codes ":" ++ r))) ≡ Ok (i, r)
unfolding head number mark
head_reads i r h = then_reads (number (decimal i ++ (codes ":" ++ r))) (i, codes ":" ++ r) (λ x. then (mark 58 x.1) (λ u. Ok (x.0, u))) (number_reads i (codes ":" ++ r) h refl)
