-- The turns of the loop over a recipe's parts. Assumes nothing.
use Rattle.std.proofs.Common.{◌≡◌, ℕ, zero, suc, ◌+◌, ◌-◌, ◌<◌, ◌≤◌, Bool, true, false, List, [], ◌∷◌, ◌++◌, length, Ok, Err, Result, sym, refl, ap, ◌∙◌, arith, length-append, Bor}
use Rattle.std.specs.List.{flat_map}
use Rattle.std.specs.Result.{is_ok, result_map_both}
use Rattle.std.proofs.lemmas.List.{flat_map_more}
use Rattle.words.specs.Readers.{Read, then, end}
use Rattle.wire.specs.Rows.{part_bytes}
use Rattle.firm.specs.Stock.{Part}
use Rattle.call_lines.specs.Recipes.{next_part, if_ended, part_of, parts, appended}

-- the parts read and written so far, and what is left to read, which gives the whole
pub record Parted (line rest before out : List ℕ) (n : ℕ) : Type 0 where
  pub got : List Part
  pub count : length got ≡ n
  pub bytes : out ≡ before ++ flat_map part_bytes got
  pub left : parts (255 - n) got rest ≡ parts 255 [] line

-- whether the line has ended, by what was read of its end
pub end_read : (r : Result (Unit {0}) (Bor (List ℕ))) (e : Read (Unit {0})) (b : Bool) → result_map_both (λ u. u) (λ x. x.now) r ≡ e → is_ok r ≡ b → is_ok e ≡ b
end_read (Ok u) e b h k = ap is_ok (sym h) ∙ k
end_read (Err x) e b h k = ap is_ok (sym h) ∙ k

then_ended : {X : Type 0} (e : Read (Unit {0})) (r : Read X) → is_ok e ≡ true → then e (λ _. r) ≡ r
then_ended (Ok u) r h = refl
then_ended (Err x) r h = absurd (let z : ◌≡◌ {A = ℕ} 0 1 = cc in omega arith)

if_ends : {X : Type 0} (e : Read (Unit {0})) (r s : Read X) → is_ok e ≡ true → if_ended e r s ≡ r
if_ends (Ok u) r s h = refl
if_ends (Err x) r s h = absurd (let z : ◌≡◌ {A = ℕ} 0 1 = cc in omega arith)

if_goes_on : {X : Type 0} (e : Read (Unit {0})) (r s : Read X) → is_ok e ≡ false → if_ended e r s ≡ s
if_goes_on (Ok u) r s h = absurd (let z : ◌≡◌ {A = ℕ} 0 1 = cc in omega arith)
if_goes_on (Err x) r s h = refl

parts_ended : (k : ℕ) (got : List Part) (s : List ℕ) → is_ok (end s) ≡ true → parts k got s ≡ Ok got
unfolding parts
parts_ended zero got s e = then_ended (end s) (Ok got) e
parts_ended (suc k) got s e = if_ends (end s) (Ok got) (then (next_part (length got) s) (λ p. parts k (got ++ part_of p.0 ∷ []) p.1)) e

parts_go_on : (k n : ℕ) (got : List Part) (s : List ℕ) → length got ≡ n → n < k → is_ok (end s) ≡ false →
    parts (k - n) got s ≡ then (next_part n s) (λ p. parts (k - (n + 1)) (got ++ part_of p.0 ∷ []) p.1)
unfolding parts
parts_go_on k n got s c h e =
    let m : k - n ≡ suc (k - (n + 1)) = omega arith in
    ap (λ (j : ℕ). parts j got s) m
    ∙ if_goes_on (end s) (Ok got) (then (next_part (length got) s) (λ p. parts (k - (n + 1)) (got ++ part_of p.0 ∷ []) p.1)) e
    ∙ ap (λ (j : ℕ). then (next_part j s) (λ p. parts (k - (n + 1)) (got ++ part_of p.0 ∷ []) p.1)) c

-- the line ends after n parts
pub ended : (line rest before out : List ℕ) (n : ℕ) → Parted line rest before out n → is_ok (end rest) ≡ true → Ok (n, out) ≡ appended before (parts 255 [] line)
ended line rest before out n p e =
    ap (λ (m : ℕ). Ok (m, out)) (sym p.count) ∙ ap (λ (b : List ℕ). Ok (length p.got, b)) p.bytes
    ∙ ap (appended before) (sym (parts_ended (255 - n) p.got rest e) ∙ p.left)

-- it goes on with what is no part
pub misfit : (line rest before out at : List ℕ) (n : ℕ) → Parted line rest before out n → n < 255 → is_ok (end rest) ≡ false → Err at ≡ next_part n rest → Err at ≡ appended before (parts 255 [] line)
misfit line rest before out at n p h e f =
    ap (appended before)
    (ap (λ (r : Read ((ℕ × ℕ) × List ℕ)). then r (λ q. parts (255 - (n + 1)) (p.got ++ part_of q.0 ∷ []) q.1)) f ∙ sym (parts_go_on 255 n p.got rest p.count h e) ∙ p.left)

-- it goes on after the last part that fits
pub full : (line rest before out at : List ℕ) (n : ℕ) → Parted line rest before out n → 255 ≤ n → Err at ≡ end rest → Err at ≡ appended before (parts 255 [] line)
unfolding parts
full line rest before out at n p h e =
    let m : 255 - n ≡ 0 = omega arith in
    ap (appended before) (ap (λ (r : Read (Unit {0})). then r (λ _. Ok p.got)) e ∙ ap (λ (k : ℕ). parts k p.got rest) (sym m) ∙ p.left)

-- it goes on with a part, which is written
pub another : (line rest before out now after : List ℕ) (q : ℕ × ℕ) (n : ℕ) → Parted line rest before out n → n < 255 → is_ok (end rest) ≡ false → Ok (q, after) ≡ next_part n rest
    → now ≡ out ++ part_bytes (part_of q) → Parted line after before now (n + 1)
another line rest before out now after q n p h e f b = record {
  got = p.got ++ part_of q ∷ [];
  count = length-append p.got (part_of q ∷ []) ∙ ap (λ (m : ℕ). m + 1) p.count;
  bytes = b ∙ ap (λ (o : List ℕ). o ++ part_bytes (part_of q)) p.bytes ∙ flat_map_more part_bytes before p.got (part_of q);
  left = ap (λ (r : Read ((ℕ × ℕ) × List ℕ)). then r (λ s. parts (255 - (n + 1)) (p.got ++ part_of s.0 ∷ []) s.1)) f ∙ sym (parts_go_on 255 n p.got rest p.count h e) ∙ p.left;
}
