-- Rows in the middle of slices: what a part of one leaves all of whose words are written, and what is made of two that are read.
use Rattle.std.proofs.Common.{◌≡◌, ℕ, suc, ◌+◌, ◌-◌, ◌<◌, ◌≤◌, List, [], ◌∷◌, ◌++◌, length, get_or, set, take, drop, sym, ap, ◌∙◌, arith, length-drop}
use Rattle.std.proofs.Math.Seq.{take-suc, take-suc-set}
use borrow.Rule.Slice.PartMut.{put_mid}
use Rattle.std.proofs.lemmas.Bool.{cond-true, le-leb, and_from}
use Rattle.std.proofs.lemmas.List.{drop-drop, take_all, length-take-le, get_or-take, get_or-drop}
use Rattle.records.specs.Kind.{over, word, Kind, Sound, lies, read}
use Rattle.records.specs.State.{state}
use Rattle.records.proofs.Over.{word_is}

pub part_over : {W : Type 0} (a k : ℕ) (s ps ws : List W) → length ws ≡ k → ps ≡ ws → put_mid a (a + k - a) s ps ≡ over a ws s
unfolding over
part_over {W} a k s ps ws long e =
    let d : a + k - a ≡ k = omega arith in
    ap (λ (ys : List W). put_mid a (a + k - a) s ys) e ∙ ap (λ (j : ℕ). take a s ++ (ws ++ drop j (drop a s))) d
    ∙ ap (λ (zs : List W). take a s ++ (ws ++ zs)) (drop-drop k a s ∙ ap (λ (j : ℕ). drop (a + j) s) (sym long))

-- as many words as the part, written one after the other, are the part
pub part_long : {W : Type 0} (a k : ℕ) (s ps : List W) → a + k ≤ length s → length ps ≡ length (take (a + k - a) (drop a s)) → length ps ≡ k
part_long a k s ps le e = e ∙ length-take-le (a + k - a) (drop a s) (omega (arith, length-drop a s)) ∙ omega arith

pub part_written : {W : Type 0} (n k : ℕ) (ps ws : List W) (d : W) → length ps ≡ n → length ws ≡ n → k < n → take k ps ≡ take k ws →
    take (k + 1) (set ps k (get_or ws k d)) ≡ take (k + 1) ws
part_written {W} n k ps ws d long as_long lt so_far =
    let more : k + 1 ≡ suc k = omega arith in
    ap (λ (j : ℕ). take j (set ps k (get_or ws k d))) more ∙ take-suc-set ps k (get_or ws k d) (omega arith) ∙ ap (λ (xs : List W). xs ++ (get_or ws k d ∷ [])) so_far
    ∙ sym (take-suc ws k d (omega arith)) ∙ ap (λ (j : ℕ). take j ws) (sym more)

pub part_whole : {W : Type 0} (n k : ℕ) (ps ws : List W) → length ps ≡ n → length ws ≡ n → n ≤ k → take k ps ≡ take k ws → ps ≡ ws
part_whole n k ps ws long as_long le so_far = sym (take_all k ps (omega arith)) ∙ so_far ∙ take_all k ws (omega arith)

-- a word of a row that is read
row_word : (s ws : List ℕ) (a k j : ℕ) → ws ≡ take k (drop a s) → j < k → word ws 0 j ≡ word s a j
row_word s ws a k j e lt =
    let z : 0 + j ≡ j = omega arith in
    word_is ws 0 j ∙ ap (λ (i : ℕ). get_or ws i 0) z ∙ ap (λ (t : List ℕ). get_or t j 0) e ∙ get_or-take k (drop a s) j 0 lt ∙ get_or-drop a s j 0 ∙ sym (word_is s a j)

pub read_rows : {X : Type 0} (k : Kind X) (sound : Sound k) (two : (k.wide_size ≡ 2) × (k.narrow_size ≡ 2)) (a b : ℕ) (w n p q : List ℕ) →
    a + 2 ≤ length w → b + 2 ≤ length n → p ≡ take 2 (drop a w) → q ≡ take 2 (drop b n) → k.made (word p 0) (word q 0) ≡ read k a b (state w n)
read_rows k sound two a b w n p q wide narrow ep eq =
    sound.alike (word w a) (word n b) (word p 0) (word q 0) (λ j lt. row_word w p a 2 j ep (omega (arith, two.0))) (λ j lt. row_word n q b 2 j eq (omega (arith, two.1)))
    ∙ sym (cond-true (lies k a b (state w n)) _ _ (and_from _ _ (le-leb (a + k.wide_size) (length w) (omega (arith, two.0))) (le-leb (b + k.narrow_size) (length n) (omega (arith, two.1)))))
