-- What a reader leaves of a line is the line's end part; and where a word does not fit, that part begins with the word. Assumes nothing.
use Rattle.std.proofs.Common.{◌≡◌, ℕ, suc, ◌+◌, ◌-◌, ◌≤◌, Bool, true, false, cond, eqb, List, [], ◌∷◌, length, drop, Some, None, Ok, Err, Option, sym, refl, ap, ◌∙◌, arith}
use Rattle.std.specs.Str.{bytes_eq}
use Rattle.std.proofs.lemmas.List.{drop-drop, drop_all, length-drop}
use Rattle.std.proofs.lemmas.Bool.{cond-false}
use Rattle.words.specs.Words.{blank, gap, trimmed, word, past}
use Rattle.words.specs.Numerals.{valued}
use Rattle.words.specs.Readers.{Read, then, number, number_at, keyword, mark, mark_at, end, end_at}

-- t is the end part of s
pub record Tail (s t : List ℕ) : Type 0 where
  pub from : ℕ
  pub within : from ≤ length s
  pub is : t ≡ drop from s

-- and begins with a word, if it is not empty
pub record Stops (s t : List ℕ) : Type 0 where
  pub tail : Tail s t
  pub word : trimmed t ≡ t

pub tail_same : (s : List ℕ) → Tail s s
tail_same s = record { from = 0; within = omega arith; is = refl }

pub tail_none : (s : List ℕ) → Tail s []
tail_none s = record { from = length s; within = omega arith; is = sym (drop_all (length s) s (omega arith)) }

tail_more : (c : ℕ) (s t : List ℕ) → Tail s t → Tail (c ∷ s) t
tail_more c s t h = record { from = suc h.from; within = let w : h.from ≤ length s = h.within in omega arith; is = h.is }

tail_on : (s t u : List ℕ) → Tail s t → Tail t u → Tail s u
tail_on s t u h k =
    let n : length t ≡ length s - h.from = ap length h.is ∙ length-drop h.from s in
    record {
      from = h.from + k.from;
      within = let a : h.from ≤ length s = h.within in let b : k.from ≤ length t = k.within in omega arith;
      is = k.is ∙ ap (drop k.from) h.is ∙ drop-drop k.from h.from s;
    }

tail_if : (b : Bool) (s t u : List ℕ) → Tail s t → Tail s u → Tail s (cond b t u)
tail_if true s t u h k = h
tail_if false s t u h k = k

trimmed_tail : (s : List ℕ) → Tail s (trimmed s)
trimmed_tail [] = tail_same []
trimmed_tail (c ∷ cs) = tail_if (blank c) (c ∷ cs) (trimmed cs) (c ∷ cs) (tail_more c cs (trimmed cs) (trimmed_tail cs)) (tail_same (c ∷ cs))

past_tail : (s : List ℕ) → Tail s (past s)
past_tail [] = tail_same []
past_tail (c ∷ cs) = tail_if (gap c) (c ∷ cs) (c ∷ cs) (past cs) (tail_same (c ∷ cs)) (tail_more c cs (past cs) (past_tail cs))

-- blanks are passed over once
again_if : (b : Bool) (c : ℕ) (cs : List ℕ) → blank c ≡ b → trimmed (trimmed cs) ≡ trimmed cs → trimmed (cond b (trimmed cs) (c ∷ cs)) ≡ cond b (trimmed cs) (c ∷ cs)
again_if true c cs e h = h
again_if false c cs e h = cond-false _ _ _ e

trimmed_again : (s : List ℕ) → trimmed (trimmed s) ≡ trimmed s
trimmed_again [] = refl
trimmed_again (c ∷ cs) = again_if (blank c) c cs refl (trimmed_again cs)

-- A READER LEAVES an end part of what it was given: after what it read, or from the word that does not fit on
abbrev pub Leaves : {X : Type 0} → (X → List ℕ) → List ℕ → Read X → Type 0
Leaves rest s (Ok x) = Tail s (rest x)
Leaves rest s (Err e) = Stops s e

pub leaves_on : {X : Type 0} (rest : X → List ℕ) (s t : List ℕ) (r : Read X) → Tail s t → Leaves rest t r → Leaves rest s r
leaves_on rest s t (Ok x) h k = tail_on s t (rest x) h k
leaves_on rest s t (Err e) h k = record { tail = tail_on s t e h k.tail; word = k.word }

pub leaves_then : {X Y : Type 0} (rest : X → List ℕ) (after : Y → List ℕ) (s : List ℕ) (r : Read X) (f : X → Read Y) → Leaves rest s r → ((x : X) → Leaves after (rest x) (f x)) → Leaves after s (then r f)
leaves_then rest after s (Ok x) f h k = leaves_on after s (rest x) (f x) h (k x)
leaves_then rest after s (Err e) f h k = h

pub leaves_if : {X : Type 0} (rest : X → List ℕ) (s : List ℕ) (b : Bool) (r t : Read X) → Leaves rest s r → Leaves rest s t → Leaves rest s (cond b r t)
leaves_if rest s true r t h k = h
leaves_if rest s false r t h k = k

-- from the blanks in front on
pub leaves_trimmed : {X : Type 0} (rest : X → List ℕ) (s : List ℕ) (r : Read X) → Leaves rest (trimmed s) r → Leaves rest s r
leaves_trimmed rest s r h = leaves_on rest s (trimmed s) r (trimmed_tail s) h

pub stops_here : (s : List ℕ) → Stops (trimmed s) (trimmed s)
stops_here s = record { tail = tail_same (trimmed s); word = trimmed_again s }

pub past_here : (s : List ℕ) → Tail (trimmed s) (past (trimmed s))
past_here s = past_tail (trimmed s)

number_at_leaves : (o : Option ℕ) (s : List ℕ) → Leaves (λ p. p.1) (trimmed s) (number_at o (trimmed s))
number_at_leaves (Some n) s = past_here s
number_at_leaves None s = stops_here s

pub number_leaves : (s : List ℕ) → Leaves (λ p. p.1) s (number s)
unfolding number
number_leaves s = leaves_trimmed (λ p. p.1) s (number_at (valued (word (trimmed s))) (trimmed s)) (number_at_leaves (valued (word (trimmed s))) s)

pub keyword_leaves : (w s : List ℕ) → Leaves (λ t. t) s (keyword w s)
unfolding keyword
keyword_leaves w s =
    leaves_trimmed (λ t. t) s (cond (bytes_eq (word (trimmed s)) w) (Ok (past (trimmed s))) (Err (trimmed s)))
    (leaves_if (λ t. t) (trimmed s) (bytes_eq (word (trimmed s)) w) (Ok (past (trimmed s))) (Err (trimmed s)) (past_here s) (stops_here s))

mark_at_leaves : (m : ℕ) (t : List ℕ) → trimmed t ≡ t → Leaves (λ u. u) t (mark_at m t)
mark_at_leaves m [] h = record { tail = tail_same []; word = refl }
mark_at_leaves m (c ∷ cs) h = leaves_if (λ u. u) (c ∷ cs) (eqb c m) (Ok cs) (Err (c ∷ cs)) (tail_more c cs cs (tail_same cs)) (record { tail = tail_same (c ∷ cs); word = h })

pub mark_leaves : (m : ℕ) (s : List ℕ) → Leaves (λ t. t) s (mark m s)
unfolding mark
mark_leaves m s = leaves_trimmed (λ t. t) s (mark_at m (trimmed s)) (mark_at_leaves m (trimmed s) (trimmed_again s))

end_at_leaves : (t : List ℕ) → trimmed t ≡ t → Leaves (λ _. []) t (end_at t)
end_at_leaves [] h = tail_same []
end_at_leaves (c ∷ cs) h = record { tail = tail_same (c ∷ cs); word = h }

pub end_leaves : (s : List ℕ) → Leaves (λ _. []) s (end s)
unfolding end
end_leaves s = leaves_trimmed (λ _. []) s (end_at (trimmed s)) (end_at_leaves (trimmed s) (trimmed_again s))
