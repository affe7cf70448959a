-- A kind of record, kept in a row of words of each slice: how one is read and written at any address of any memory, and the laws of it.
use Rattle.std.specs.Prelude.{◌≡◌, ℕ, zero, suc, ◌+◌, ◌<◌, ◌≤◌, Bool, cond, ◌&&◌, ◌⊎◌, List, [], ◌++◌, length, take, drop, nat_le, slice_index, slice_index_or}
use Rattle.records.specs.State.{State, state}

-- the k words from a on lie in the list
abbrev pub fits : {W : Type 0} → ℕ → ℕ → List W → Bool
fits a k s = nat_le (a + k) (length s)

-- the word j of the row at a, and z past the end
abbrev pub word_or : {W : Type 0} → W → List W → ℕ → ℕ → W
word_or z s a zero = slice_index_or s a z
word_or z s a (suc j) = slice_index_or s (a + suc j) z

-- the same for numbers, and 0 past the end
abbrev pub word : List ℕ → ℕ → ℕ → ℕ
word = word_or 0

-- the words ws over those from a on
unfoldable pub over : {W : Type 0} → ℕ → List W → List W → List W
over a ws s = take a s ++ (ws ++ drop (a + length ws) s)

-- how many words of each slice a record takes, which ones, how it is made of them, and the record of nothing
pub record Kind (X : Type 0) : Type 0 where
  pub wide_size : ℕ
  pub narrow_size : ℕ
  pub wide_words : X → List ℕ
  pub narrow_words : X → List ℕ
  pub made : (ℕ → ℕ) → (ℕ → ℕ) → X
  pub nothing : X

-- both rows of a record lie in their slices
abbrev pub lies : {X : Type 0} → Kind X → ℕ → ℕ → State → Bool
lies k a b s = fits a k.wide_size s.wide && fits b k.narrow_size s.narrow

-- the record at a and b, and nothing where a row of it is not wholly there
abbrev pub read : {X : Type 0} → Kind X → ℕ → ℕ → State → X
read k a b s = cond (lies k a b s) (k.made (word s.wide a) (word s.narrow b)) k.nothing

-- a record put at a and b, unless a row of it is not wholly there
abbrev pub write : {X : Type 0} → Kind X → ℕ → ℕ → X → State → State
write k a b x s = cond (lies k a b s) (state (over a (k.wide_words x) s.wide) (over b (k.narrow_words x) s.narrow)) s

-- the same for a kind that lies in one slice alone
abbrev pub read_wide : {X : Type 0} → Kind X → ℕ → List ℕ → X
read_wide k a w = cond (fits a k.wide_size w) (k.made (word w a) (word [] 0)) k.nothing

abbrev pub write_wide : {X : Type 0} → Kind X → ℕ → X → List ℕ → List ℕ
write_wide k a x w = cond (fits a k.wide_size w) (over a (k.wide_words x) w) w

abbrev pub read_narrow : {X : Type 0} → Kind X → ℕ → List ℕ → X
read_narrow k a n = cond (fits a k.narrow_size n) (k.made (word [] 0) (word n a)) k.nothing

abbrev pub write_narrow : {X : Type 0} → Kind X → ℕ → X → List ℕ → List ℕ
write_narrow k a x n = cond (fits a k.narrow_size n) (over a (k.narrow_words x) n) n

-- the same for a record in a row of k words of one slice, of any word: made of the words from a on, or nothing, and put as its words
abbrev pub read_row : {W X : Type 0} → W → ℕ → ((ℕ → W) → X) → X → ℕ → List W → X
read_row z k made nothing a s = cond (fits a k s) (made (word_or z s a)) nothing

abbrev pub write_row : {W X : Type 0} → ℕ → (X → List W) → ℕ → X → List W → List W
write_row k words a x s = cond (fits a k s) (over a (words x) s) s

-- what is made of k words depends on these alone
abbrev pub Alike : {W X : Type 0} → ℕ → ((ℕ → W) → X) → Type 0
Alike {W} k made = (f g : ℕ → W) → ((j : ℕ) → j < k → f j ≡ g j) → made f ≡ made g

-- i is none of the k words from a on
abbrev pub Outside : ℕ → ℕ → ℕ → Type 0
Outside a k i = (i < a) ⊎ (a + k ≤ i)

-- the k words from a on are the same in both lists
abbrev pub SameRow : ℕ → ℕ → List ℕ → List ℕ → Type 0
SameRow a k s s' = (i : ℕ) → a ≤ i → i < a + k → slice_index s' i ≡ slice_index s i

-- what is written is a row of the kind's size, and a record is made of its own words
pub record Sound {X : Type 0} (k : Kind X) : Type 0 where
  pub wide_long : (x : X) → length (k.wide_words x) ≡ k.wide_size
  pub narrow_long : (x : X) → length (k.narrow_words x) ≡ k.narrow_size
  pub again : (x : X) (f g : ℕ → ℕ) → ((j : ℕ) → j < k.wide_size → f j ≡ slice_index (k.wide_words x) j) → ((j : ℕ) → j < k.narrow_size → g j ≡ slice_index (k.narrow_words x) j) → k.made f g ≡ x
  pub alike : (f g f' g' : ℕ → ℕ) → ((j : ℕ) → j < k.wide_size → f' j ≡ f j) → ((j : ℕ) → j < k.narrow_size → g' j ≡ g j) → k.made f' g' ≡ k.made f g

-- GETTING AFTER PUTTING. At the same place: what was put is got. Elsewhere, of this kind or another: a record is what its own
-- words are (`depends`), and putting one writes its own words alone (`wide_kept`, `narrow_kept`, `long`).
pub record Laws {X : Type 0} (k : Kind X) : Type 0 where
  pub same : (a b : ℕ) (x : X) (s : State) → a + k.wide_size ≤ length s.wide → b + k.narrow_size ≤ length s.narrow → read k a b (write k a b x s) ≡ x
  pub depends : (a b : ℕ) (s s' : State) → length s'.wide ≡ length s.wide → length s'.narrow ≡ length s.narrow →
      SameRow a k.wide_size s.wide s'.wide → SameRow b k.narrow_size s.narrow s'.narrow → read k a b s' ≡ read k a b s
  pub wide_kept : (a b : ℕ) (x : X) (s : State) (i : ℕ) → Outside a k.wide_size i → slice_index (write k a b x s).wide i ≡ slice_index s.wide i
  pub narrow_kept : (a b : ℕ) (x : X) (s : State) (i : ℕ) → Outside b k.narrow_size i → slice_index (write k a b x s).narrow i ≡ slice_index s.narrow i
  pub long : (a b : ℕ) (x : X) (s : State) → (length (write k a b x s).wide ≡ length s.wide) × (length (write k a b x s).narrow ≡ length s.narrow)
