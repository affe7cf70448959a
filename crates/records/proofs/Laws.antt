-- The laws of getting after putting, proved once for any kind of record, and at each of the kinds.
use Rattle.std.proofs.Common.{◌≡◌, ℕ, ◌+◌, ◌≤◌, true, cond, ◌&&◌, leb, length, get_or, sym, refl, ap, ◌∙◌, subst, ap₂, arith}
use Rattle.std.proofs.lemmas.Bool.{cond_both, cond-true, le-leb, leb-true, and_from, and_parts}
use Rattle.records.specs.Kind.{fits, word, over, Kind, lies, read, write, Outside, Sound, Laws}
use Rattle.records.specs.Kinds.{lot_kind, order_kind, entry_kind, part_kind, recipe_kind, stock_kind, balance_kind, RecordLaws}
use Rattle.records.specs.Sound.{lot_sound, order_sound, entry_sound, part_sound, recipe_sound, stock_sound, balance_sound}
use Rattle.records.specs.State.{State, state}
use Rattle.records.proofs.Over.{length_over, over_same, over_other, word_is}

module _ {X : Type 0} (k : Kind X) (sound : Sound k) where
  -- what lies there, lies there
  inside : (a b : ℕ) (s : State) → a + k.wide_size ≤ length s.wide → b + k.narrow_size ≤ length s.narrow → lies k a b s ≡ true
  inside a b s w n = and_from _ _ (le-leb _ _ w) (le-leb _ _ n)

  -- the state that a record leaves where its rows lie there
  abbrev put : ℕ → ℕ → X → State → State
  put a b x s = state (over a (k.wide_words x) s.wide) (over b (k.narrow_words x) s.narrow)

  module _ (a b : ℕ) (x : X) (s : State) (w : a + k.wide_size ≤ length s.wide) (n : b + k.narrow_size ≤ length s.narrow) where
    wide_fits : a + length (k.wide_words x) ≤ length s.wide
    wide_fits = omega (arith, sound.wide_long x)

    narrow_fits : b + length (k.narrow_words x) ≤ length s.narrow
    narrow_fits = omega (arith, sound.narrow_long x)

    put_long : (length (put a b x s).wide ≡ length s.wide) × (length (put a b x s).narrow ≡ length s.narrow)
    put_long = (length_over a (k.wide_words x) s.wide wide_fits, length_over b (k.narrow_words x) s.narrow narrow_fits)

    put_same : read k a b (put a b x s) ≡ x
    put_same =
        cond-true (lies k a b (put a b x s)) _ _ (inside a b (put a b x s) (omega (arith, put_long.0)) (omega (arith, put_long.1)))
        ∙ sound.again x _ _ (λ j lt. word_is (put a b x s).wide a j ∙ over_same a (k.wide_words x) s.wide wide_fits j (omega (arith, sound.wide_long x)))
        (λ j lt. word_is (put a b x s).narrow b j ∙ over_same b (k.narrow_words x) s.narrow narrow_fits j (omega (arith, sound.narrow_long x)))

  -- a write either puts both rows, or nothing
  by_write : (a b : ℕ) (x : X) (s : State) (P : State → Type 0) → (a + k.wide_size ≤ length s.wide → b + k.narrow_size ≤ length s.narrow → P (put a b x s)) → P s → P (write k a b x s)
  by_write a b x s P there not_there =
      cond_both (lies k a b s) (put a b x s) s P (λ e. let both = and_parts (fits a k.wide_size s.wide) (fits b k.narrow_size s.narrow) e in there (leb-true _ _ both.0) (leb-true _ _ both.1)) (λ _. not_there)

  pub laws : Laws k
  laws = record {
    same = λ a b x s w n. ap (read k a b) (cond-true (lies k a b s) (put a b x s) s (inside a b s w n)) ∙ put_same a b x s w n;
    depends = λ a b s s' lw ln w n.
        ap₂ (λ (p q : ℕ). cond (leb (a + k.wide_size) p && leb (b + k.narrow_size) q) (k.made (word s'.wide a) (word s'.narrow b)) k.nothing) lw ln
        ∙ ap (λ (r : X). cond (lies k a b s) r k.nothing)
        (sound.alike _ _ _ _ (λ j lt. word_is s'.wide a j ∙ w (a + j) (omega arith) (omega arith) ∙ sym (word_is s.wide a j))
        (λ j lt. word_is s'.narrow b j ∙ n (b + j) (omega arith) (omega arith) ∙ sym (word_is s.narrow b j)));
    wide_kept = λ a b x s i out.
        by_write a b x s (λ (t : State). get_or t.wide i 0 ≡ get_or s.wide i 0)
        (λ w n. over_other a (k.wide_words x) s.wide (wide_fits a b x s w n) i (subst (λ (m : ℕ). Outside a m i) (sym (sound.wide_long x)) out)) refl;
    narrow_kept = λ a b x s i out.
        by_write a b x s (λ (t : State). get_or t.narrow i 0 ≡ get_or s.narrow i 0)
        (λ w n. over_other b (k.narrow_words x) s.narrow (narrow_fits a b x s w n) i (subst (λ (m : ℕ). Outside b m i) (sym (sound.narrow_long x)) out)) refl;
    long = λ a b x s. by_write a b x s (λ (t : State). (length t.wide ≡ length s.wide) × (length t.narrow ≡ length s.narrow)) (λ w n. put_long a b x s w n) (refl, refl);
  }

pub record_laws : RecordLaws
record_laws = record {
  lots = laws lot_kind lot_sound;
  orders = laws order_kind order_sound;
  entries = laws entry_kind entry_sound;
  parts = laws part_kind part_sound;
  recipes = laws recipe_kind recipe_sound;
  stocks = laws stock_kind stock_sound;
  balances = laws balance_kind balance_sound;
}
