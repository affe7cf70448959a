-- Line by line along a stream. Assumes nothing.
use Rattle.std.proofs.Common.{◌≡◌, ℕ, zero, suc, ◌+◌, ◌<◌, length, take, drop, slice_index, Global, arith, Bool, true, false, eqb, None, Some, IfSome, Option, Ok, Err, Result, IfOk, OnOk, List, [], ◌∷◌, ◌++◌, inl, inr, refl, sym, ap, ◌∙◌, subst, append_assoc, append-nil}
use Rattle.std.proofs.lemmas.Bool.{cond_both, cond-true, cond-false}
use Rattle.std.specs.Io.BufRead.{take_through, drop_through, DropsConsumable}
use Rattle.std.specs.Io.Buffered.{reader_buffer, reader_capacity, reader_remaining}
use Rattle.std.specs.declared.io.buffered.BufReader.{BufReader}
use Rattle.std.specs.Io.KnownBytes.{prepend_known, Appends, IsAtEnd}
use mathlib.Core.List.{map-append}
use Rattle.std.specs.List.{flat_map}
use Rattle.firm.specs.Firm.{Firm}
use Rattle.firm.specs.Calls.{Call, Limits}
use Rattle.firm.specs.Answers.{answers, ran}
use Rattle.call_lines.specs.Lines.{call_in_line}
use Rattle.text.specs.Books.{Keeps, Answered, Done}
use Rattle.text.specs.Lines.{heard, lines_after, lines, lines_of_calls}
use Rattle.text.specs.Run.{calls_in, calls, printed}
use Rattle.text.specs.Streaming.{CameAnswered, Next, NextAnswered, Put, Written, Streamed}
use Rattle.text.specs.Tallies.{tallied}
use Rattle.text.specs.declared.books.Books.{Books}
use Rattle.text.specs.declared.tally.Tally.{Tally}
use Rattle.text.proofs.Going.{answers_append, ran_append, printed_append}
use Rattle.text.proofs.Noting.{tallied_append}
use Rattle.text.proofs.Splitting.{call_lines_add}

-- the first line and the rest have the lines of the whole: behind a line feed nothing is heard
heard_through : (l xs : List ℕ) → flat_map heard (lines_after l xs) ≡ flat_map heard (lines_after l (take_through 10 xs)) ++ flat_map heard (lines (drop_through 10 xs))
heard_through l [] = sym (append-nil (flat_map heard (l ∷ [])))
heard_through l (c ∷ cs) =
    cond_both (eqb c 10) (l ∷ lines_after [] cs) (lines_after (l ++ c ∷ []) cs)
    (λ (ls : List (List ℕ)). flat_map heard ls ≡ flat_map heard (lines_after l (take_through 10 (c ∷ cs))) ++ flat_map heard (lines (drop_through 10 (c ∷ cs))))
    (λ e.
    let cut : take_through 10 (c ∷ cs) ≡ c ∷ [] = cond-true (eqb c 10) (c ∷ []) (c ∷ take_through 10 cs) e in
    let rest : drop_through 10 (c ∷ cs) ≡ cs = cond-true (eqb c 10) cs (drop_through 10 cs) e in
    let line : lines_after l (c ∷ []) ≡ l ∷ [] ∷ [] = cond-true (eqb c 10) (l ∷ [] ∷ []) (lines_after (l ++ c ∷ []) []) e in
    ap (λ (x : List (List ℕ)). x ++ flat_map heard (lines cs)) (sym (append-nil (heard l)))
    ∙ ap (λ (ls : List (List ℕ)). flat_map heard ls ++ flat_map heard (lines cs)) (sym line)
    ∙ ap (λ (x : List ℕ). flat_map heard (lines_after l x) ++ flat_map heard (lines cs)) (sym cut)
    ∙ ap (λ (x : List ℕ). flat_map heard (lines_after l (take_through 10 (c ∷ cs))) ++ flat_map heard (lines x)) (sym rest))
    (λ e.
    let cut : take_through 10 (c ∷ cs) ≡ c ∷ take_through 10 cs = cond-false (eqb c 10) (c ∷ []) (c ∷ take_through 10 cs) e in
    let rest : drop_through 10 (c ∷ cs) ≡ drop_through 10 cs = cond-false (eqb c 10) cs (drop_through 10 cs) e in
    let line : lines_after l (c ∷ take_through 10 cs) ≡ lines_after (l ++ c ∷ []) (take_through 10 cs) = cond-false (eqb c 10) (l ∷ lines_after [] (take_through 10 cs)) (lines_after (l ++ c ∷ []) (take_through 10 cs)) e in
    heard_through (l ++ c ∷ []) cs
    ∙ ap (λ (ls : List (List ℕ)). flat_map heard ls ++ flat_map heard (lines (drop_through 10 cs))) (sym line)
    ∙ ap (λ (x : List ℕ). flat_map heard (lines_after l x) ++ flat_map heard (lines (drop_through 10 cs))) (sym cut)
    ∙ ap (λ (x : List ℕ). flat_map heard (lines_after l (take_through 10 (c ∷ cs))) ++ flat_map heard (lines x)) (sym rest))

calls_through : (xs : List ℕ) → calls xs ≡ calls (take_through 10 xs) ++ calls (drop_through 10 xs)
calls_through xs = ap calls_in (heard_through [] xs) ∙ map-append call_in_line (lines_of_calls (take_through 10 xs)) (lines_of_calls (drop_through 10 xs))

-- A PIECE of what is left: a line that was read, or the lines up to a line feed of the buffer
pub came_next : (left left' : Option (List ℕ)) (b b' : Books) (out out' : List ℕ) (more : Bool) → CameAnswered left left' b b' out out' more → NextAnswered left left' b b' out out' more
came_next None left' b b' out out' true is = tt
came_next (Some xs) left' b b' out out' true is = record { piece = take_through 10 xs; rest = drop_through 10 xs; cut = calls_through xs; left = is.0; answered = is.1 }
came_next left left' b b' out out' false is = is

calls_add : (a b : List ℕ) → calls (a ++ 10 ∷ b) ≡ calls a ++ calls b
calls_add a b = ap calls_in (call_lines_add a b) ∙ map-append call_in_line (lines_of_calls a) (lines_of_calls b)

cut_at : (xs ys : List ℕ) (n : ℕ) → n < length xs → slice_index xs n ≡ 10 → xs ++ ys ≡ take n xs ++ 10 ∷ drop (suc n) (xs ++ ys)
cut_at [] ys n h e = absurd (omega arith)
cut_at (x ∷ xs) ys zero h e = ap (λ (c : ℕ). c ∷ (xs ++ ys)) e
cut_at (x ∷ xs) ys (suc n) h e = ap (λ (l : List ℕ). x ∷ l) (cut_at xs ys n (omega arith) e)

cut_next : (buffer : List ℕ) (ahead : Option (List ℕ)) (left' : Option (List ℕ)) (end : ℕ) (b b' : Books) (out out' : List ℕ) → end < length buffer → slice_index buffer end ≡ 10 →
    DropsConsumable (prepend_known buffer ahead) left' (Some (length buffer)) (end + 1) → Answered (take end buffer) b b' out out' → NextAnswered (prepend_known buffer ahead) left' b b' out out' true
cut_next buffer None left' end b b' out out' h e drops answered = tt
cut_next buffer (Some ys) left' end b b' out out' h e drops answered =
    record {
      piece = take end buffer;
      rest = drop (end + 1) (buffer ++ ys);
      left = drops (omega arith);
      answered = answered;
      cut = ap calls (cut_at buffer ys end h e ∙ ap (λ (n : ℕ). take end buffer ++ 10 ∷ drop n (buffer ++ ys)) one_more) ∙ calls_add (take end buffer) (drop (end + 1) (buffer ++ ys));
    }
  where
    one_more : suc end ≡ end + 1
    one_more = omega arith

pub ready_next : {R : Type 0} (known : R → Option (List ℕ)) (r r' : BufReader R Global) (end : ℕ) (b b' : Books) (out out' : List ℕ) → end < length (reader_buffer r) → slice_index (reader_buffer r) end ≡ 10 →
    DropsConsumable (reader_remaining known r) (reader_remaining known r') (Some (length (reader_buffer r))) (end + 1) → Answered (take end (reader_buffer r)) b b' out out' →
    NextAnswered (reader_remaining known r) (reader_remaining known r') b b' out out' true
ready_next known r r' end b b' out out' h e drops answered =
    cond_both (eqb (reader_capacity r) 0) None (prepend_known (reader_buffer r) (known r.inner))
    (λ (left : Option (List ℕ)). DropsConsumable left (reader_remaining known r') (Some (length (reader_buffer r))) (end + 1) → NextAnswered left (reader_remaining known r') b b' out out' true)
    (λ _ d. tt)
    (λ _ d. cut_next (reader_buffer r) (known r.inner) (reader_remaining known r') end b b' out out' h e d answered)
    drops

pub if_ok : {T E : Type 0} {P Q : T → Type 0} (r : Result T E) → ((x : T) → P x → Q x) → IfOk r P → IfOk r Q
if_ok (Ok x) f p = f x p
if_ok (Err e) f p = tt

pub on_ok : {T E A B : Type 0} (r : Result T E) → (A → B) → OnOk r A → OnOk r B
on_ok (Ok x) f a = f a
on_ok (Err e) f a = tt

-- WHAT WAS WRITTEN grows
wrote_nothing : (out : Option (List ℕ)) → Appends out out []
wrote_nothing None = tt
wrote_nothing (Some xs) = sym (append-nil xs)

wrote_more : (out mid end : Option (List ℕ)) (a b : List ℕ) → Appends out mid a → Appends mid end b → Appends out end (a ++ b)
wrote_more None mid end a b p q = tt
wrote_more (Some xs) None end a b p q = absurd p
wrote_more (Some xs) (Some ys) None a b p q = absurd q
wrote_more (Some xs) (Some ys) (Some zs) a b p q = q ∙ ap (λ (x : List ℕ). x ++ b) p ∙ append_assoc xs a b

-- ON THE WAY: the firm g is kept now, and what is written so far, what is held back, and what the rest is answered on g are the whole
pub record Way (text : List ℕ) (left : Option (List ℕ)) (l : Limits) (f : Firm) (b b' : Books) (out out' : Option (List ℕ)) (held : List ℕ) : Type 0 where
  rest : List ℕ
  is_left : left ≡ Some rest
  firm : Firm
  keeps : Keeps l firm b'
  leaves : ran l firm (calls rest) ≡ ran l f (calls text)
  counts : tallied b'.tally (answers l firm (calls rest)) ≡ tallied b.tally (answers l f (calls text))
  written : List ℕ
  wrote : Appends out out' written
  comes_to : written ++ (held ++ printed (answers l firm (calls rest))) ≡ printed (answers l f (calls text))

abbrev pub OnTheWay : Option (List ℕ) → Option (List ℕ) → Books → Books → Option (List ℕ) → Option (List ℕ) → List ℕ → Type 0
OnTheWay all left b b' out out' held = IfSome all (λ text. (l : Limits) (f : Firm) → Keeps l f b → Way text left l f b b' out out' held)

pub way_begins : (all : Option (List ℕ)) (b : Books) (out : Option (List ℕ)) → OnTheWay all all b b out out []
way_begins None b out = tt
way_begins (Some text) b out = λ l f k.
    record { rest = text; is_left = refl; firm = f; keeps = k; leaves = refl; counts = refl; written = []; wrote = wrote_nothing out; comes_to = refl }

next_way : (text : List ℕ) (left left' : Option (List ℕ)) (l : Limits) (f : Firm) (b b₁ b₂ : Books) (out out' : Option (List ℕ)) (held held' : List ℕ) →
    Way text left l f b b₁ out out' held → NextAnswered left left' b₁ b₂ held held' true → Way text left' l f b b₂ out out' held'
next_way text left left' l f b b₁ b₂ out out' held held' w n =
    record {
      rest = next.rest;
      is_left = next.left;
      firm = ran l w.firm line;
      keeps = done.keeps;
      leaves = sym (ran_append l w.firm line more) ∙ sym (ap (ran l w.firm) next.cut) ∙ w.leaves;
      counts = ap (λ (t : Tally). tallied t (answers l (ran l w.firm line) more)) done.tally ∙ sym (tallied_append b₁.tally (answers l w.firm line) (answers l (ran l w.firm line) more)) ∙ sym (ap (tallied b₁.tally) told) ∙ w.counts;
      written = w.written;
      wrote = w.wrote;
      comes_to =
          ap (λ (x : List ℕ). w.written ++ (x ++ printed (answers l (ran l w.firm line) more))) done.text
          ∙ ap (λ (x : List ℕ). w.written ++ x) (append_assoc held (printed (answers l w.firm line)) (printed (answers l (ran l w.firm line) more))
          ∙ ap (λ (x : List ℕ). held ++ x) (sym (printed_append (answers l w.firm line) (answers l (ran l w.firm line) more)) ∙ sym (ap printed told)))
          ∙ w.comes_to;
    }
  where
    next : Next w.rest left' b₁ b₂ held held'
    next = subst (λ (x : Option (List ℕ)). NextAnswered x left' b₁ b₂ held held' true) w.is_left n

    line : List Call
    line = calls next.piece

    more : List Call
    more = calls next.rest

    told : answers l w.firm (calls w.rest) ≡ answers l w.firm line ++ answers l (ran l w.firm line) more
    told = ap (answers l w.firm) next.cut ∙ answers_append l w.firm line more

    done : Done l w.firm line b₁ b₂ held held'
    done = next.answered l w.firm w.keeps

pub way_goes_on : (all left left' : Option (List ℕ)) (b b₁ b₂ : Books) (out out' : Option (List ℕ)) (held held' : List ℕ) →
    OnTheWay all left b b₁ out out' held → NextAnswered left left' b₁ b₂ held held' true → OnTheWay all left' b b₂ out out' held'
way_goes_on None left left' b b₁ b₂ out out' held held' w n = tt
way_goes_on (Some text) left left' b b₁ b₂ out out' held held' w n = λ l f k. next_way text left left' l f b b₁ b₂ out out' held held' (w l f k) n

pub way_writes : (all left : Option (List ℕ)) (b b₁ : Books) (out out' out'' : Option (List ℕ)) (held : List ℕ) → OnTheWay all left b b₁ out out' held → Appends out' out'' held → OnTheWay all left b b₁ out out'' []
way_writes None left b b₁ out out' out'' held w p = tt
way_writes (Some text) left b b₁ out out' out'' held w p = λ l f k.
    let y = w l f k in
    record {
      rest = y.rest;
      is_left = y.is_left;
      firm = y.firm;
      keeps = y.keeps;
      leaves = y.leaves;
      counts = y.counts;
      written = y.written ++ held;
      wrote = wrote_more out out' out'' y.written held y.wrote p;
      comes_to = append_assoc y.written held (printed (answers l y.firm (calls y.rest))) ∙ y.comes_to;
    }

way_done : (text : List ℕ) (left left' : Option (List ℕ)) (l : Limits) (f : Firm) (b b₁ b₂ : Books) (out out' out'' : Option (List ℕ)) (held held' : List ℕ) →
    Way text left l f b b₁ out out' held → NextAnswered left left' b₁ b₂ held held' false → Appends out' out'' held' → Written l f (calls text) b b₂ out out''
unfolding ran answers
way_done text left left' l f b b₁ b₂ out out' out'' held held' y n p =
    record {
      keeps = subst (λ (x : Books). Keeps l (ran l f (calls text)) x) (sym n.1) (subst (λ (g : Firm). Keeps l g b₁) (sym (ap (ran l y.firm) none) ∙ y.leaves) y.keeps);
      text = subst (Appends out out'') (ap (λ (x : List ℕ). y.written ++ x) (n.2 ∙ sym (append-nil held) ∙ ap (λ (cs : List Call). held ++ printed (answers l y.firm cs)) (sym none)) ∙ y.comes_to) (wrote_more out out' out'' y.written held' y.wrote p);
      tally = ap (λ (x : Books). x.tally) n.1 ∙ sym (ap (λ (cs : List Call). tallied b₁.tally (answers l y.firm cs)) none) ∙ y.counts;
    }
  where
    ended : y.rest ≡ []
    ended = subst IsAtEnd y.is_left n.0

    none : calls y.rest ≡ []
    none = ap calls ended

pub way_puts : (all left : Option (List ℕ)) (b b₁ : Books) (out out' out'' : Option (List ℕ)) (held held' : List ℕ) → OnTheWay all left b b₁ out out' held → Put out' out'' held held' → OnTheWay all left b b₁ out out'' held'
way_puts all left b b₁ out out' out'' held held' w (inl p) = subst (OnTheWay all left b b₁ out out'') (sym p.1) (way_writes all left b b₁ out out' out'' held w p.0)
way_puts all left b b₁ out out' out'' held held' w (inr p) = subst (λ (x : Option (List ℕ)). OnTheWay all left b b₁ out x held') (sym p.0) (subst (OnTheWay all left b b₁ out out') (sym p.1) w)

pub way_ends : (all left left' : Option (List ℕ)) (b b₁ b₂ : Books) (out out' out'' : Option (List ℕ)) (held held' : List ℕ) →
    OnTheWay all left b b₁ out out' held → NextAnswered left left' b₁ b₂ held held' false → Appends out' out'' held' → Streamed all b b₂ out out''
way_ends None left left' b b₁ b₂ out out' out'' held held' w n p = tt
way_ends (Some text) left left' b b₁ b₂ out out' out'' held held' w n p = λ l f k. way_done text left left' l f b b₁ b₂ out out' out'' held held' (w l f k) n p
