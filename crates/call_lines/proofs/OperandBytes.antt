-- The bytes of a call of one, two or three numbers. Assumes nothing.
use Rattle.std.proofs.Common.{◌≡◌, ℕ, List, [], ◌∷◌, Ok, Err, refl, ap, ◌∙◌}
use Rattle.words.specs.Readers.{Read, then, number, end}
use Rattle.fields.specs.Bytes.{all_fields}
use Rattle.wire.specs.Calls.{bytes_of_call}
use Rattle.firm.specs.Calls.{Call, buys, sells, comes, goes, billed_by, bills, pays_out, pays_in, makes, counted, stock_of, account, order, lots_of, entries_from}
use Rattle.wire.specs.declared.call_kind.CallKind.{CallKind}
use Rattle.wire.specs.declared.call_kind.CallKind.TheVariants.{Buys, Sells, Comes, Goes, BilledBy, Bills, PaysOut, PaysIn, MadeOf, Makes, Counted, StockOf, Account, Order, LotsOf, EntriesFrom}
use Rattle.openings.specs.declared.form.Form.{Form}
use Rattle.openings.specs.declared.form.Form.TheVariants.{One, Two, Three, Recipe}
use Rattle.wire.specs.Said.{kind_number}
use Rattle.openings.specs.Forms.{form_of}
use Rattle.call_lines.specs.Numbers.{one, two, three, numbers}
use Rattle.call_lines.specs.Lines.{of_one, of_two, of_three, recipe, call_after, bytes_or_rest}

-- the bytes of what is read, if they are the call's
mapped_then : {X : Type 0} (r : Read X) (f : X → Call) (g : X → List ℕ) → ((x : X) → g x ≡ bytes_of_call (f x)) → then r (λ x. Ok (g x)) ≡ bytes_or_rest (then r (λ x. Ok (f x)))
mapped_then (Ok x) f g e = ap (λ (b : List ℕ). Ok b) (e x)
mapped_then (Err s) f g e = refl

-- one, two or three numbers are so many
through : {X Y Z : Type 0} (r : Read X) (h : X → Y) (g : Y → Read Z) → then (then r (λ x. Ok (h x))) g ≡ then r (λ x. g (h x))
through (Ok x) h g = refl
through (Err e) h g = refl

one_end : (x : ℕ) (e : Read (Unit {0})) → then (then e (λ _. Ok [])) (λ ns. Ok (x ∷ ns)) ≡ then (then e (λ _. Ok x)) (λ a. Ok (a ∷ []))
one_end x (Ok u) = refl
one_end x (Err e) = refl

one_more : (r : Read (ℕ × List ℕ)) → then r (λ a. then (then (end a.1) (λ _. Ok [])) (λ ns. Ok (a.0 ∷ ns))) ≡ then (then r (λ a. then (end a.1) (λ _. Ok a.0))) (λ a. Ok (a ∷ []))
one_more (Ok p) = one_end p.0 (end p.1)
one_more (Err e) = refl

one_numbers : (s : List ℕ) → numbers 1 s ≡ then (one s) (λ a. Ok (a ∷ []))
unfolding numbers one
one_numbers s = one_more (number s)

two_end : (x : ℕ) (r : Read ℕ) → then (then r (λ a. Ok (a ∷ []))) (λ ns. Ok (x ∷ ns)) ≡ then (then {X = ℕ} {Y = ℕ × ℕ} r (λ b. Ok (x, b))) (λ p. Ok (p.0 ∷ (p.1 ∷ [])))
two_end x (Ok b) = refl
two_end x (Err e) = refl

two_more : (r : Read (ℕ × List ℕ)) → then r (λ a. then (numbers 1 a.1) (λ ns. Ok (a.0 ∷ ns))) ≡ then (then {X = ℕ × List ℕ} {Y = ℕ × ℕ} r (λ a. then (one a.1) (λ b. Ok (a.0, b)))) (λ p. Ok (p.0 ∷ (p.1 ∷ [])))
two_more (Ok p) = ap (λ (t : Read (List ℕ)). then t (λ ns. Ok (p.0 ∷ ns))) (one_numbers p.1) ∙ two_end p.0 (one p.1)
two_more (Err e) = refl

two_numbers : (s : List ℕ) → numbers 2 s ≡ then (two s) (λ p. Ok (p.0 ∷ (p.1 ∷ [])))
unfolding numbers two
two_numbers s = two_more (number s)

three_end : (x : ℕ) (r : Read (ℕ × ℕ)) → then (then r (λ p. Ok (p.0 ∷ (p.1 ∷ [])))) (λ ns. Ok (x ∷ ns)) ≡ then (then {X = ℕ × ℕ} {Y = ℕ × ℕ × ℕ} r (λ b. Ok (x, b.0, b.1))) (λ p. Ok (p.0 ∷ (p.1 ∷ (p.2 ∷ []))))
three_end x (Ok b) = refl
three_end x (Err e) = refl

three_more : (r : Read (ℕ × List ℕ)) → then r (λ a. then (numbers 2 a.1) (λ ns. Ok (a.0 ∷ ns))) ≡ then (then {X = ℕ × List ℕ} {Y = ℕ × ℕ × ℕ} r (λ a. then (two a.1) (λ b. Ok (a.0, b.0, b.1)))) (λ p. Ok (p.0 ∷ (p.1 ∷ (p.2 ∷ []))))
three_more (Ok p) = ap (λ (t : Read (List ℕ)). then t (λ ns. Ok (p.0 ∷ ns))) (two_numbers p.1) ∙ three_end p.0 (two p.1)
three_more (Err e) = refl

three_numbers : (s : List ℕ) → numbers 3 s ≡ then (three s) (λ p. Ok (p.0 ∷ (p.1 ∷ (p.2 ∷ []))))
unfolding numbers three
three_numbers s = three_more (number s)

one_bytes : (n : ℕ) (f : ℕ → Call) (s : List ℕ) → ((a : ℕ) → n ∷ all_fields (a ∷ []) ≡ bytes_of_call (f a)) → then (numbers 1 s) (λ ns. Ok (n ∷ all_fields ns)) ≡ bytes_or_rest (of_one f s)
one_bytes n f s e =
    ap (λ (r : Read (List ℕ)). then r (λ ns. Ok (n ∷ all_fields ns))) (one_numbers s) ∙ through (one s) (λ a. a ∷ []) (λ ns. Ok (n ∷ all_fields ns))
    ∙ mapped_then (one s) f (λ a. n ∷ all_fields (a ∷ [])) e

two_bytes : (n : ℕ) (f : ℕ → ℕ → Call) (s : List ℕ) → ((a b : ℕ) → n ∷ all_fields (a ∷ (b ∷ [])) ≡ bytes_of_call (f a b))
    → then (numbers 2 s) (λ ns. Ok (n ∷ all_fields ns)) ≡ bytes_or_rest (of_two f s)
two_bytes n f s e =
    ap (λ (r : Read (List ℕ)). then r (λ ns. Ok (n ∷ all_fields ns))) (two_numbers s) ∙ through (two s) (λ p. p.0 ∷ (p.1 ∷ [])) (λ ns. Ok (n ∷ all_fields ns))
    ∙ mapped_then (two s) (λ p. f p.0 p.1) (λ p. n ∷ all_fields (p.0 ∷ (p.1 ∷ []))) (λ p. e p.0 p.1)

three_bytes : (n : ℕ) (f : ℕ → ℕ → ℕ → Call) (s : List ℕ) → ((a b c : ℕ) → n ∷ all_fields (a ∷ (b ∷ (c ∷ []))) ≡ bytes_of_call (f a b c))
    → then (numbers 3 s) (λ ns. Ok (n ∷ all_fields ns)) ≡ bytes_or_rest (of_three f s)
three_bytes n f s e =
    ap (λ (r : Read (List ℕ)). then r (λ ns. Ok (n ∷ all_fields ns))) (three_numbers s) ∙ through (three s) (λ p. p.0 ∷ (p.1 ∷ (p.2 ∷ []))) (λ ns. Ok (n ∷ all_fields ns))
    ∙ mapped_then (three s) (λ p. f p.0 p.1 p.2) (λ p. n ∷ all_fields (p.0 ∷ (p.1 ∷ (p.2 ∷ [])))) (λ p. e p.0 p.1 p.2)

-- what is written of a form, behind a call's number
abbrev pub written_as : Form → ℕ → List ℕ → Read (List ℕ)
written_as One n s = then (numbers 1 s) (λ ns. Ok (n ∷ all_fields ns))
written_as Two n s = then (numbers 2 s) (λ ns. Ok (n ∷ all_fields ns))
written_as Three n s = then (numbers 3 s) (λ ns. Ok (n ∷ all_fields ns))
written_as Recipe n s = bytes_or_rest (recipe s)

written_is : (k : CallKind) (s : List ℕ) → written_as (form_of k) (kind_number k) s ≡ bytes_or_rest (call_after k s)
unfolding call_after
written_is Buys s = three_bytes 0 buys s (λ a b c. refl)
written_is Sells s = three_bytes 1 sells s (λ a b c. refl)
written_is Comes s = two_bytes 2 comes s (λ a b. refl)
written_is Goes s = two_bytes 3 goes s (λ a b. refl)
written_is BilledBy s = three_bytes 4 billed_by s (λ a b c. refl)
written_is Bills s = two_bytes 5 bills s (λ a b. refl)
written_is PaysOut s = one_bytes 6 pays_out s (λ a. refl)
written_is PaysIn s = one_bytes 7 pays_in s (λ a. refl)
written_is MadeOf s = refl
written_is Makes s = two_bytes 9 makes s (λ a b. refl)
written_is Counted s = two_bytes 10 counted s (λ a b. refl)
written_is StockOf s = one_bytes 11 stock_of s (λ a. refl)
written_is Account s = one_bytes 12 account s (λ a. refl)
written_is Order s = one_bytes 13 order s (λ a. refl)
written_is LotsOf s = one_bytes 14 lots_of s (λ a. refl)
written_is EntriesFrom s = two_bytes 15 entries_from s (λ a b. refl)

pub written_by : (f : Form) (n : ℕ) (k : CallKind) (s : List ℕ) → f ≡ form_of k → n ≡ kind_number k → written_as f n s ≡ bytes_or_rest (call_after k s)
written_by f n k s e h = ap (λ (g : Form). written_as g n s) e ∙ ap (λ (m : ℕ). written_as (form_of k) m s) h ∙ written_is k s
