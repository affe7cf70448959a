-- Line by line through a journal, until one is turned away. Assumes nothing.
use Rattle.std.proofs.Common.{◌≡◌, ◌≢◌, ℕ, ◌+◌, ◌-◌, ◌^◌, ◌<◌, min, Bool, true, false, Some, Option, Bor, map, List, [], ◌∷◌, ◌++◌, length, take, drop, get_or, refl, sym, ap, ◌∙◌, subst, arith}
use denote.Param.Members.{Mut}
use Rattle.std.specs.Fn.{CalledAt}
use Rattle.std.specs.Iterator.{Yields}
use Rattle.std.specs.List.{slice_split, list_all}
use Rattle.std.specs.declared.slice.Split.{Split}
use Rattle.std.specs.Slice.Iter.{split_rest, split_done, split_callee, split_steps}
use Rattle.std.proofs.lemmas.Iterator.Consumers.{YieldsList-so_far, YieldsList-turn}
use Rattle.std.proofs.lemmas.Iterator.Splits.{YieldsList-from_slice_split}
use Rattle.std.proofs.lemmas.Bool.{and_from}
use Rattle.std.proofs.lemmas.List.{take-append-drop, drop_more}
use Rattle.std.proofs.lemmas.List.Folds.{list_all-append}
use Rattle.firm.specs.Firm.{Firm, new_firm}
use Rattle.firm.specs.Calls.{Call, Answer, refused, number, two, lots, entries, Limits}
use Rattle.firm.specs.Answers.{answers, ran}
use Rattle.records.specs.State.{State}
use Rattle.wire.specs.declared.refusal.Refusal.{Refusal}
use Rattle.text.specs.Fates.{NoRefusal, TellsLine, CallsFated}
use Rattle.text.specs.Lines.{heard, lines}
use Rattle.text.specs.Run.{calls_in}
use Rattle.text.specs.Standing.{Standing, CallsDone}
use Rattle.text.specs.Statements.{taken}
use Rattle.text.specs.declared.fate.Fate.{Fate}
use Rattle.text.specs.declared.fate.Fate.TheVariants as fate
use Rattle.text.proofs.Going.{answers_append, ran_append, calls_after, calls_after_more}
use Rattle.text.proofs.Splitting.{feed, lines_are}
use Rattle.journal.specs.Replaying.{AllTaken}

-- the line at hand, and those before and behind it
apart : (all : List (List ℕ)) (k : ℕ) (x : List ℕ) → k < length all → x ≡ get_or all k x → all ≡ take k all ++ x ∷ drop (k + 1) all
apart all k x h e =
    let one : drop k all ≡ get_or all k x ∷ drop (k + 1) all = drop_more all k x h in
    sym (take-append-drop k all) ∙ ap (λ ys. take k all ++ ys) (one ∙ ap (λ (y : List ℕ). y ∷ drop (k + 1) all) (sym e))

pub line_there : {F : Type 0} {g : Mut F (Bor ℕ × Unit {0}) Bool} {f : F} (s : Split ℕ F) (text : List ℕ) (xs : List (Bor (List ℕ))) (t : Split ℕ F) → Yields (split_steps g) s xs t → (r : Option (Bor (List ℕ))) (u : Split ℕ F) (x : Bor (List ℕ)) →
    r ≡ Some x → split_steps g t r u → split_rest s ≡ text → split_done s ≡ false → split_callee s ≡ f → ((x : ℕ) (b : Bool) (q : F) → CalledAt g f x b q → (q ≡ f) × (b ≡ feed x)) →
    lines text ≡ map (λ x. x.now) xs ++ x.now ∷ drop (length xs + 1) (lines text)
line_there {g = g} s text xs t y r u x some step rest done closure by =
    let all = YieldsList-from_slice_split g feed text rest done closure by in
    let so_far : map (λ x. x.now) xs ≡ take (length xs) (slice_split feed text) = YieldsList-so_far all xs t y in
    let turn = YieldsList-turn all xs t y r u x some step in
    let here : slice_split feed text ≡ take (length xs) (slice_split feed text) ++ x.now ∷ drop (length xs + 1) (slice_split feed text) = apart (slice_split feed text) (length xs) x.now turn.0 turn.1 in
    sym (lines_are text) ∙ here ∙ ap (λ (ls : List (List ℕ)). ls ++ x.now ∷ drop (length xs + 1) (slice_split feed text)) (sym so_far)
    ∙ ap (λ (ls : List (List ℕ)). map (λ x. x.now) xs ++ x.now ∷ drop (length xs + 1) ls) (lines_are text)

-- the answers to a line that was not turned away
no_refusal_taken : (a : Answer) → NoRefusal a → taken a ≡ true
no_refusal_taken (refused n p) h = absurd (h n p refl)
no_refusal_taken (number n) h = refl
no_refusal_taken (two a b) h = refl
no_refusal_taken (lots ls) h = refl
no_refusal_taken (entries es) h = refl

line_taken : (f : Fate) (told : List Answer) → ((r : Refusal) (p : ℕ) → f ≢ fate.Refused r p) → TellsLine f told → list_all taken told ≡ true
line_taken fate.Quiet told other h = ap (list_all taken) h
line_taken (fate.Refused r p) told other h = absurd (other r p refl)
line_taken fate.Taken told other h = ap (list_all taken) h.1 ∙ and_from (taken h.0) true (no_refusal_taken h.0 h.2) refl

-- A TURN: one more line is taken
pub all_taken_more : (l : Limits) (ls : List (List ℕ)) (line : List ℕ) (s : State) (room : ℕ) (f : Fate) → Standing l (ran l new_firm (calls_after ls)) s room → AllTaken l new_firm (calls_after ls) →
    ((r : Refusal) (p : ℕ) → f ≢ fate.Refused r p) → CallsFated (calls_in (heard line)) s room f → AllTaken l new_firm (calls_after (ls ++ line ∷ []))
all_taken_more l ls line s room f stands all other fated =
    let cs : List Call = calls_after ls in
    let ds : List Call = calls_in (heard line) in
    ap (λ (xs : List Call). list_all taken (answers l new_firm xs)) (calls_after_more ls line)
    ∙ ap (list_all taken) (answers_append l new_firm cs ds)
    ∙ list_all-append taken (answers l new_firm cs) (answers l (ran l new_firm cs) ds)
    ∙ and_from (list_all taken (answers l new_firm cs)) (list_all taken (answers l (ran l new_firm cs) ds)) all (line_taken f (answers l (ran l new_firm cs) ds) other (fated l (ran l new_firm cs) stands))

pub stands_more : (l : Limits) (ls : List (List ℕ)) (line : List ℕ) (s t : State) (room : ℕ) (out end : List ℕ) → Standing l (ran l new_firm (calls_after ls)) s room → CallsDone (calls_in (heard line)) s t room out end →
    Standing l (ran l new_firm (calls_after (ls ++ line ∷ []))) t room
stands_more l ls line s t room out end stands done =
    subst (λ (f : Firm). Standing l f t room) (sym (ap (ran l new_firm) (calls_after_more ls line) ∙ ran_append l new_firm (calls_after ls) (calls_in (heard line)))) (done l (ran l new_firm (calls_after ls)) stands).standing

pub counted_more : (n k : ℕ) → n ≡ min (2 ^ 64 - 1) k → min (n + 1) (2 ^ 64 - 1) ≡ min (2 ^ 64 - 1) (k + 1)
counted_more n k h = omega (arith, h)
