-- Lots that are written while they are met. Assumes nothing.
use Rattle.std.proofs.Common.{◌≡◌, ℕ, zero, suc, ◌+◌, ◌*◌, ◌≤◌, cond, leb, List, [], ◌∷◌, ◌++◌, length, map, take, drop, Some, None, Option, sym, refl, ap, ◌∙◌, append_assoc, append-nil, arith, length-append}
use Rattle.std.specs.List.{flat_map, fold}
use Rattle.std.proofs.lemmas.List.{length-map, map-append, take-append-drop, length-take-le, length_push, drop_at}
use Rattle.std.proofs.lemmas.Bool.{cond-true, le-leb}
use Rattle.fields.specs.Written.{Written, wrote, written, over, line_put}
use Rattle.fields.proofs.Numbers.{length_fields}
use Rattle.fields.proofs.Rows.{fits, length_over}
use Rattle.firm.specs.Stock.{Lot}
use Rattle.firm.specs.Calls.{lots}
use Rattle.layout.specs.Layout.{lot_rows, answer_need}
use Rattle.layout.specs.declared.limits.Limits.{Limits}
use Rattle.links.specs.Area.{following_in, header_of}
use Rattle.links.specs.Walk.{cells_on, cells_in}
use Rattle.links.specs.declared.shape.Shape.{Shape}
use Rattle.memory.specs.Books.{lot_record}
use Rattle.records.specs.State.{State}
use Rattle.wire.specs.Rows.{lot_bytes}
use Rattle.wire.specs.Answers.{list_head, bytes_of_answer}
use Rattle.wire.proofs.ListLaws.{lists_compose}
use Rattle.wire.proofs.ReadBack.{length_joined, length_lot}
use Rattle.questions.specs.Listing.{lot_of, lots_step, lots_met}

-- the lots in some cells
abbrev pub lots_at : Limits → State → List ℕ → List Lot
lots_at l s cs = map (λ c. lot_of (lot_record l c s)) cs

-- the cells that were met so far and those that are left, how many lots were met, and how they lie in the bytes
pub record Listed (l : Limits) (i : ℕ) (s : State) (old now : List ℕ) (met_so_far left : List ℕ) (count : ℕ) : Type 0 where
  pub along : met_so_far ++ left ≡ cells_in (lot_rows l) s.narrow i
  pub counted : count ≡ length met_so_far
  pub lines : now ≡ over (take 9 old ++ flat_map lot_bytes (lots_at l s met_so_far)) old

-- nothing is written before the first turn
pub over_none : (old : List ℕ) → 9 ≤ length old → old ≡ over (take 9 old ++ flat_map lot_bytes []) old
unfolding over
over_none old h =
    let n : length (take 9 old ++ []) ≡ 9 = ap length (append-nil (take 9 old)) ∙ length-take-le 9 old h in
    sym (ap (λ (xs : List ℕ). xs ++ drop (length (take 9 old ++ [])) old) (append-nil (take 9 old)) ∙ ap (λ (k : ℕ). take 9 old ++ drop k old) n ∙ take-append-drop 9 old)

-- no more cells are met than there are
few_met : (k : ℕ) (h : Shape) (n : List ℕ) (o : Option ℕ) → length (cells_on k h n o) ≤ k
few_met zero h n o = omega arith
few_met (suc k) h n None = omega arith
few_met (suc k) h n (Some c) = omega (arith, few_met k h n (following_in h n c))

module _ (l : Limits) (s : State) where
  step_by_step : (xs : List Lot) (cs : List ℕ) → fold (lots_step l s) xs cs ≡ xs ++ lots_at l s cs
  step_by_step xs [] = sym (append-nil xs)
  step_by_step xs (c ∷ cs) = step_by_step (xs ++ (lot_of (lot_record l c s) ∷ [])) cs ∙ append_assoc xs _ (lots_at l s cs)

  -- the lots that are met are those in the cells of the row
  pub lots_met_at : (i : ℕ) → lots_met l i s ≡ lots_at l s (cells_in (lot_rows l) s.narrow i)
  unfolding lots_met
  lots_met_at i = step_by_step [] (cells_in (lot_rows l) s.narrow i)

  pub met_few : (i : ℕ) → length (lots_met l i s) ≤ l.lots
  met_few i =
      omega (
        arith,
        ap length (lots_met_at i),
        length-map (cells_in (lot_rows l) s.narrow i) (λ c. lot_of (lot_record l c s)),
        few_met l.lots (lot_rows l) s.narrow (following_in (lot_rows l) s.narrow (header_of (lot_rows l) i)),
      )

module _ (l : Limits) (i : ℕ) (s : State) (old : List ℕ) where
  pub listed_begins : (left : List ℕ) → left ≡ cells_in (lot_rows l) s.narrow i → 9 ≤ length old → Listed l i s old old [] left 0
  listed_begins left e long = record { along = e; counted = refl; lines = over_none old long }

  -- there is room for the lot of one cell more
  pub room_left : (now : List ℕ) (met_so_far left : List ℕ) (count c : ℕ) (more : List ℕ) → Listed l i s old now met_so_far left count → left ≡ c ∷ more → count + 1 ≤ l.lots
  room_left now met_so_far left count c more x e =
      omega (
        arith,
        x.counted,
        ap length x.along,
        length-append met_so_far left,
        ap length e,
        few_met l.lots (lot_rows l) s.narrow (following_in (lot_rows l) s.narrow (header_of (lot_rows l) i)),
      )

  -- the lot of the next cell is put behind the others
  pub listed_turns : (now out : List ℕ) (met_so_far left : List ℕ) (count c : ℕ) (more : List ℕ) → Listed l i s old now met_so_far left count → left ≡ c ∷ more →
      answer_need l ≤ length old → out ≡ (line_put count (lot_bytes (lot_of (lot_record l c s))) now).left → Listed l i s old out (met_so_far ++ c ∷ []) more (count + 1)
  listed_turns now out met_so_far left count c more x next room e =
      let head : length (take 9 old) ≡ 9 = length-take-le 9 old (omega arith) in
      let many : length (lots_at l s met_so_far) ≡ length met_so_far = length-map met_so_far (λ k. lot_of (lot_record l k s)) in
      let fit : 9 + 32 * length (lots_at l s met_so_far) + 32 ≤ length old = omega (arith, x.counted, many, room, room_left now met_so_far left count c more x next) in
      let pushed : lots_at l s (met_so_far ++ c ∷ []) ≡ lots_at l s met_so_far ++ (lot_of (lot_record l c s) ∷ []) = map-append (λ k. lot_of (lot_record l k s)) met_so_far (c ∷ []) in
      record {
        along = append_assoc met_so_far (c ∷ []) more ∙ ap (λ (ys : List ℕ). met_so_far ++ ys) (sym next) ∙ x.along;
        counted = omega (arith, x.counted, length_push met_so_far c);
        lines = e
            ∙ ap (λ (k : ℕ). (line_put k (lot_bytes (lot_of (lot_record l c s))) now).left) (x.counted ∙ sym many)
            ∙ ap (λ (b : List ℕ). (line_put (length (lots_at l s met_so_far)) (lot_bytes (lot_of (lot_record l c s))) b).left) x.lines
            ∙ (lists_compose.0 (take 9 old) old (lots_at l s met_so_far) (lot_of (lot_record l c s)) head fit).1
            ∙ ap (λ (xs : List Lot). over (take 9 old ++ flat_map lot_bytes xs) old) (sym pushed);
      }

  -- what is promised of all lots, where no cell is left
  pub record Complete (now : List ℕ) (count : ℕ) : Type 0 where
    pub counted : count ≡ length (lots_met l i s)
    pub few : count ≤ l.lots
    pub lines : now ≡ over (take 9 old ++ flat_map lot_bytes (lots_met l i s)) old

  pub listed_ends : (now : List ℕ) (met_so_far left : List ℕ) (count : ℕ) → Listed l i s old now met_so_far left count → left ≡ [] → Complete now count
  listed_ends now met_so_far left count x none =
      let all : met_so_far ≡ cells_in (lot_rows l) s.narrow i = sym (append-nil met_so_far) ∙ ap (λ (ys : List ℕ). met_so_far ++ ys) (sym none) ∙ x.along in
      let lots : lots_at l s met_so_far ≡ lots_met l i s = ap (lots_at l s) all ∙ sym (lots_met_at l s i) in
      let many : count ≡ length (lots_met l i s) = x.counted ∙ sym (length-map met_so_far (λ k. lot_of (lot_record l k s))) ∙ ap length lots in
      record {
        counted = many;
        few = omega (arith, many, met_few l s i);
        lines = x.lines ∙ ap (λ (xs : List Lot). over (take 9 old ++ flat_map lot_bytes xs) old) lots;
      }

-- another head of as many bytes over the first, with what stands behind it
pub over_head : (head first body old : List ℕ) → length first ≡ length head → length head + length body ≤ length old → over head (over (first ++ body) old) ≡ over (head ++ body) old
unfolding over
over_head head first body old e fit =
    let all : length (first ++ body) ≡ length (head ++ body) = length-append first body ∙ omega (arith, length-append head body) in
    ap (λ (k : ℕ). head ++ drop k ((first ++ body) ++ drop (length (first ++ body)) old)) (sym e)
    ∙ ap (λ (xs : List ℕ). head ++ drop (length first) xs) (append_assoc first body (drop (length (first ++ body)) old))
    ∙ ap (λ (xs : List ℕ). head ++ xs) (drop_at first (body ++ drop (length (first ++ body)) old) (length first) refl)
    ∙ sym (append_assoc head body (drop (length (first ++ body)) old))
    ∙ ap (λ (k : ℕ). (head ++ body) ++ drop k old) all

-- THE WHOLE ANSWER: lines that are put, and then the head over them
pub listed_whole : (l : Limits) (ls : List Lot) (n : ℕ) (old mid out : List ℕ) → n ≡ length ls → n ≤ l.lots → answer_need l ≤ length old →
    mid ≡ over (take 9 old ++ flat_map lot_bytes ls) old → out ≡ (written (list_head 3 n) mid).left →
    wrote (Some (9 + 32 * n)) out ≡ cond (leb (answer_need l) (length old)) (written (bytes_of_answer (lots ls)) old) (wrote None old)
listed_whole l ls n old mid out is few room e f =
    let body : length (flat_map lot_bytes ls) ≡ 32 * length ls = length_joined lot_bytes 32 length_lot ls in
    let head : length (list_head 3 n) ≡ 9 = ap suc (length_fields (n ∷ [])) in
    let first : length (take 9 old) ≡ 9 = length-take-le 9 old (omega arith) in
    let mids : length mid ≡ length old = ap length e ∙ length_over (take 9 old ++ flat_map lot_bytes ls) old (omega (arith, length-append (take 9 old) (flat_map lot_bytes ls))) in
    let headed : out ≡ over (list_head 3 n) mid = f ∙ sym (ap (λ (w : Written). w.left) (fits (list_head 3 n) mid (over (list_head 3 n) mid) 9 head (omega arith) refl)) in
    let all : out ≡ over (list_head 3 n ++ flat_map lot_bytes ls) old =
    headed ∙ ap (over (list_head 3 n)) e ∙ over_head (list_head 3 n) (take 9 old) (flat_map lot_bytes ls) old (omega arith) (omega arith) in
    let long : length (list_head 3 n ++ flat_map lot_bytes ls) ≡ 9 + 32 * n = length-append (list_head 3 n) (flat_map lot_bytes ls) ∙ omega arith in
    fits (list_head 3 n ++ flat_map lot_bytes ls) old out (9 + 32 * n) long (omega arith) all
    ∙ ap (λ (k : ℕ). written (list_head 3 k ++ flat_map lot_bytes ls) old) is
    ∙ sym (cond-true (leb (answer_need l) (length old)) _ _ (le-leb _ _ room))
