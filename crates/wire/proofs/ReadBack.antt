-- Fields and rows that were written read the same. Assumes nothing.
use Rattle.std.proofs.Common.{◌≡◌, ℕ, ◌*◌, Bool, true, ◌&&◌, List, [], ◌∷◌, ◌++◌, length, drop, sym, refl, ap, ◌∙◌, mul-suc, arith, length-append}
use Rattle.std.specs.List.{flat_map}
use Rattle.std.proofs.lemmas.List.{drop_at}
use Rattle.std.proofs.lemmas.Bool.{ltb-true, and_parts}
use Rattle.fields.specs.Bytes.{value, digits, field_bytes, field_at}
use Rattle.fields.proofs.Numbers.{value_digits, length_fields}
use Rattle.firm.specs.Stock.{Part, Lot}
use Rattle.firm.specs.Ledger.{Entry}
use Rattle.firm.specs.Calls.{field, readable_parts}
use Rattle.wire.specs.Rows.{rows, part_in, part_bytes, lot_in, lot_bytes, entry_in, entry_bytes}
use Rattle.wire.specs.Answers.{each, lot_fits, entry_fits}

-- a number that a field can carry
pub field_same : (n : ℕ) → field n ≡ true → value (digits 8 n) ≡ n
field_same n h = value_digits 8 n (ltb-true n 18446744073709551616 h)

pub length_joined : {A : Type 0} (enc : A → List ℕ) (w : ℕ) → ((a : A) → length (enc a) ≡ w) → (xs : List A) → length (flat_map enc xs) ≡ w * length xs
length_joined enc w long [] = omega arith
length_joined enc w long (x ∷ xs) = length-append (enc x) (flat_map enc xs) ∙ omega (arith, long x, length_joined enc w long xs, mul-suc w (length xs))

pub rows_same : {A : Type 0} (enc : A → List ℕ) (read : List ℕ → A) (w : ℕ) (ok : A → Bool) → ((a : A) → length (enc a) ≡ w)
    → ((a : A) (rest : List ℕ) → ok a ≡ true → read (enc a ++ rest) ≡ a) → (xs : List A) → each ok xs ≡ true → rows read w (length xs) (flat_map enc xs) ≡ xs
unfolding rows each
rows_same enc read w ok long back [] h = refl
rows_same enc read w ok long back (x ∷ xs) h =
    let p = and_parts (ok x) (each ok xs) h in
    let e : read (enc x ++ flat_map enc xs) ≡ x = back x (flat_map enc xs) p.0 in
    let d : drop w (enc x ++ flat_map enc xs) ≡ flat_map enc xs = drop_at (enc x) (flat_map enc xs) w (long x) in
    let f : rows read w (length xs) (flat_map enc xs) ≡ xs = rows_same enc read w ok long back xs p.1 in
    cc

pub length_part : (p : Part) → length (part_bytes p) ≡ 16
unfolding part_bytes
length_part p = length_fields (p.item ∷ (p.each ∷ []))

pub length_lot : (l : Lot) → length (lot_bytes l) ≡ 32
unfolding lot_bytes
length_lot l = length_fields (l.item ∷ (l.pieces ∷ (l.cost ∷ (l.from ∷ []))))

pub length_entry : (e : Entry) → length (entry_bytes e) ≡ 32
unfolding entry_bytes
length_entry e = length_fields (e.on_left ∷ (e.on_right ∷ (e.amount ∷ (e.document ∷ []))))

pub same_two : {A : Type 0} (make : ℕ → ℕ → A) {a b x y : ℕ} → a ≡ x → b ≡ y → make a b ≡ make x y
same_two make e f = cc

same_four : {A : Type 0} (make : ℕ → ℕ → ℕ → ℕ → A) {a b c d x y z w : ℕ} → a ≡ x → b ≡ y → c ≡ z → d ≡ w → make a b c d ≡ make x y z w
same_four make e f g h = cc

abbrev part_fits : Part → Bool
part_fits p = field p.item && field p.each

part_same : (p : Part) (rest : List ℕ) → part_fits p ≡ true → part_in (part_bytes p ++ rest) ≡ p
unfolding part_in part_bytes field_at field_bytes digits
part_same p rest h =
    let q = and_parts (field p.item) (field p.each) h in
    same_two (λ i n. record { item = i; each = n }) (field_same p.item q.0) (field_same p.each q.1)

lot_same : (l : Lot) (rest : List ℕ) → lot_fits l ≡ true → lot_in (lot_bytes l ++ rest) ≡ l
unfolding lot_in lot_bytes field_at field_bytes digits
lot_same l rest h =
    let q = and_parts (field l.item) (field l.pieces && (field l.cost && field l.from)) h in
    let r = and_parts (field l.pieces) (field l.cost && field l.from) q.1 in
    let s = and_parts (field l.cost) (field l.from) r.1 in
    same_four (λ i q c d. record { item = i; pieces = q; cost = c; from = d }) (field_same l.item q.0) (field_same l.pieces r.0) (field_same l.cost s.0) (field_same l.from s.1)

entry_same : (e : Entry) (rest : List ℕ) → entry_fits e ≡ true → entry_in (entry_bytes e ++ rest) ≡ e
unfolding entry_in entry_bytes field_at field_bytes digits
entry_same e rest h =
    let q = and_parts (field e.on_left) (field e.on_right && (field e.amount && field e.document)) h in
    let r = and_parts (field e.on_right) (field e.amount && field e.document) q.1 in
    let s = and_parts (field e.amount) (field e.document) r.1 in
    same_four (λ l r x d. record { on_left = l; on_right = r; amount = x; document = d }) (field_same e.on_left q.0) (field_same e.on_right r.0) (field_same e.amount s.0) (field_same e.document s.1)

each_part : (ps : List Part) → readable_parts ps ≡ each part_fits ps
unfolding readable_parts each
each_part [] = refl
each_part (p ∷ ps) = ap (λ (t : Bool). part_fits p && t) (each_part ps)

pub length_parts : (ps : List Part) → length (flat_map part_bytes ps) ≡ 16 * length ps
length_parts ps = length_joined part_bytes 16 length_part ps

pub parts_same : (ps : List Part) → readable_parts ps ≡ true → rows part_in 16 (length ps) (flat_map part_bytes ps) ≡ ps
parts_same ps h = rows_same part_bytes part_in 16 part_fits length_part part_same ps (sym (each_part ps) ∙ h)

pub lots_same : (ls : List Lot) → each lot_fits ls ≡ true → rows lot_in 32 (length ls) (flat_map lot_bytes ls) ≡ ls
lots_same ls h = rows_same lot_bytes lot_in 32 lot_fits length_lot lot_same ls h

pub entries_same : (es : List Entry) → each entry_fits es ≡ true → rows entry_in 32 (length es) (flat_map entry_bytes es) ≡ es
entries_same es h = rows_same entry_bytes entry_in 32 entry_fits length_entry entry_same es h
