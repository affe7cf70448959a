-- What is answered to a line, and left of it in the buffer. Assumes nothing.
use Rattle.std.proofs.Common.{◌≡◌, ℕ, ◌-◌, List, [], length, Ok, Err, Result, refl, ap, arith}
use Rattle.std.specs.Result.{result_map_both}
use Rattle.words.specs.Readers.{Read}
use Rattle.wire.specs.Calls.{bytes_of_call, or_garbled}
use Rattle.firm.specs.Calls as firm
use Rattle.call_lines.specs.declared.error.LineError.TheVariants.{Misfit}
use Rattle.call_lines.specs.Lines.{bytes_or_rest, call_or_rest, call_or_place, call_in_line}
use Rattle.call_lines.specs.Readings.{reading_of}

abbrev placed : List ℕ → Read firm.Call → Result firm.Call ℕ
placed line r = result_map_both (λ c. c) (λ rest. length line - length rest) r

fits : (line out : List ℕ) (r : Read firm.Call) → Ok out ≡ bytes_or_rest r → (Ok tt ≡ reading_of (placed line r)) × (out ≡ bytes_of_call (or_garbled (placed line r)))
fits line out (Ok c) e = (refl, (cc))
fits line out (Err x) e = absurd (let z : ◌≡◌ {A = ℕ} 0 1 = cc in omega arith)

ceases : (line rest : List ℕ) (r : Read firm.Call) → Err rest ≡ bytes_or_rest r → (Err (Misfit (length line - length rest)) ≡ reading_of (placed line r)) × ([] ≡ bytes_of_call (or_garbled (placed line r)))
ceases line rest (Ok c) e = absurd (let z : ◌≡◌ {A = ℕ} 0 1 = cc in omega arith)
ceases line rest (Err x) e =
    let f : rest ≡ x = cc in
    (ap (λ (y : List ℕ). Err (Misfit (length line - length y))) f, refl)

-- a line that is a call
pub line_fits : (line out : List ℕ) → Ok out ≡ bytes_or_rest (call_or_rest line) → (Ok tt ≡ reading_of (call_or_place line)) × (out ≡ bytes_of_call (call_in_line line))
unfolding call_or_place
line_fits line out e = fits line out (call_or_rest line) e

-- and one that ceases to be one
pub line_ceases : (line rest : List ℕ) → Err rest ≡ bytes_or_rest (call_or_rest line) → (Err (Misfit (length line - length rest)) ≡ reading_of (call_or_place line)) × ([] ≡ bytes_of_call (call_in_line line))
unfolding call_or_place
line_ceases line rest e = ceases line rest (call_or_rest line) e
