-- A reader that stops where a reader below it does. Assumes nothing.
use Rattle.std.proofs.Common.{◌≡◌, List, ℕ, Ok, Err, Result, sym, subst, Bor}
use Rattle.std.specs.Result.{IsErrAnd}
use Rattle.words.specs.Readers.{Read}
use Rattle.call_lines.specs.declared.stop.Stop.{Stop}
use Rattle.call_lines.specs.declared.stop.Stop.TheVariants.{At}
use Rattle.call_lines.specs.Readings.{Gives}

pub gives_at : {T X : Type 0} (f : T → X) (o : Result T Stop) (rest : Bor (List ℕ)) (r : Read X) → IsErrAnd o (λ s. s ≡ At rest) → Err rest.now ≡ r → Gives f o r
gives_at f (Err s) rest r e k = subst (λ (t : Stop). Gives f (Err t) r) (sym e) k
gives_at f (Ok x) rest r e k = absurd e

-- the same, of what is to be read in other words
pub gives_as : {T X : Type 0} (f : T → X) (o : Result T Stop) (r s : Read X) → r ≡ s → Gives f o r → Gives f o s
gives_as f o r s e h = subst (λ (t : Read _). Gives f o t) e h
