-- The claim about the sample table: `samples-hold` is of all rows, each for every engine that it is about and no other; `computed-once` is the test that is
-- computed. A script's length is stated where document 01 gives it (`bytes-A`, `bytes-B`).
use Rattle.std.specs.Prelude.{ℕ, zero, suc, ◌<◌, ◌≡◌, refl, length, get_or}
use Rattle.std.proofs.Common.{not-suc-le-zero, le_of_suc-le-suc}
use mathlib.Core.List.{List, [], ◌∷◌, map, head-eq_of_cons-eq, tail-eq_of_cons-eq}
use Rattle.language.specs.Evaluation.{computed}
use Rattle.language.specs.Samples.{script-empty, script-A, script-B, samples, row, got, wanted, replies, ends_with, tabled}
use Rattle.language.specs.declared.Refusal.TheVariants.{ScriptLength}
use Rattle.language.specs.declared.End.TheVariants.{Refused}

computed-once : map (replies got) samples ≡ map (replies wanted) samples
unfolding computed tabled
computed-once = refl

pub bytes-A : length script-A ≡ 36
unfolding computed tabled
bytes-A = refl

pub bytes-B : length script-B ≡ 122
unfolding computed tabled
bytes-B = refl

each {ℓ} : {A : Type ℓ} {B : Type 0} (f g : A → B) (xs : List A) (d : A) → map f xs ≡ map g xs → (k : ℕ) → k < length xs → f (get_or xs k d) ≡ g (get_or xs k d)
each f g [] d e k h = absurd (not-suc-le-zero h)
each f g (x ∷ xs) d e zero h = head-eq_of_cons-eq e
each f g (x ∷ xs) d e (suc k) h = each f g xs d (tail-eq_of_cons-eq e) k (le_of_suc-le-suc h)

-- Every row holds, of every engine that it is about: the whole reply is the one wanted.
pub samples-hold : (k : ℕ) → k < length samples → replies got (row k) ≡ replies wanted (row k)
unfolding row
samples-hold k h = each (replies got) (replies wanted) samples (ends_with script-empty 16 (Refused ScriptLength) 0 0 []) computed-once k h
