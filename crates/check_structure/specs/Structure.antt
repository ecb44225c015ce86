-- The structure of a whole script, 1 to 8, as the code's enums have it.
use Rattle.std.specs.Prelude.{ℕ, true, false, List, [], ◌∷◌, ltb, Ok, Err}
use Rattle.language.specs.Text.{Block}
use Rattle.language.specs.Encoding.{fields_of}
use Rattle.language.specs.Structure.{Reading as Outcome, read, refuse, program}
use Rattle.language.specs.Check.{length_fits}
use Rattle.language.specs.declared.Refusal.TheVariants.{ScriptLength, BytesAfter}
use Rattle.language.specs.Faults.{fault, Verdict, Progress}

-- 5 where bytes are left
unfoldable pub ended_of : Outcome Block → Verdict
ended_of (read t at []) = Ok tt
ended_of (read t at (w ∷ ws)) = Err (fault BytesAfter at)
ended_of (refuse c o) = Err (fault c o)

-- the same from where reading ended, in a script of n bytes
unfoldable pub closing : Progress → ℕ → Verdict
closing (Ok end) n = elim (ltb end n) [ true ↦ Err (fault BytesAfter end) | false ↦ Ok tt ]
closing (Err e) n = Err e

-- 1 to 8: `check` of the definitions up to the judging of names
unfoldable pub structure_of : List ℕ → Verdict
structure_of bs = elim (length_fits bs) [ true ↦ ended_of (program 0 (fields_of bs)) | false ↦ Err (fault ScriptLength 0) ]
