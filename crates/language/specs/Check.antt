-- Causes and numbers: the script check by itself, refusals 1 to 11 in their order.
use Rattle.std.specs.Prelude.{ℕ, ◌%◌, Bool, true, false, ◌&&◌, List, [], ◌∷◌, eqb, leb, length}
use Rattle.language.specs.Text.{Block}
use Rattle.language.specs.Encoding.{fields_of}
use Rattle.language.specs.Structure.{Reading, read, refuse, program}
use Rattle.language.specs.Scope.{Judgement, fine, wrong, judge_block}
use Rattle.language.specs.declared.Refusal.{Refusal}
use Rattle.language.specs.declared.Refusal.TheVariants.{ScriptLength, BytesAfter}

pub data Checked : Type 0 where
  accepted : Block → Checked
  refused : Refusal → ℕ → Checked

-- 1, by the length under Bounds
unfoldable pub length_fits : List ℕ → Bool
length_fits bs = leb 1 (length bs) && leb (length bs) 8192 && eqb (length bs % 2) 0

unfoldable pub judged : Block → Judgement → Checked
judged t fine = accepted t
judged t (wrong c o) = refused c o

-- 5 where something is left over, else the names are judged
unfoldable pub ended : Reading Block → Checked
ended (read t at []) = judged t (judge_block t [] [])
ended (read t at (w ∷ ws)) = refused BytesAfter at
ended (refuse c o) = refused c o

unfoldable pub check : List ℕ → Checked
check bs = elim (length_fits bs) [ true ↦ ended (program 0 (fields_of bs)) | false ↦ refused ScriptLength 0 ]
