-- The definitions' readers of a block with the tree forgotten, as the code's enums have it.
use Rattle.std.specs.Prelude.{ℕ, ◌*◌, ◌-◌, Bool, true, false, List, [], get_or, Ok}
use Rattle.language.specs.Text.{Block, formal_names}
use Rattle.language.specs.Structure.{Reader, ◌>>=◌, DeclMark, is_vR, is_lB, is_pR, StmtMark, is_bK, is_cL, is_gO, is_iF, is_kN, is_aR, is_aD, is_rM, is_qY, block_marks, take-record, formals, BlockReader}
use Rattle.language.specs.Faults.{Progress}
use Rattle.check_records.specs.Taking.{forget}
use Rattle.check_bounds.specs.Judging.{action_of}

-- where the names of a block stand that has so many levels left, its own included
abbrev pub base_of : ℕ → ℕ
base_of left = 32 * (16 - left)

-- a procedure's formals and body
unfoldable pub body_of : BlockReader → ℕ → Reader Block
body_of body p = do
  ps ← formals p []
  b ← take-record block_marks
  body b.at (get_or b.fields 0 0) (get_or b.fields 1 0) (formal_names ps)

-- what comes after a declaration's own record
unfoldable pub below_of : BlockReader → DeclMark → ℕ → ℕ → List ℕ → Progress
below_of body is_vR p at ws = Ok at
below_of body is_lB p at ws = Ok at
below_of body is_pR p at ws = forget (body_of body p at ws)

unfoldable pub stated_of : BlockReader → StmtMark → ℕ → ℕ → ℕ → ℕ → List ℕ → Progress
stated_of body is_bK o f0 f1 at ws = forget (body o f0 f1 [] at ws)
stated_of body is_cL o f0 f1 at ws = action_of is_cL o f1 at ws
stated_of body is_gO o f0 f1 at ws = action_of is_gO o f1 at ws
stated_of body is_iF o f0 f1 at ws = action_of is_iF o f1 at ws
stated_of body is_kN o f0 f1 at ws = action_of is_kN o f1 at ws
stated_of body is_aR o f0 f1 at ws = action_of is_aR o f1 at ws
stated_of body is_aD o f0 f1 at ws = action_of is_aD o f1 at ws
stated_of body is_rM o f0 f1 at ws = action_of is_rM o f1 at ws
stated_of body is_qY o f0 f1 at ws = action_of is_qY o f1 at ws

-- a declaration that is no procedure; a statement that is no block
abbrev pub plain_of : DeclMark → Bool
plain_of is_vR = true
plain_of is_lB = true
plain_of is_pR = false

abbrev pub action_mark : StmtMark → Bool
action_mark is_bK = false
action_mark is_cL = true
action_mark is_gO = true
action_mark is_iF = true
action_mark is_kN = true
action_mark is_aR = true
action_mark is_aD = true
action_mark is_rM = true
action_mark is_qY = true
