-- The marks that may stand at a place, as the code's enums have them: the definitions' rows.
use Rattle.std.specs.Prelude.{Option, Some, None, ℕ, Bool, true, false, List, [], ◌∷◌, eqb}
use Rattle.language.specs.Structure.{Row, DeclMark, is_vR, is_lB, is_pR, StmtMark, is_bK, is_cL, is_gO, is_iF, is_kN, is_aR, is_aD, is_rM, is_qY, block_marks, formal_marks, decl_marks, stmt_marks}
use Rattle.check_marks.specs.declared.Mark.{Mark}
use Rattle.check_marks.specs.declared.Mark.TheVariants.{BK, VR, LB, PR, FM, CL, GO, IF, KN, AR, AD, RM, QY}
use Rattle.check_marks.specs.declared.Place.{Place}
use Rattle.check_marks.specs.declared.Place.TheVariants.{Block, Formal, Declaration, Statement}
use Rattle.check_marks.specs.declared.Matched.{Matched}

-- the code's name of each mark of the definitions
unfoldable pub decl_mark : DeclMark → Mark
decl_mark is_vR = VR
decl_mark is_lB = LB
decl_mark is_pR = PR

unfoldable pub stmt_mark : StmtMark → Mark
stmt_mark is_bK = BK
stmt_mark is_cL = CL
stmt_mark is_gO = GO
stmt_mark is_iF = IF
stmt_mark is_kN = KN
stmt_mark is_aR = AR
stmt_mark is_aD = AD
stmt_mark is_rM = RM
stmt_mark is_qY = QY

unfoldable pub only_mark : Mark → Bool → Mark
only_mark m b = m

-- a place's bit in the code's table of marks
abbrev pub bit_of : Place → ℕ
bit_of Block = 1
bit_of Formal = 2
bit_of Declaration = 4
bit_of Statement = 8

-- a mark that may stand at a place, with how many fields come after it, or none
abbrev pub Fit : Type 0
Fit = Option Matched

-- the first row with these letters
unfoldable pub fit_in : {M : Type 0} → (M → Mark) → ℕ → List (Row M) → Fit
fit_in f w [] = None
fit_in f w (r ∷ rs) = elim (eqb w r.letters) [ true ↦ Some (record { count = r.count; mark = f r.mark }) | false ↦ fit_in f w rs ]

unfoldable pub fit_at : Place → ℕ → Fit
fit_at Block w = fit_in (only_mark BK) w block_marks
fit_at Formal w = fit_in (only_mark FM) w formal_marks
fit_at Declaration w = fit_in decl_mark w decl_marks
fit_at Statement w = fit_in stmt_mark w stmt_marks
