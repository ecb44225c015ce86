-- The definitions' name of each mark of the code; one that may not stand there is taken as the first.
use Rattle.language.specs.Structure.{DeclMark, is_vR, is_lB, is_pR, StmtMark, is_bK, is_cL, is_gO, is_iF, is_kN, is_aR, is_aD, is_rM, is_qY}
use Rattle.check_marks.specs.declared.Mark.{Mark}
use Rattle.check_marks.specs.declared.Mark.TheVariants.{BK, VR, LB, PR, FM, CL, GO, IF, KN, AR, AD, RM, QY}

unfoldable pub decl_mark_of : Mark → DeclMark
decl_mark_of BK = is_vR
decl_mark_of VR = is_vR
decl_mark_of LB = is_lB
decl_mark_of PR = is_pR
decl_mark_of FM = is_vR
decl_mark_of CL = is_vR
decl_mark_of GO = is_vR
decl_mark_of IF = is_vR
decl_mark_of KN = is_vR
decl_mark_of AR = is_vR
decl_mark_of AD = is_vR
decl_mark_of RM = is_vR
decl_mark_of QY = is_vR

unfoldable pub stmt_mark_of : Mark → StmtMark
stmt_mark_of BK = is_bK
stmt_mark_of VR = is_gO
stmt_mark_of LB = is_gO
stmt_mark_of PR = is_gO
stmt_mark_of FM = is_gO
stmt_mark_of CL = is_cL
stmt_mark_of GO = is_gO
stmt_mark_of IF = is_iF
stmt_mark_of KN = is_kN
stmt_mark_of AR = is_aR
stmt_mark_of AD = is_aD
stmt_mark_of RM = is_rM
stmt_mark_of QY = is_qY
