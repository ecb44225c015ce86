-- Encoding: marks, fields and bytes. Every field is 16 bits, KN's value two of them, so a script is a list of 16-bit fields.
use Rattle.std.specs.Prelude.{ℕ, ◌+◌, ◌-◌, ◌*◌, ◌/◌, ◌%◌, true, false, List, [], ◌∷◌, ◌++◌, ltb, ℤ, pos, negsuc, length}
use Rattle.language.specs.Text.{Kind, variable, label, procedure, Operation, plus, minus, less, Formal, Action, CL, GO, IF, KN, AR, AD, RM, QY, Block, block, Decl, VR, LB, PR, Stmt, BK, DO, Decls, no-decl, decl, Stmts, no-stmt, stmt, decls, stmts}

-- two ASCII letters, or any two bytes, as one field: low byte first
abbrev pub two : ℕ → ℕ → ℕ
two a b = a + 256 * b

abbrev pub BK-mark : ℕ
BK-mark = two 66 75

abbrev pub VR-mark : ℕ
VR-mark = two 86 82

abbrev pub LB-mark : ℕ
LB-mark = two 76 66

abbrev pub PR-mark : ℕ
PR-mark = two 80 82

abbrev pub FM-mark : ℕ
FM-mark = two 70 77

abbrev pub CL-mark : ℕ
CL-mark = two 67 76

abbrev pub GO-mark : ℕ
GO-mark = two 71 79

abbrev pub IF-mark : ℕ
IF-mark = two 73 70

abbrev pub KN-mark : ℕ
KN-mark = two 75 78

abbrev pub AR-mark : ℕ
AR-mark = two 65 82

abbrev pub AD-mark : ℕ
AD-mark = two 65 68

abbrev pub RM-mark : ℕ
RM-mark = two 82 77

abbrev pub QY-mark : ℕ
QY-mark = two 81 89

unfoldable pub kind_field : Kind → ℕ
kind_field variable = 0
kind_field label = 1
kind_field procedure = 2

unfoldable pub operation_field : Operation → ℕ
operation_field plus = 0
operation_field minus = 1
operation_field less = 2

-- a signed 32-bit value and its four bytes as one number
unfoldable pub unsigned : ℤ → ℕ
unsigned (pos n) = n
unsigned (negsuc n) = 4294967295 - n

unfoldable pub signed : ℕ → ℤ
signed n = elim (ltb n 2147483648) [ true ↦ pos n | false ↦ negsuc (4294967295 - n) ]

unfoldable pub action_fields : Action → List ℕ
action_fields (CL p xs) = CL-mark ∷ p ∷ length xs ∷ xs
action_fields (GO l) = GO-mark ∷ l ∷ []
action_fields (IF v l) = IF-mark ∷ v ∷ l ∷ []
action_fields (KN t z) = KN-mark ∷ t ∷ unsigned z % 65536 ∷ unsigned z / 65536 ∷ []
action_fields (AR t o l r) = AR-mark ∷ t ∷ operation_field o ∷ l ∷ r ∷ []
action_fields (AD g m) = AD-mark ∷ g ∷ m ∷ []
action_fields (RM g m) = RM-mark ∷ g ∷ m ∷ []
action_fields (QY t g m) = QY-mark ∷ t ∷ g ∷ m ∷ []

unfoldable pub formals_fields : List Formal → List ℕ
formals_fields [] = []
formals_fields (f ∷ fs) = FM-mark ∷ f.name ∷ kind_field f.kind ∷ formals_fields fs

unfoldable mutual
  pub block_fields : Block → List ℕ
  block_fields (block at ds ss) = BK-mark ∷ length (decls ds) ∷ length (stmts ss) ∷ (decls_fields ds ++ stmts_fields ss)

  pub decl_fields : Decl → List ℕ
  decl_fields (VR at n) = VR-mark ∷ n ∷ []
  decl_fields (LB at n i) = LB-mark ∷ n ∷ i ∷ []
  decl_fields (PR at n fs b) = PR-mark ∷ n ∷ length fs ∷ (formals_fields fs ++ block_fields b)

  pub stmt_fields : Stmt → List ℕ
  stmt_fields (BK b) = block_fields b
  stmt_fields (DO at a) = action_fields a

  pub decls_fields : Decls → List ℕ
  decls_fields no-decl = []
  decls_fields (decl d ds) = decl_fields d ++ decls_fields ds

  pub stmts_fields : Stmts → List ℕ
  stmts_fields no-stmt = []
  stmts_fields (stmt s ss) = stmt_fields s ++ stmts_fields ss

-- fields as bytes, low byte first, and back
unfoldable pub bytes_of : List ℕ → List ℕ
bytes_of [] = []
bytes_of (w ∷ ws) = w % 256 ∷ w / 256 ∷ bytes_of ws

unfoldable pub fields_of : List ℕ → List ℕ
fields_of [] = []
fields_of (a ∷ []) = []
fields_of (a ∷ b ∷ bs) = two a b ∷ fields_of bs

unfoldable pub encode : Block → List ℕ
encode b = bytes_of (block_fields b)
