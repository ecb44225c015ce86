-- Encoding: the text of a script as a tree. A record's first field here is its byte offset, by which a refusal or a stop names it.
use Rattle.std.specs.Prelude.{ℕ, Bool, true, false, List, [], ◌∷◌, map, ℤ}

-- the kinds, in the order of FM's numbers
pub data Kind : Type 0 where
  variable label procedure : Kind

-- AR's operations, in the order of their numbers; `less` asks whether the left value is the smaller
pub data Operation : Type 0 where
  plus minus less : Operation

-- FM
pub record Formal : Type 0 where
  pub at : ℕ
  pub name : ℕ
  pub kind : Kind

-- every statement but BK, its fields in the paper's order
pub data Action : Type 0 where
  CL : ℕ → List ℕ → Action
  GO : ℕ → Action
  IF : ℕ → ℕ → Action
  KN : ℕ → ℤ → Action
  AR : ℕ → Operation → ℕ → ℕ → Action
  AD RM : ℕ → ℕ → Action
  QY : ℕ → ℕ → ℕ → Action

-- Blocks stand in blocks: as statements, and as the bodies of declared procedures.
mutual
  pub data Block : Type 0 where
    block : ℕ → Decls → Stmts → Block

  pub data Decl : Type 0 where
    VR : ℕ → ℕ → Decl
    LB : ℕ → ℕ → ℕ → Decl
    PR : ℕ → ℕ → List Formal → Block → Decl

  pub data Stmt : Type 0 where
    BK : Block → Stmt
    DO : ℕ → Action → Stmt

  pub data Decls : Type 0 where
    no-decl : Decls
    decl : Decl → Decls → Decls

  pub data Stmts : Type 0 where
    no-stmt : Stmts
    stmt : Stmt → Stmts → Stmts

unfoldable pub decls : Decls → List Decl
decls no-decl = []
decls (decl d ds) = d ∷ decls ds

unfoldable pub stmts : Stmts → List Stmt
stmts no-stmt = []
stmts (stmt s ss) = s ∷ stmts ss

unfoldable pub block_at : Block → ℕ
block_at (block at ds ss) = at

unfoldable pub block_decls : Block → List Decl
block_decls (block at ds ss) = decls ds

unfoldable pub block_stmts : Block → List Stmt
block_stmts (block at ds ss) = stmts ss

unfoldable pub stmt_at : Stmt → ℕ
stmt_at (BK b) = block_at b
stmt_at (DO at a) = at

unfoldable pub decl_name : Decl → ℕ
decl_name (VR at n) = n
decl_name (LB at n i) = n
decl_name (PR at n fs b) = n

unfoldable pub decl_kind : Decl → Kind
decl_kind (VR at n) = variable
decl_kind (LB at n i) = label
decl_kind (PR at n fs b) = procedure

-- a label's index; 0 for what is no label
unfoldable pub label_index : Decl → ℕ
label_index (VR at n) = 0
label_index (LB at n i) = i
label_index (PR at n fs b) = 0

-- a procedure's formals and body; nothing, and an empty block, for what is no procedure
unfoldable pub decl_formals : Decl → List Formal
decl_formals (VR at n) = []
decl_formals (LB at n i) = []
decl_formals (PR at n fs b) = fs

unfoldable pub decl_body : Decl → Block
decl_body (VR at n) = block 0 no-decl no-stmt
decl_body (LB at n i) = block 0 no-decl no-stmt
decl_body (PR at n fs b) = b

unfoldable pub formal_names : List Formal → List ℕ
formal_names fs = map (λ (f : Formal). f.name) fs

unfoldable pub formal_kinds : List Formal → List Kind
formal_kinds fs = map (λ (f : Formal). f.kind) fs

unfoldable pub declared_names : Block → List ℕ
declared_names b = map decl_name (block_decls b)

unfoldable pub same_kind : Kind → Kind → Bool
same_kind variable variable = true
same_kind variable label = false
same_kind variable procedure = false
same_kind label variable = false
same_kind label label = true
same_kind label procedure = false
same_kind procedure variable = false
same_kind procedure label = false
same_kind procedure procedure = true
