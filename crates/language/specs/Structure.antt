-- Encoding and Bounds: reading a script record by record, refusals 2 to 8.
-- A reader goes on from a byte offset and the fields unread, and looks no further than the first record at fault.
use Rattle.std.specs.Prelude.{ℕ, zero, suc, ◌+◌, ◌*◌, Bool, true, false, not, ◌&&◌, List, [], ◌∷◌, eqb, leb, length, get_or, take, drop}
use Rattle.language.specs.Basics.{among}
use Rattle.language.specs.Text.{Kind, variable, label, procedure, Operation, plus, minus, less, Formal, Action, CL, GO, IF, KN, AR, AD, RM, QY, Block, block, Decl, VR, LB, PR, Stmt, BK, DO, Decls, no-decl, decl, Stmts, no-stmt, stmt, decl_name, formal_names}
use Rattle.language.specs.Encoding.{signed, BK-mark, VR-mark, LB-mark, PR-mark, FM-mark, CL-mark, GO-mark, IF-mark, KN-mark, AR-mark, AD-mark, RM-mark, QY-mark}
use Rattle.language.specs.declared.Refusal.{Refusal}
use Rattle.language.specs.declared.Refusal.TheVariants.{PastTheEnd, MarkMisplaced, FieldRange, NestingDepth, TooManyNames, NameTwice}

-- what reading gives: a value with where the next record begins and the fields left, or the refusal with its offset
pub data Reading (A : Type 0) : Type 0 where
  read : A → ℕ → List ℕ → Reading A
  refuse : Refusal → ℕ → Reading A

abbrev pub Reader : Type 0 → Type 0
Reader A = ℕ → List ℕ → Reading A

infixl 20 ◌>>=◌
infixl 20 ◌>>◌
unfoldable pub ◌>>=◌ : {A B : Type 0} → Reader A → (A → Reader B) → Reader B
◌>>=◌ m f = λ at ws. elim (m at ws) [ read a at' ws' ↦ f a at' ws' | refuse c o ↦ refuse c o ]

unfoldable pub ◌>>◌ : {A B : Type 0} → Reader A → Reader B → Reader B
◌>>◌ m n = m >>= λ a. n

unfoldable pub give : {A : Type 0} → A → Reader A
give a = λ at ws. read a at ws

-- the offset of what comes next
unfoldable pub here : Reader ℕ
here = λ at ws. read at at ws

-- a test of the record at an offset: where it fails, the refusal
unfoldable pub require : Bool → Refusal → ℕ → Reader Bool
require true c o = λ at ws. read true at ws
require false c o = λ at ws. refuse c o

-- the next k fields of the record at an offset; 2 where they run past the end
unfoldable pub fields : ℕ → ℕ → Reader (List ℕ)
fields o k = λ at ws.
    elim (eqb (length (take k ws)) k) [ true ↦ read (take k ws) (at + 2 * k) (drop k ws) | false ↦ refuse PastTheEnd o ]

-- A table of the marks that may stand at a place, each with its number of fields.
pub record Row (M : Type 0) : Type 0 where
  pub letters : ℕ
  pub count : ℕ
  pub mark : M

pub data DeclMark : Type 0 where
  is_vR is_lB is_pR : DeclMark

pub data StmtMark : Type 0 where
  is_bK is_cL is_gO is_iF is_kN is_aR is_aD is_rM is_qY : StmtMark

unfoldable pub block_marks : List (Row Bool)
block_marks = record { letters = BK-mark; count = 2; mark = true } ∷ []

unfoldable pub formal_marks : List (Row Bool)
formal_marks = record { letters = FM-mark; count = 2; mark = true } ∷ []

unfoldable pub decl_marks : List (Row DeclMark)
decl_marks =
    record { letters = VR-mark; count = 1; mark = is_vR } ∷ record { letters = LB-mark; count = 2; mark = is_lB } ∷
    record { letters = PR-mark; count = 2; mark = is_pR } ∷ []

-- CL's argument names come after its two fields
unfoldable pub stmt_marks : List (Row StmtMark)
stmt_marks =
    record { letters = BK-mark; count = 2; mark = is_bK } ∷ record { letters = CL-mark; count = 2; mark = is_cL } ∷
    record { letters = GO-mark; count = 1; mark = is_gO } ∷ record { letters = IF-mark; count = 2; mark = is_iF } ∷
    record { letters = KN-mark; count = 3; mark = is_kN } ∷ record { letters = AR-mark; count = 4; mark = is_aR } ∷
    record { letters = AD-mark; count = 2; mark = is_aD } ∷ record { letters = RM-mark; count = 2; mark = is_rM } ∷
    record { letters = QY-mark; count = 3; mark = is_qY } ∷ []

-- the row of a mark; 3 where the table has none
unfoldable pub fit : {M : Type 0} → ℕ → ℕ → List (Row M) → Reader (Row M)
fit o w [] = λ at ws. refuse MarkMisplaced o
fit o w (r ∷ rs) = elim (eqb w r.letters) [ true ↦ give r | false ↦ fit o w rs ]

-- A record as it stands: its offset, its mark and its fields.
pub record Record (M : Type 0) : Type 0 where
  pub at : ℕ
  pub mark : M
  pub fields : List ℕ

-- 2 for the mark, then 3, then 2 for the fields
unfoldable pub take-record : {M : Type 0} → List (Row M) → Reader (Record M)
take-record rows = do
  at ← here
  w ← fields at 1
  r ← fit at (get_or w 0 0) rows
  fs ← fields at r.count
  give (record { at = at; mark = r.mark; fields = fs })

-- the kind and the operation that a field names; 4 where there is none
unfoldable pub kind : ℕ → ℕ → Reader Kind
kind o zero = give variable
kind o (suc zero) = give label
kind o (suc (suc zero)) = give procedure
kind o (suc (suc (suc n))) = λ at ws. refuse FieldRange o

unfoldable pub operation : ℕ → ℕ → Reader Operation
operation o zero = give plus
operation o (suc zero) = give minus
operation o (suc (suc zero)) = give less
operation o (suc (suc (suc n))) = λ at ws. refuse FieldRange o

-- p formals, of which those read so far have the names seen
unfoldable pub formals : ℕ → List ℕ → Reader (List Formal)
formals zero seen = give []
formals (suc p) seen = do
  r ← take-record formal_marks
  k ← kind r.at (get_or r.fields 1 0)
  require (not (among (get_or r.fields 0 0) seen)) NameTwice r.at
  fs ← formals p (get_or r.fields 0 0 ∷ seen)
  give (record { at = r.at; name = get_or r.fields 0 0; kind = k } ∷ fs)

-- a reader of a block whose BK has been taken: its offset, d, s, and the names of its formals
abbrev pub BlockReader : Type 0
BlockReader = ℕ → ℕ → ℕ → List ℕ → Reader Block

-- a declaration of a block with s statements, in which the names seen are declared before it
unfoldable pub declared : BlockReader → ℕ → List ℕ → DeclMark → ℕ → List ℕ → Reader Decl
declared body s seen is_vR at fs = do
  require (not (among (get_or fs 0 0) seen)) NameTwice at
  give (VR at (get_or fs 0 0))
declared body s seen is_lB at fs = do
  require (leb 1 (get_or fs 1 0) && leb (get_or fs 1 0) s) FieldRange at
  require (not (among (get_or fs 0 0) seen)) NameTwice at
  give (LB at (get_or fs 0 0) (get_or fs 1 0))
declared body s seen is_pR at fs = do
  require (leb (get_or fs 1 0) 32) TooManyNames at
  require (not (among (get_or fs 0 0) seen)) NameTwice at
  ps ← formals (get_or fs 1 0) []
  b ← take-record block_marks
  t ← body b.at (get_or b.fields 0 0) (get_or b.fields 1 0) (formal_names ps)
  give (PR at (get_or fs 0 0) ps t)

unfoldable pub declarations : BlockReader → ℕ → ℕ → List ℕ → Reader Decls
declarations body s zero seen = give no-decl
declarations body s (suc d) seen = do
  r ← take-record decl_marks
  x ← declared body s seen r.mark r.at r.fields
  xs ← declarations body s d (decl_name x ∷ seen)
  give (decl x xs)

-- a statement other than BK
unfoldable pub action : Action → ℕ → Reader Stmt
action a at = give (DO at a)

unfoldable pub stated : BlockReader → StmtMark → ℕ → List ℕ → Reader Stmt
stated body is_bK at fs = do
  b ← body at (get_or fs 0 0) (get_or fs 1 0) []
  give (BK b)
stated body is_cL at fs = do
  require (leb (get_or fs 1 0) 32) FieldRange at
  xs ← fields at (get_or fs 1 0)
  action (CL (get_or fs 0 0) xs) at
stated body is_gO at fs = action (GO (get_or fs 0 0)) at
stated body is_iF at fs = action (IF (get_or fs 0 0) (get_or fs 1 0)) at
stated body is_kN at fs = action (KN (get_or fs 0 0) (signed (get_or fs 1 0 + 65536 * get_or fs 2 0))) at
stated body is_aR at fs = do
  o ← operation at (get_or fs 1 0)
  action (AR (get_or fs 0 0) o (get_or fs 2 0) (get_or fs 3 0)) at
stated body is_aD at fs = action (AD (get_or fs 0 0) (get_or fs 1 0)) at
stated body is_rM at fs = action (RM (get_or fs 0 0) (get_or fs 1 0)) at
stated body is_qY at fs = action (QY (get_or fs 0 0) (get_or fs 1 0) (get_or fs 2 0)) at

unfoldable pub statements : BlockReader → ℕ → Reader Stmts
statements body zero = give no-stmt
statements body (suc s) = do
  r ← take-record stmt_marks
  x ← stated body r.mark r.at r.fields
  xs ← statements body s
  give (stmt x xs)

-- a block where so many levels are left: 6 where none is, 7 where formals and declarations are above 32 together
unfoldable pub block_with : ℕ → BlockReader
block_with zero at d s fs = λ o ws. refuse NestingDepth at
block_with (suc k) at d s fs = do
  require (leb (length fs + d) 32) TooManyNames at
  ds ← declarations (block_with k) s d fs
  ss ← statements (block_with k) s
  give (block at ds ss)

-- a block with all 16 levels left
unfoldable pub program : Reader Block
program = do
  b ← take-record block_marks
  block_with 16 b.at (get_or b.fields 0 0) (get_or b.fields 1 0) []
