-- The rules of document 01 for a script, said of its tree and with no order in them. A reader of Exact.antt has to believe these definitions,
-- of `language` the tree (Text), `encode`, and of Scope `inside`, `kind_in` and `agree`, and of `laws` `Each` and `Distinct`.
use Rattle.std.specs.Prelude.{ℕ, suc, ◌+◌, ◌*◌, ◌≤◌, ◌<◌, true, List, [], ◌∷◌, ◌++◌, map, ◌≡◌, length}
use Rattle.std.proofs.Math.Option.{some}
use Rattle.std.specs.Int.Signed.{mag}
use Rattle.language.specs.Basics.{lookup}
use Rattle.language.specs.Text.{Kind, variable, label, procedure, Formal, Action, CL, GO, IF, KN, AR, AD, RM, QY, Block, block, Decl, VR, LB, PR, Stmt, BK, DO, Decls, no-decl, decl, Stmts, no-stmt, stmt, decls, stmts, decl_name, formal_names}
use Rattle.language.specs.Encoding.{formals_fields, decl_fields, stmt_fields, decls_fields, encode}
use Rattle.language.specs.Scope.{Meaning, Scope, inside, kind_in, agree}
use Rattle.laws.specs.Distinct.{Distinct}
use Rattle.laws.specs.Each.{Each}

abbrev pub Bytes : List ℕ → Type 0
Bytes bs = Each (λ b. b < 256) bs

-- Encoding: what a field can hold.
abbrev pub Name : ℕ → Type 0
Name n = n < 65536

-- Encoding: the ranges of a statement's fields (`mag z` is n for n and for −(n + 1)).
unfoldable pub FormedAction : Action → Type 0
FormedAction (CL p xs) = record { called : Name p; arguments : Each Name xs; few : length xs ≤ 32 }
FormedAction (GO l) = Name l
FormedAction (IF v l) = Name v × Name l
FormedAction (KN t z) = record { target : Name t; value : mag z < 2147483648 }
FormedAction (AR t o l r) = Name t × Name l × Name r
FormedAction (AD g m) = Name g × Name m
FormedAction (RM g m) = Name g × Name m
FormedAction (QY t g m) = Name t × Name g × Name m

-- Encoding: each record's offset in the tree is the byte at which it stands, `here`. A mark or a field takes two bytes.
unfoldable pub FormedFormals : List Formal → ℕ → Type 0
FormedFormals [] here = Unit {0}
FormedFormals (f ∷ fs) here = record { stands : f.at ≡ here; name : Name f.name; rest : FormedFormals fs (here + 6) }

-- Bounds (6, 7) and Causes and numbers (8): how deep a block may lie, how many names it may have with its formals, and that these are
-- distinct.
unfoldable mutual
  pub FormedBlock : Block → ℕ → List Formal → ℕ → Type 0
  FormedBlock (block at ds ss) level fs here =
      record {
        stands : at ≡ here;
        nesting : level ≤ 16;
        few : length fs + length (decls ds) ≤ 32;
        once : Distinct (formal_names fs ++ map decl_name (decls ds));
        declarations : FormedDecls ds level (length (stmts ss)) (here + 6);
        statements : FormedStmts ss level (here + 6 + 2 * length (decls_fields ds));
      }

  -- Encoding (4) and Causes and numbers (7): a declaration of a block with s statements.
  pub FormedDecl : Decl → ℕ → ℕ → ℕ → Type 0
  FormedDecl (VR at n) level s here = record { stands : at ≡ here; name : Name n }
  FormedDecl (LB at n i) level s here = record { stands : at ≡ here; name : Name n; first : 1 ≤ i; last : i ≤ s }
  FormedDecl (PR at n fs b) level s here =
      record {
        stands : at ≡ here;
        name : Name n;
        few : length fs ≤ 32;
        formals : FormedFormals fs (here + 6);
        body : FormedBlock b (suc level) fs (here + 6 + 2 * length (formals_fields fs));
      }

  pub FormedStmt : Stmt → ℕ → ℕ → Type 0
  FormedStmt (BK b) level here = FormedBlock b (suc level) [] here
  FormedStmt (DO at a) level here = record { stands : at ≡ here; action : FormedAction a }

  pub FormedDecls : Decls → ℕ → ℕ → ℕ → Type 0
  FormedDecls no-decl level s here = Unit {0}
  FormedDecls (decl d ds) level s here = FormedDecl d level s here × FormedDecls ds level s (here + 2 * length (decl_fields d))

  pub FormedStmts : Stmts → ℕ → ℕ → Type 0
  FormedStmts no-stmt level here = Unit {0}
  FormedStmts (stmt s ss) level here = FormedStmt s level here × FormedStmts ss level (here + 2 * length (stmt_fields s))

-- Scope: a name used is visible, and of the kind wanted where one is. The nearest declaration is the first in the scope.
abbrev pub Visible : Scope → ℕ → Type 0
Visible sc n = (m : Meaning) × (lookup n sc ≡ some m)

abbrev pub Is : Kind → Scope → ℕ → Type 0
Is k sc n = (m : Meaning) × (lookup n sc ≡ some m) × (m.kind ≡ k)

-- Encoding (10): the kind that each field asks for. Causes and numbers (11): a call's arguments suit the procedure, where it is a declared
-- one; through a formal they are left to the run (26).
unfoldable pub ScopedAction : Action → Scope → Type 0
ScopedAction (CL p xs) sc =
    record {
      called : Is procedure sc p;
      arguments : Each (Visible sc) xs;
      agreed : (m : Meaning) (ks : List Kind) → lookup p sc ≡ some m → m.takes ≡ some ks → agree ks (map (kind_in sc) xs) ≡ true;
    }
ScopedAction (GO l) sc = Is label sc l
ScopedAction (IF v l) sc = Is variable sc v × Is label sc l
ScopedAction (KN t z) sc = Is variable sc t
ScopedAction (AR t o l r) sc = Is variable sc t × Is variable sc l × Is variable sc r
ScopedAction (AD g m) sc = Is variable sc g × Is variable sc m
ScopedAction (RM g m) sc = Is variable sc g × Is variable sc m
ScopedAction (QY t g m) sc = Is variable sc t × Is variable sc g × Is variable sc m

-- Scope: what stands inside a block is judged with the block's own names and formals before those around it.
unfoldable mutual
  pub ScopedBlock : Block → List Formal → Scope → Type 0
  ScopedBlock (block at ds ss) fs sc = ScopedDecls ds (inside fs ds sc) × ScopedStmts ss (inside fs ds sc)

  pub ScopedDecl : Decl → Scope → Type 0
  ScopedDecl (VR at n) sc = Unit {0}
  ScopedDecl (LB at n i) sc = Unit {0}
  ScopedDecl (PR at n fs b) sc = ScopedBlock b fs sc

  pub ScopedStmt : Stmt → Scope → Type 0
  ScopedStmt (BK b) sc = ScopedBlock b [] sc
  ScopedStmt (DO at a) sc = ScopedAction a sc

  pub ScopedDecls : Decls → Scope → Type 0
  ScopedDecls no-decl sc = Unit {0}
  ScopedDecls (decl d ds) sc = ScopedDecl d sc × ScopedDecls ds sc

  pub ScopedStmts : Stmts → Scope → Type 0
  ScopedStmts no-stmt sc = Unit {0}
  ScopedStmts (stmt s ss) sc = ScopedStmt s sc × ScopedStmts ss sc

-- Bounds: the length (an encoding is even and not empty by itself), and the program as the outermost level, at byte 0.
pub record Keeps (t : Block) : Type 0 where
  pub size : length (encode t) ≤ 8192
  pub formed : FormedBlock t 1 [] 0
  pub scoped : ScopedBlock t [] []
