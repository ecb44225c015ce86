-- Scope: where the actions of a text stand and which names they see. `Sees t fs around o a sc`: in the block t, with its procedure's formals fs and
-- the names `around` it, the action a stands at offset o, and sc are the names visible there, nearest declaration first.
use Rattle.std.specs.Prelude.{ℕ, List, [], ◌⊎◌, ◌≡◌}
use Rattle.language.specs.Text.{Formal, Action, Block, block, Decl, VR, LB, PR, Stmt, BK, DO, Decls, no-decl, decl, Stmts, no-stmt, stmt}
use Rattle.language.specs.Scope.{Scope, inside}

unfoldable mutual
  pub Sees : Block → List Formal → Scope → ℕ → Action → Scope → Type 0
  Sees (block at ds ss) fs around o a sc = SeesDecls ds (inside fs ds around) o a sc ⊎ SeesStmts ss (inside fs ds around) o a sc

  pub SeesDecl : Decl → Scope → ℕ → Action → Scope → Type 0
  SeesDecl (VR at n) here o a sc = ⊥
  SeesDecl (LB at n i) here o a sc = ⊥
  SeesDecl (PR at n fs b) here o a sc = Sees b fs here o a sc

  pub SeesStmt : Stmt → Scope → ℕ → Action → Scope → Type 0
  SeesStmt (BK b) here o a sc = Sees b [] here o a sc
  SeesStmt (DO at x) here o a sc = record { stands : at ≡ o; does : x ≡ a; visible : here ≡ sc }

  pub SeesDecls : Decls → Scope → ℕ → Action → Scope → Type 0
  SeesDecls no-decl here o a sc = ⊥
  SeesDecls (decl d ds) here o a sc = SeesDecl d here o a sc ⊎ SeesDecls ds here o a sc

  pub SeesStmts : Stmts → Scope → ℕ → Action → Scope → Type 0
  SeesStmts no-stmt here o a sc = ⊥
  SeesStmts (stmt x ss) here o a sc = SeesStmt x here o a sc ⊎ SeesStmts ss here o a sc
