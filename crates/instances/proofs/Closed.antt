-- Closed text: every name that a text uses is visible there and of the kind wanted, and the blocks within it have names of their
-- own below 65,536, none twice.
use Rattle.std.specs.Prelude.{ℕ, ◌≤◌, List, [], ◌++◌, map, ◌≡◌, length}
use Rattle.std.proofs.Math.Option.{Option, some}
use Rattle.language.specs.Basics.{lookup, zip}
use Rattle.language.specs.Text.{Kind, Formal, Block, block, Decl, VR, LB, PR, Stmt, BK, DO, Decls, no-decl, decl, Stmts, no-stmt, stmt, decls, stmts, decl_name, decl_kind, formal_names, formal_kinds}
use Rattle.language.specs.Scope.{visible}
use Rattle.laws.specs.Each.{Each}
use Rattle.laws.specs.Distinct.{Distinct}
use Rattle.laws.specs.Lookup.{AllBelow}
use Rattle.instances.specs.Statement.{uses_of, Serves}

-- the visible names with their kinds, nearest first
abbrev pub Kinds : Type 0
Kinds = List (ℕ × Kind)

unfoldable pub decl_kinds : List Decl → Kinds
decl_kinds ds = zip (map decl_name ds) (map decl_kind ds)

unfoldable pub own_kinds : List Formal → Decls → Kinds
own_kinds fs ds = zip (formal_names fs) (formal_kinds fs) ++ decl_kinds (decls ds)

-- a label's index is the number of one of s statements
unfoldable pub LabelIn : ℕ → Decl → Type 0
LabelIn s (VR at n) = Unit {0}
LabelIn s (LB at n i) = (1 ≤ i) × (i ≤ s)
LabelIn s (PR at n fs b) = Unit {0}

abbrev pub LabelsIn : ℕ → Decls → Type 0
LabelsIn s ds = Each (LabelIn s) (decls ds)

-- a block's own names, as they are written, its formals' and its declarations'; and its labels
pub record Written (formals : List ℕ) (ds : Decls) (ss : Stmts) : Type 0 where
  pub formals-small : AllBelow formals
  pub small : AllBelow (map decl_name (decls ds))
  pub once : Distinct (formals ++ map decl_name (decls ds))
  pub labels : LabelsIn (length (stmts ss)) ds

-- a name used with the kind wanted is visible, of a kind that serves
pub record Used (K : Kinds) (use-of : ℕ × Option Kind) : Type 0 where
  pub kind : Kind
  pub seen : lookup use-of.0 K ≡ some kind
  pub serves : Serves use-of.1 kind

abbrev pub AllUsed : Kinds → List (ℕ × Option Kind) → Type 0
AllUsed K us = Each (Used K) us

-- text in which the names of K are visible
unfoldable mutual
  pub InBlock : Block → List Formal → Kinds → Type 0
  InBlock (block at ds ss) fs K = Written (formal_names fs) ds ss × InDecls ds (own_kinds fs ds ++ K) × InStmts ss (own_kinds fs ds ++ K)

  pub InDecl : Decl → Kinds → Type 0
  InDecl (VR at n) K = Unit {0}
  InDecl (LB at n i) K = Unit {0}
  InDecl (PR at n fs b) K = InBlock b fs K

  pub InStmt : Stmt → Kinds → Type 0
  InStmt (BK b) K = InBlock b [] K
  InStmt (DO at a) K = AllUsed K (uses_of a)

  pub InDecls : Decls → Kinds → Type 0
  InDecls no-decl K = Unit {0}
  InDecls (decl d ds) K = InDecl d K × InDecls ds K

  pub InStmts : Stmts → Kinds → Type 0
  InStmts no-stmt K = Unit {0}
  InStmts (stmt s ss) K = InStmt s K × InStmts ss K
