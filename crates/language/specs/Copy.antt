-- The copy rule, written out: a text with names replaced, wherever no nearer declaration hides them.
use Rattle.std.specs.Prelude.{ℕ, true, false, List, [], ◌∷◌, ◌++◌, map}
use Rattle.std.proofs.Math.Option.{none, some}
use Rattle.language.specs.Basics.{among, lookup}
use Rattle.language.specs.Text.{Action, CL, GO, IF, KN, AR, AD, RM, QY, Block, block, Decl, VR, LB, PR, Stmt, BK, DO, Decls, no-decl, decl, Stmts, no-stmt, stmt, formal_names, declared_names}

-- names with what replaces them, all together
abbrev pub Replacement : Type 0
Replacement = List (ℕ × ℕ)

-- the name that stands there afterwards: its own where it is not replaced
unfoldable pub renamed : Replacement → ℕ → ℕ
renamed σ n = elim (lookup n σ) [ none ↦ n | some x ↦ x ]

-- a name declared again nearer is not replaced
unfoldable pub without : List ℕ → Replacement → Replacement
without ns [] = []
without ns (p ∷ σ) = elim (among p.0 ns) [ true ↦ without ns σ | false ↦ p ∷ without ns σ ]

unfoldable pub rename_action : Replacement → Action → Action
rename_action σ (CL p xs) = CL (renamed σ p) (map (renamed σ) xs)
rename_action σ (GO l) = GO (renamed σ l)
rename_action σ (IF v l) = IF (renamed σ v) (renamed σ l)
rename_action σ (KN t z) = KN (renamed σ t) z
rename_action σ (AR t o l r) = AR (renamed σ t) o (renamed σ l) (renamed σ r)
rename_action σ (AD g m) = AD (renamed σ g) (renamed σ m)
rename_action σ (RM g m) = RM (renamed σ g) (renamed σ m)
rename_action σ (QY t g m) = QY (renamed σ t) (renamed σ g) (renamed σ m)

-- The whole of a block's text, the names that it declares too: a block within keeps its own.
unfoldable mutual
  pub rename_block : Block → Replacement → Block
  rename_block (block at ds ss) σ = block at (rename_decls ds σ) (rename_stmts ss σ)

  pub rename_decl : Decl → Replacement → Decl
  rename_decl (VR at n) σ = VR at (renamed σ n)
  rename_decl (LB at n i) σ = LB at (renamed σ n) i
  rename_decl (PR at n fs b) σ = PR at (renamed σ n) fs (rename_block b (without (formal_names fs ++ declared_names b) σ))

  pub rename_stmt : Stmt → Replacement → Stmt
  rename_stmt (BK b) σ = BK (rename_block b (without (declared_names b) σ))
  rename_stmt (DO at a) σ = DO at (rename_action σ a)

  pub rename_decls : Decls → Replacement → Decls
  rename_decls no-decl σ = no-decl
  rename_decls (decl d ds) σ = decl (rename_decl d σ) (rename_decls ds σ)

  pub rename_stmts : Stmts → Replacement → Stmts
  rename_stmts no-stmt σ = no-stmt
  rename_stmts (stmt s ss) σ = stmt (rename_stmt s σ) (rename_stmts ss σ)
