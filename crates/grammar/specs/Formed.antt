-- What the rules say of the parts of a formed text: its names, and the declaration or the statement at an index.
use Rattle.std.specs.Prelude.{ℕ, zero, suc, ◌+◌, ◌≤◌, List, [], ◌∷◌, ◌++◌, map, ◌≡◌, length}
use Rattle.std.proofs.Math.Option.{some}
use Rattle.std.proofs.Common.{subst}
use Rattle.std.proofs.Math.ListN.{get_elem?}
use Rattle.language.specs.Text.{Formal, Block, block, Decl, VR, LB, PR, Stmt, Decls, no-decl, decl, Stmts, no-stmt, stmt, decls, stmts, block_decls, block_stmts, decl_name, formal_names, declared_names}
use Rattle.laws.specs.Tests.{none≢some, some_inj}
use Rattle.laws.specs.Each.{Each}
use Rattle.laws.specs.Distinct.{Distinct}
use Rattle.grammar.specs.Rules.{Name, FormedFormals, FormedBlock, FormedDecl, FormedStmt, FormedDecls, FormedStmts}

pub formal-names : (fs : List Formal) (here : ℕ) → FormedFormals fs here → Each Name (formal_names fs)
unfolding FormedFormals formal_names
formal-names [] here h = tt
formal-names (f ∷ fs) here h = (h.name, formal-names fs (here + 6) h.rest)

pub decl-name : (d : Decl) (level s here : ℕ) → FormedDecl d level s here → Name (decl_name d)
unfolding FormedBlock decl_name
decl-name (VR at n) level s here h = h.name
decl-name (LB at n i) level s here h = h.name
decl-name (PR at n fs b) level s here h = h.name

pub decl-names : (ds : Decls) (level s here : ℕ) → FormedDecls ds level s here → Each Name (map decl_name (decls ds))
unfolding FormedBlock decls
decl-names no-decl level s here h = tt
decl-names (decl d ds) level s here h = (decl-name d level s here h.0, decl-names ds level s _ h.1)

decls-at : (ds : Decls) (level s here k : ℕ) (d : Decl) → FormedDecls ds level s here → get_elem? (decls ds) k ≡ some d → (o : ℕ) × FormedDecl d level s o
unfolding FormedBlock decls
decls-at no-decl level s here k d h e = none≢some e
decls-at (decl c ds) level s here zero d h e = (here, subst (λ (x : Decl). FormedDecl x level s here) (some_inj e) h.0)
decls-at (decl c ds) level s here (suc k) d h e = decls-at ds level s _ k d h.1 e

stmts-at : (ss : Stmts) (level here k : ℕ) (x : Stmt) → FormedStmts ss level here → get_elem? (stmts ss) k ≡ some x → (o : ℕ) × FormedStmt x level o
unfolding FormedBlock stmts
stmts-at no-stmt level here k x h e = none≢some e
stmts-at (stmt c ss) level here zero x h e = (here, subst (λ (y : Stmt). FormedStmt y level here) (some_inj e) h.0)
stmts-at (stmt c ss) level here (suc k) x h e = stmts-at ss level _ k x h.1 e

module _ (level : ℕ) (fs : List Formal) (here : ℕ) where
  pub block-names : (b : Block) → FormedBlock b level fs here → Each Name (declared_names b)
  unfolding FormedBlock declared_names block_decls
  block-names (block at ds ss) h = decl-names ds level _ _ h.declarations

  pub block-once : (b : Block) → FormedBlock b level fs here → Distinct (formal_names fs ++ declared_names b)
  unfolding FormedBlock declared_names block_decls
  block-once (block at ds ss) h = h.once

  pub block-few : (b : Block) → FormedBlock b level fs here → length fs + length (block_decls b) ≤ 32
  unfolding FormedBlock block_decls
  block-few (block at ds ss) h = h.few

  pub decl-at : (b : Block) (k : ℕ) (d : Decl) → FormedBlock b level fs here → get_elem? (block_decls b) k ≡ some d → (o : ℕ) × FormedDecl d level (length (block_stmts b)) o
  unfolding FormedBlock block_decls block_stmts
  decl-at (block at ds ss) k d h e = decls-at ds level _ _ k d h.declarations e

  pub stmt-at : (b : Block) (k : ℕ) (x : Stmt) → FormedBlock b level fs here → get_elem? (block_stmts b) k ≡ some x → (o : ℕ) × FormedStmt x level o
  unfolding FormedBlock block_stmts
  stmt-at (block at ds ss) k x h e = stmts-at ss level _ k x h.statements e
