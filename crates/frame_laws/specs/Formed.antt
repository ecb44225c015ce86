-- A block in form, and what that says of its parts: read `InForm b fs` as "b, with the formals fs, keeps the rules of encoding and
-- bounds at some level and byte". An accepted program is in form, and so is every block and body within a block in form.
use Rattle.std.specs.Prelude.{ℕ, zero, suc, ◌+◌, ◌*◌, ◌≤◌, ◌≡◌, refl, List, [], ◌++◌, length}
use Rattle.std.proofs.Common.{subst, arith}
use Rattle.std.proofs.Math.Option.{some, none-ne-some, some-injective}
use Rattle.std.proofs.Math.ListN.{get_elem?}
use Rattle.language.specs.Text.{label, Formal, Action, Block, block, Decl, VR, LB, PR, Stmt, BK, DO, Decls, no-decl, decl, Stmts, no-stmt, stmt, decls, stmts, block_decls, block_stmts, decl_kind, label_index, decl_formals, decl_body, formal_names, declared_names}
use Rattle.language.specs.Encoding.{decl_fields, stmt_fields, decls_fields, formals_fields}
use Rattle.laws.specs.Distinct.{Distinct}
use Rattle.grammar.specs.Rules.{FormedAction, FormedBlock, FormedDecl, FormedStmt, FormedDecls, FormedStmts, Keeps}

pub record InForm (b : Block) (fs : List Formal) : Type 0 where
  pub level : ℕ
  pub byte : ℕ
  pub formed : FormedBlock b level fs byte

-- a declaration of a block with n statements, and a statement
pub record DeclInForm (d : Decl) (n : ℕ) : Type 0 where
  pub level : ℕ
  pub byte : ℕ
  pub formed : FormedDecl d level n byte

pub record StmtInForm (x : Stmt) : Type 0 where
  pub level : ℕ
  pub byte : ℕ
  pub formed : FormedStmt x level byte

pub program-in-form : (t : Block) → Keeps t → InForm t []
program-in-form t k = record { level = 1; byte = 0; formed = k.formed }

pub names-few : (b : Block) (fs : List Formal) → InForm b fs → length fs + length (block_decls b) ≤ 32
unfolding FormedBlock block_decls
names-few (block at ds ss) fs h = h.formed.few

pub names-once : (b : Block) (fs : List Formal) → InForm b fs → Distinct (formal_names fs ++ declared_names b)
unfolding FormedBlock block_decls declared_names
names-once (block at ds ss) fs h = h.formed.once

decl-at : (ds : Decls) (level n byte i : ℕ) (d : Decl) → FormedDecls ds level n byte → get_elem? (decls ds) i ≡ some d → DeclInForm d n
unfolding FormedBlock decls
decl-at no-decl level n byte i d h e = absurd (none-ne-some d e)
decl-at (decl x ds) level n byte zero d h e = subst (λ y. DeclInForm y n) (some-injective x d e) (record { level = level; byte = byte; formed = h.0 })
decl-at (decl x ds) level n byte (suc i) d h e = decl-at ds level n (byte + 2 * length (decl_fields x)) i d h.1 e

stmt-at : (ss : Stmts) (level byte i : ℕ) (x : Stmt) → FormedStmts ss level byte → get_elem? (stmts ss) i ≡ some x → StmtInForm x
unfolding FormedBlock stmts
stmt-at no-stmt level byte i x h e = absurd (none-ne-some x e)
stmt-at (stmt y ss) level byte zero x h e = subst StmtInForm (some-injective y x e) (record { level = level; byte = byte; formed = h.0 })
stmt-at (stmt y ss) level byte (suc i) x h e = stmt-at ss level (byte + 2 * length (stmt_fields y)) i x h.1 e

pub decl-in-form : (b : Block) (fs : List Formal) (i : ℕ) (d : Decl) → InForm b fs → get_elem? (block_decls b) i ≡ some d → DeclInForm d (length (block_stmts b))
unfolding FormedBlock block_decls block_stmts
decl-in-form (block at ds ss) fs i d h e = decl-at ds h.level (length (stmts ss)) (h.byte + 6) i d h.formed.declarations e

pub stmt-in-form : (b : Block) (fs : List Formal) (i : ℕ) (x : Stmt) → InForm b fs → get_elem? (block_stmts b) i ≡ some x → StmtInForm x
unfolding FormedBlock block_stmts
stmt-in-form (block at ds ss) fs i x h e = stmt-at ss h.level (h.byte + 6 + 2 * length (decls_fields ds)) i x h.formed.statements e

-- what is no procedure has an empty body, which is in form
empty-in-form : InForm (block 0 no-decl no-stmt) []
unfolding FormedBlock decls formal_names
empty-in-form = record { level = 1; byte = 0; formed = record { stands = refl; nesting = omega arith; few = omega arith; once = tt; declarations = tt; statements = tt } }

pub body-in-form : (d : Decl) (n : ℕ) → DeclInForm d n → InForm (decl_body d) (decl_formals d)
unfolding FormedBlock decl_body decl_formals
body-in-form (VR at x) n h = empty-in-form
body-in-form (LB at x i) n h = empty-in-form
body-in-form (PR at x fs b) n h = record { level = suc h.level; byte = h.byte + 6 + 2 * length (formals_fields fs); formed = h.formed.body }

-- a label's index names a statement of its block
pub label-in-form : (d : Decl) (n : ℕ) → DeclInForm d n → decl_kind d ≡ label → (1 ≤ label_index d) × (label_index d ≤ n)
unfolding FormedBlock decl_kind label_index
label-in-form (VR at x) n h e = let z : ◌≡◌ {A = ℕ} 0 1 = cc in absurd (omega arith)
label-in-form (LB at x i) n h e = (h.formed.first, h.formed.last)
label-in-form (PR at x fs b) n h e = let z : ◌≡◌ {A = ℕ} 0 1 = cc in absurd (omega arith)

pub block-in-form : (b : Block) → StmtInForm (BK b) → InForm b []
unfolding FormedBlock
block-in-form b h = record { level = suc h.level; byte = h.byte; formed = h.formed }

pub action-in-form : (at : ℕ) (a : Action) → StmtInForm (DO at a) → FormedAction a
unfolding FormedBlock
action-in-form at a h = h.formed.action
