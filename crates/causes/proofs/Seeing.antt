-- An action that is seen in a text (Sites.antt) stands between the text's first byte and its last.
use Rattle.std.specs.Prelude.{ℕ, suc, ◌+◌, ◌*◌, ◌≤◌, ◌<◌, List, [], ◌++◌, length}
use Rattle.std.proofs.Common.{arith, inl, inr, length-append}
use Rattle.language.specs.Text.{Formal, Action, CL, GO, IF, KN, AR, AD, RM, QY, Block, block, Decl, VR, LB, PR, Stmt, BK, DO, Decls, no-decl, decl, Stmts, no-stmt, stmt, stmts}
use Rattle.language.specs.Encoding.{formals_fields, action_fields, block_fields, decl_fields, stmt_fields, decls_fields, stmts_fields}
use Rattle.language.specs.Scope.{Scope, inside}
use Rattle.grammar.specs.Rules.{FormedBlock, FormedDecl, FormedStmt, FormedDecls, FormedStmts}
use Rattle.causes.specs.Sites.{Sees, SeesDecl, SeesStmt, SeesDecls, SeesStmts}

-- the byte o lies in n fields from the byte `here` on
abbrev pub Lies : ℕ → ℕ → ℕ → Type 0
Lies here n o = (here ≤ o) × (o < here + 2 * n)

has-mark : (a : Action) → 0 < length (action_fields a)
unfolding action_fields
has-mark (CL p xs) = omega arith
has-mark (GO l) = omega arith
has-mark (IF v l) = omega arith
has-mark (KN t z) = omega arith
has-mark (AR t o l r) = omega arith
has-mark (AD g m) = omega arith
has-mark (RM g m) = omega arith
has-mark (QY t g m) = omega arith

-- in the first part, or in the second
lies-first : {here o : ℕ} (xs ys : List ℕ) → Lies here (length xs) o → Lies here (length (xs ++ ys)) o
lies-first xs ys h = (h.0, omega (arith, h.1, length-append xs ys))

lies-second : {here o : ℕ} (xs ys : List ℕ) → Lies (here + 2 * length xs) (length ys) o → Lies here (length (xs ++ ys)) o
lies-second xs ys h = (omega (arith, h.0), omega (arith, h.1, length-append xs ys))

mutual
  unfolding Sees FormedBlock block_fields

  pub block-lies : (t : Block) (level here : ℕ) (fs : List Formal) (sc : Scope) (o : ℕ) (a : Action) (s : Scope) → FormedBlock t level fs here → Sees t fs sc o a s
      → Lies here (length (block_fields t)) o
  block-lies (block at ds ss) level here fs sc o a s f (inl h) =
      let k = decls-lie ds level (length (stmts ss)) (here + 6) (inside fs ds sc) o a s f.declarations h in
      (omega (arith, k.0), omega (arith, k.1, length-append (decls_fields ds) (stmts_fields ss)))
  block-lies (block at ds ss) level here fs sc o a s f (inr h) =
      let k = stmts-lie ss level (here + 6 + 2 * length (decls_fields ds)) (inside fs ds sc) o a s f.statements h in
      (omega (arith, k.0), omega (arith, k.1, length-append (decls_fields ds) (stmts_fields ss)))

  pub decl-lies : (d : Decl) (level n here : ℕ) (sc : Scope) (o : ℕ) (a : Action) (s : Scope) → FormedDecl d level n here → SeesDecl d sc o a s
      → Lies here (length (decl_fields d)) o
  decl-lies (VR at n) level m here sc o a s f h = absurd h
  decl-lies (LB at n i) level m here sc o a s f h = absurd h
  decl-lies (PR at n fs b) level m here sc o a s f h =
      let k = block-lies b (suc level) (here + 6 + 2 * length (formals_fields fs)) fs sc o a s f.body h in
      (omega (arith, k.0), omega (arith, k.1, length-append (formals_fields fs) (block_fields b)))

  pub stmt-lies : (x : Stmt) (level here : ℕ) (sc : Scope) (o : ℕ) (a : Action) (s : Scope) → FormedStmt x level here → SeesStmt x sc o a s
      → Lies here (length (stmt_fields x)) o
  stmt-lies (BK b) level here sc o a s f h = block-lies b (suc level) here [] sc o a s f h
  stmt-lies (DO at x) level here sc o a s f h = (omega (arith, f.stands, h.stands), omega (arith, f.stands, h.stands, has-mark x))

  pub decls-lie : (ds : Decls) (level n here : ℕ) (sc : Scope) (o : ℕ) (a : Action) (s : Scope) → FormedDecls ds level n here → SeesDecls ds sc o a s
      → Lies here (length (decls_fields ds)) o
  decls-lie no-decl level n here sc o a s f h = absurd h
  decls-lie (decl d ds) level n here sc o a s f (inl h) = lies-first (decl_fields d) (decls_fields ds) (decl-lies d level n here sc o a s f.0 h)
  decls-lie (decl d ds) level n here sc o a s f (inr h) =
      lies-second (decl_fields d) (decls_fields ds) (decls-lie ds level n (here + 2 * length (decl_fields d)) sc o a s f.1 h)

  pub stmts-lie : (ss : Stmts) (level here : ℕ) (sc : Scope) (o : ℕ) (a : Action) (s : Scope) → FormedStmts ss level here → SeesStmts ss sc o a s
      → Lies here (length (stmts_fields ss)) o
  stmts-lie no-stmt level here sc o a s f h = absurd h
  stmts-lie (stmt x ss) level here sc o a s f (inl h) = lies-first (stmt_fields x) (stmts_fields ss) (stmt-lies x level here sc o a s f.0 h)
  stmts-lie (stmt x ss) level here sc o a s f (inr h) =
      lies-second (stmt_fields x) (stmts_fields ss) (stmts-lie ss level (here + 2 * length (stmt_fields x)) sc o a s f.1 h)
