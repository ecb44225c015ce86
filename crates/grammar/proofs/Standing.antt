-- Where the records of a script that keeps the rules stand in its bytes: each at its own offset. The program does (`program-stands`,
-- `accepted-stands`); so do the declarations and the statements of a block that does (`decl-stands`, `stmt-stands`), a procedure's body
-- (`body-stands`) and an inner block (`inner-stands`). `block-head` has a block's fields, `procedure-head` a procedure's; the laws on `next` say where
-- the record after one begins.
use Prim.Native.Nat.{ℕ, zero, suc, ◌+◌, ◌*◌, ◌≤◌}
use Rattle.std.proofs.Common.{arith, sym, ◌∙◌, length-append}
use mathlib.Core.List.{List, [], ◌∷◌, ◌++◌, append-nil}
use Rattle.std.proofs.Math.Option.{some}
use Rattle.std.specs.Prelude.{◌≡◌}
use Rattle.std.proofs.Math.Path.{refl, ap, subst}
use Rattle.std.proofs.Math.ListN.{length, get_elem?}
use Rattle.language.specs.Text.{Formal, Block, block, Decl, VR, LB, PR, Stmt, BK, DO, Decls, no-decl, decl, Stmts, no-stmt, stmt, decls, stmts, block_at, block_decls, block_stmts, stmt_at}
use Rattle.language.specs.Encoding.{BK-mark, PR-mark, formals_fields, block_fields, decl_fields, stmt_fields, decls_fields, stmts_fields, fields_of, encode}
use Rattle.language.specs.Check.{accepted, check}
use Rattle.language.specs.Copy.{Replacement, rename_block, rename_decl}
use Rattle.laws.specs.Tests.{none≢some, some_inj}
use Rattle.laws.specs.RenamedFields.{decls_fields-renamed}
use Rattle.laws.specs.Fields.{field_at, FieldsStand, fields-first, fields-after, fields-third, fields-past-head, fields-stand}
use Rattle.grammar.specs.Rules.{Bytes, FormedBlock, FormedDecl, FormedStmt, FormedDecls, FormedStmts, Keeps}
use Rattle.grammar.specs.Words.{fields-of-bytes, length-bytes}
use Rattle.grammar.proofs.Exact.{accepts-exactly}

-- the offset of a declaration
unfoldable pub decl_at : Decl → ℕ
decl_at (VR at n) = at
decl_at (LB at n i) = at
decl_at (PR at n fs b) = at

-- where a block's statements begin
unfoldable pub stmts_at : Block → ℕ
stmts_at (block at ds ss) = at + 6 + 2 * length (decls_fields ds)

-- The fields ws stand at an offset and end inside the script.
pub record StandsAt (bs : List ℕ) (at : ℕ) (ws : List ℕ) : Type 0 where
  pub fields : FieldsStand bs at ws
  pub within : at + 2 * length ws ≤ length bs

-- a block of a level with its formals, a declaration in a block with s statements, and a statement: each at its offset, keeping the rules there
pub record BlockStands (bs : List ℕ) (b : Block) (level : ℕ) (fs : List Formal) : Type 0 where
  pub stands : StandsAt bs (block_at b) (block_fields b)
  pub formed : FormedBlock b level fs (block_at b)

pub record DeclStands (bs : List ℕ) (d : Decl) (level s : ℕ) : Type 0 where
  pub stands : StandsAt bs (decl_at d) (decl_fields d)
  pub formed : FormedDecl d level s (decl_at d)

pub record StmtStands (bs : List ℕ) (x : Stmt) (level : ℕ) : Type 0 where
  pub stands : StandsAt bs (stmt_at x) (stmt_fields x)
  pub formed : FormedStmt x level (stmt_at x)

stands-first : (bs : List ℕ) (at : ℕ) (xs ys : List ℕ) → StandsAt bs at (xs ++ ys) → StandsAt bs at xs
stands-first bs at xs ys h = record { fields = fields-first bs at xs ys h.fields; within = omega (arith, h.within, length-append xs ys) }

stands_after : (bs : List ℕ) (at : ℕ) (xs ys : List ℕ) → StandsAt bs at (xs ++ ys) → StandsAt bs (at + 2 * length xs) ys
stands_after bs at xs ys h = record { fields = fields-after bs at xs ys h.fields; within = omega (arith, h.within, length-append xs ys) }

past_head : (bs : List ℕ) (at w v u : ℕ) (ws : List ℕ) → StandsAt bs at (w ∷ v ∷ u ∷ ws) → StandsAt bs (at + 6) ws
past_head bs at w v u ws h = record { fields = fields-past-head bs at w v u ws h.fields; within = omega (arith, h.within) }

-- a formed record's offset is where it stands

block_here : (b : Block) (level : ℕ) (fs : List Formal) (here : ℕ) → FormedBlock b level fs here → block_at b ≡ here
unfolding FormedBlock block_at
block_here (block at ds ss) level fs here h = h.stands

decl-here : (d : Decl) (level s here : ℕ) → FormedDecl d level s here → decl_at d ≡ here
unfolding FormedBlock decl_at
decl-here (VR at n) level s here h = h.stands
decl-here (LB at n i) level s here h = h.stands
decl-here (PR at n fs b) level s here h = h.stands

stmt-here : (x : Stmt) (level here : ℕ) → FormedStmt x level here → stmt_at x ≡ here
unfolding FormedBlock stmt_at
stmt-here (BK b) level here h = block_here b (suc level) [] here h
stmt-here (DO at a) level here h = h.stands

module _ (bs : List ℕ) where
  block-placed : (b : Block) (level : ℕ) (fs : List Formal) (here : ℕ) → FormedBlock b level fs here → StandsAt bs here (block_fields b) → BlockStands bs b level fs
  block-placed b level fs here f h =
      let e = sym (block_here b level fs here f) in
      record { stands = subst (λ (o : ℕ). StandsAt bs o (block_fields b)) e h; formed = subst (FormedBlock b level fs) e f }

  decl-placed : (d : Decl) (level s here : ℕ) → FormedDecl d level s here → StandsAt bs here (decl_fields d) → DeclStands bs d level s
  decl-placed d level s here f h =
      let e = sym (decl-here d level s here f) in
      record { stands = subst (λ (o : ℕ). StandsAt bs o (decl_fields d)) e h; formed = subst (FormedDecl d level s) e f }

  stmt-placed : (x : Stmt) (level here : ℕ) → FormedStmt x level here → StandsAt bs here (stmt_fields x) → StmtStands bs x level
  stmt-placed x level here f h =
      let e = sym (stmt-here x level here f) in
      record { stands = subst (λ (o : ℕ). StandsAt bs o (stmt_fields x)) e h; formed = subst (FormedStmt x level) e f }

  -- The program

  pub program-stands : (t : Block) → Keeps t → bs ≡ encode t → BlockStands bs t 1 []
  unfolding encode
  program-stands t k e =
      block-placed t 1 [] 0 k.formed
      (record { fields = subst (FieldsStand bs 0) (ap fields_of e ∙ fields-of-bytes (block_fields t)) (fields-stand bs); within = omega (arith, ap length e, length-bytes (block_fields t)) })

  pub accepted-stands : Bytes bs → (t : Block) → check bs ≡ accepted t → BlockStands bs t 1 []
  accepted-stands h t e = let k = (accepts-exactly bs h t).0 e in program-stands t k.1 k.0

  -- A block's parts

  decls-placed : (ds : Decls) (level s here i : ℕ) (d : Decl) → FormedDecls ds level s here → StandsAt bs here (decls_fields ds) → get_elem? (decls ds) i ≡ some d → DeclStands bs d level s
  unfolding FormedBlock decls decls_fields
  decls-placed no-decl level s here i d f h e = none≢some e
  decls-placed (decl x ds) level s here zero d f h e =
      subst (λ (y : Decl). DeclStands bs y level s) (some_inj e) (decl-placed x level s here f.0 (stands-first bs here (decl_fields x) (decls_fields ds) h))
  decls-placed (decl x ds) level s here (suc i) d f h e =
      decls-placed ds level s (here + 2 * length (decl_fields x)) i d f.1 (stands_after bs here (decl_fields x) (decls_fields ds) h) e

  stmts-placed : (ss : Stmts) (level here i : ℕ) (x : Stmt) → FormedStmts ss level here → StandsAt bs here (stmts_fields ss) → get_elem? (stmts ss) i ≡ some x → StmtStands bs x level
  unfolding FormedBlock stmts stmts_fields
  stmts-placed no-stmt level here i x f h e = none≢some e
  stmts-placed (stmt y ss) level here zero x f h e =
      subst (λ (z : Stmt). StmtStands bs z level) (some_inj e) (stmt-placed y level here f.0 (stands-first bs here (stmt_fields y) (stmts_fields ss) h))
  stmts-placed (stmt y ss) level here (suc i) x f h e =
      stmts-placed ss level (here + 2 * length (stmt_fields y)) i x f.1 (stands_after bs here (stmt_fields y) (stmts_fields ss) h) e

  pub decl-stands : (b : Block) (level : ℕ) (fs : List Formal) (i : ℕ) (d : Decl) → BlockStands bs b level fs → get_elem? (block_decls b) i ≡ some d → DeclStands bs d level (length (block_stmts b))
  unfolding FormedBlock block_at block_decls block_stmts block_fields
  decl-stands (block at ds ss) level fs i d h e =
      let inner = past_head bs at BK-mark (length (decls ds)) (length (stmts ss)) (decls_fields ds ++ stmts_fields ss) h.stands in
      decls-placed ds level (length (stmts ss)) (at + 6) i d h.formed.declarations (stands-first bs (at + 6) (decls_fields ds) (stmts_fields ss) inner) e

  pub stmt-stands : (b : Block) (level : ℕ) (fs : List Formal) (i : ℕ) (x : Stmt) → BlockStands bs b level fs → get_elem? (block_stmts b) i ≡ some x → StmtStands bs x level
  unfolding FormedBlock block_at block_stmts block_fields
  stmt-stands (block at ds ss) level fs i x h e =
      let inner = past_head bs at BK-mark (length (decls ds)) (length (stmts ss)) (decls_fields ds ++ stmts_fields ss) h.stands in
      stmts-placed ss level (at + 6 + 2 * length (decls_fields ds)) i x h.formed.statements (stands_after bs (at + 6) (decls_fields ds) (stmts_fields ss) inner) e

  pub inner-stands : (b : Block) (level : ℕ) → StmtStands bs (BK b) level → BlockStands bs b (suc level) []
  unfolding FormedBlock stmt_at stmt_fields
  inner-stands b level h = record { stands = h.stands; formed = h.formed }

  -- a block's mark and its two numbers
  pub block-head : (b : Block) (level : ℕ) (fs : List Formal) → BlockStands bs b level fs
      → (field_at bs (block_at b) ≡ BK-mark) × (field_at bs (block_at b + 2) ≡ length (block_decls b)) × (field_at bs (block_at b + 4) ≡ length (block_stmts b))
  unfolding block_at block_decls block_stmts block_fields
  block-head (block at ds ss) level fs h =
      (h.stands.fields.0, h.stands.fields.1.0, fields-third bs at BK-mark (length (decls ds)) (length (stmts ss)) (decls_fields ds ++ stmts_fields ss) h.stands.fields)

  -- A procedure's formals and body

  formals-long : (fs : List Formal) → length (formals_fields fs) ≡ 3 * length fs
  unfolding formals_fields
  formals-long [] = refl
  formals-long (f ∷ fs) = omega (arith, formals-long fs)

  module _ (at n : ℕ) (fs : List Formal) (b : Block) (level s : ℕ) (h : DeclStands bs (PR at n fs b) level s) where
    after-head : StandsAt bs (at + 6) (formals_fields fs ++ block_fields b)
    unfolding decl_at decl_fields
    after-head = past_head bs at PR-mark n (length fs) (formals_fields fs ++ block_fields b) h.stands

    pub procedure-head : (field_at bs at ≡ PR-mark) × (field_at bs (at + 2) ≡ n) × (field_at bs (at + 4) ≡ length fs)
    unfolding decl_at decl_fields
    procedure-head = (h.stands.fields.0, h.stands.fields.1.0, fields-third bs at PR-mark n (length fs) (formals_fields fs ++ block_fields b) h.stands.fields)

    pub formals-stand : StandsAt bs (at + 6) (formals_fields fs)
    formals-stand = stands-first bs (at + 6) (formals_fields fs) (block_fields b) after-head

    pub body-stands : BlockStands bs b (suc level) fs
    unfolding FormedBlock decl_at
    body-stands =
        block-placed b (suc level) fs (at + 6 + 2 * length (formals_fields fs)) h.formed.body (stands_after bs (at + 6) (formals_fields fs) (block_fields b) after-head)

    -- a formal takes six bytes
    pub body_at : block_at b ≡ at + 6 + 6 * length fs
    unfolding FormedBlock decl_at
    body_at = block_here b (suc level) fs (at + 6 + 2 * length (formals_fields fs)) h.formed.body ∙ omega (arith, formals-long fs)

-- Where the record after one begins

first-decl-in : (ds : Decls) (level s here : ℕ) (d : Decl) → FormedDecls ds level s here → get_elem? (decls ds) 0 ≡ some d → decl_at d ≡ here
unfolding FormedBlock decls
first-decl-in no-decl level s here d f e = none≢some e
first-decl-in (decl x ds) level s here d f e = ap decl_at (sym (some_inj e)) ∙ decl-here x level s here f.0

next-decl-in : (ds : Decls) (level s here i : ℕ) (c d : Decl) → FormedDecls ds level s here → get_elem? (decls ds) i ≡ some c → get_elem? (decls ds) (suc i) ≡ some d → decl_at d ≡ decl_at c + 2 * length (decl_fields c)
unfolding FormedBlock decls
next-decl-in no-decl level s here i c d f e g = none≢some e
next-decl-in (decl x ds) level s here zero c d f e g =
    first-decl-in ds level s (here + 2 * length (decl_fields x)) d f.1 g ∙ ap (λ (o : ℕ). o + 2 * length (decl_fields x)) (sym (decl-here x level s here f.0))
    ∙ ap (λ (y : Decl). decl_at y + 2 * length (decl_fields y)) (some_inj e)
next-decl-in (decl x ds) level s here (suc i) c d f e g = next-decl-in ds level s (here + 2 * length (decl_fields x)) i c d f.1 e g

last-decl-in : (ds : Decls) (level s here i : ℕ) (d : Decl) → FormedDecls ds level s here → get_elem? (decls ds) i ≡ some d → suc i ≡ length (decls ds) → here + 2 * length (decls_fields ds) ≡ decl_at d + 2 * length (decl_fields d)
unfolding FormedBlock decls decls_fields
last-decl-in no-decl level s here i d f e n = none≢some e
last-decl-in (decl x no-decl) level s here zero d f e n =
    omega (arith, ap length (append-nil (decl_fields x)), decl-here x level s here f.0) ∙ ap (λ (y : Decl). decl_at y + 2 * length (decl_fields y)) (some_inj e)
last-decl-in (decl x (decl y ds)) level s here zero d f e n = absurd (omega arith)
last-decl-in (decl x ds) level s here (suc i) d f e n =
    omega (arith, length-append (decl_fields x) (decls_fields ds)) ∙ last-decl-in ds level s (here + 2 * length (decl_fields x)) i d f.1 e (omega arith)

first-stmt-in : (ss : Stmts) (level here : ℕ) (x : Stmt) → FormedStmts ss level here → get_elem? (stmts ss) 0 ≡ some x → stmt_at x ≡ here
unfolding FormedBlock stmts
first-stmt-in no-stmt level here x f e = none≢some e
first-stmt-in (stmt y ss) level here x f e = ap stmt_at (sym (some_inj e)) ∙ stmt-here y level here f.0

next-stmt-in : (ss : Stmts) (level here i : ℕ) (x y : Stmt) → FormedStmts ss level here → get_elem? (stmts ss) i ≡ some x → get_elem? (stmts ss) (suc i) ≡ some y → stmt_at y ≡ stmt_at x + 2 * length (stmt_fields x)
unfolding FormedBlock stmts
next-stmt-in no-stmt level here i x y f e g = none≢some e
next-stmt-in (stmt z ss) level here zero x y f e g =
    first-stmt-in ss level (here + 2 * length (stmt_fields z)) y f.1 g ∙ ap (λ (o : ℕ). o + 2 * length (stmt_fields z)) (sym (stmt-here z level here f.0))
    ∙ ap (λ (w : Stmt). stmt_at w + 2 * length (stmt_fields w)) (some_inj e)
next-stmt-in (stmt z ss) level here (suc i) x y f e g = next-stmt-in ss level (here + 2 * length (stmt_fields z)) i x y f.1 e g

module _ (level : ℕ) (fs : List Formal) (here : ℕ) where
  pub first-decl : (b : Block) (d : Decl) → FormedBlock b level fs here → get_elem? (block_decls b) 0 ≡ some d → decl_at d ≡ here + 6
  unfolding FormedBlock block_decls
  first-decl (block at ds ss) d h e = first-decl-in ds level (length (stmts ss)) (here + 6) d h.declarations e

  pub next-decl : (b : Block) (i : ℕ) (c d : Decl) → FormedBlock b level fs here → get_elem? (block_decls b) i ≡ some c → get_elem? (block_decls b) (suc i) ≡ some d → decl_at d ≡ decl_at c + 2 * length (decl_fields c)
  unfolding FormedBlock block_decls
  next-decl (block at ds ss) i c d h e g = next-decl-in ds level (length (stmts ss)) (here + 6) i c d h.declarations e g

  pub last-decl : (b : Block) (i : ℕ) (d : Decl) → FormedBlock b level fs here → get_elem? (block_decls b) i ≡ some d → suc i ≡ length (block_decls b) → stmts_at b ≡ decl_at d + 2 * length (decl_fields d)
  unfolding FormedBlock block_decls stmts_at
  last-decl (block at ds ss) i d h e n =
      ap (λ (o : ℕ). o + 6 + 2 * length (decls_fields ds)) h.stands ∙ last-decl-in ds level (length (stmts ss)) (here + 6) i d h.declarations e n

  pub no-decls : (b : Block) → FormedBlock b level fs here → length (block_decls b) ≡ 0 → stmts_at b ≡ here + 6
  unfolding FormedBlock block_decls stmts_at decls decls_fields
  no-decls (block at no-decl ss) h n = omega (arith, h.stands)
  no-decls (block at (decl d ds) ss) h n = absurd (omega arith)

  pub first-stmt : (b : Block) (x : Stmt) → FormedBlock b level fs here → get_elem? (block_stmts b) 0 ≡ some x → stmt_at x ≡ stmts_at b
  unfolding FormedBlock block_stmts stmts_at
  first-stmt (block at ds ss) x h e =
      first-stmt-in ss level (here + 6 + 2 * length (decls_fields ds)) x h.statements e ∙ ap (λ (o : ℕ). o + 6 + 2 * length (decls_fields ds)) (sym h.stands)

  pub next-stmt : (b : Block) (i : ℕ) (x y : Stmt) → FormedBlock b level fs here → get_elem? (block_stmts b) i ≡ some x → get_elem? (block_stmts b) (suc i) ≡ some y → stmt_at y ≡ stmt_at x + 2 * length (stmt_fields x)
  unfolding FormedBlock block_stmts
  next-stmt (block at ds ss) i x y h e g = next-stmt-in ss level (here + 6 + 2 * length (decls_fields ds)) i x y h.statements e g

-- Renaming moves no record

pub decl_at-renamed : (d : Decl) (σ : Replacement) → decl_at (rename_decl d σ) ≡ decl_at d
unfolding decl_at rename_decl
decl_at-renamed (VR at n) σ = refl
decl_at-renamed (LB at n i) σ = refl
decl_at-renamed (PR at n fs b) σ = refl

pub stmts_at-renamed : (b : Block) (σ : Replacement) → stmts_at (rename_block b σ) ≡ stmts_at b
unfolding stmts_at rename_block
stmts_at-renamed (block at ds ss) σ = ap (λ (n : ℕ). at + 6 + 2 * n) (decls_fields-renamed ds σ)
