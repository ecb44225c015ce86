-- Where the parts of a script stand. A place is half a byte offset and loses nothing, since every offset of a script that keeps the rules is
-- even (`even-block`, `even-stmt`). Of a block that is formed at place p: `block-place`, `stmt-stands`, `body-stands`: the places of its BK,
-- of a statement and of a body that it declares; `stmt-place`, `end-place`: what stmt_place is; `next_place`: after a statement stands the
-- next one, or the end; `place-rises`, `stmt-before-end`, `end-iff`: a statement number's place is the end exactly after the last one.
-- Of an enclosed block (`enclosed-placed`): it is formed at its place and ends within the script's at most 4,096 fields (`end-bound`); the laws
-- on statements are `enclosed-next`, `enclosed-after-block`, `enclosed-before-end`, `enclosed-end-iff`; `place-settled`: two of them at one
-- place are one.
use Rattle.std.specs.Prelude.{ℕ, zero, suc, ◌+◌, ◌*◌, ◌≤◌, ◌<◌, List, [], ◌∷◌, Bool, true, false, ◌↔◌, ltb, ◌≡◌, refl, length}
use Rattle.std.proofs.Common.{arith, ltb-true, ltb-false, sym, ap, ◌∙◌, subst, length-append}
use Rattle.std.proofs.Math.Option.{Option, none, some}
use Rattle.std.proofs.Math.ListN.{get_elem?}
use Rattle.language.specs.Text.{Formal, Action, CL, GO, IF, KN, AR, AD, RM, QY, Block, block, Decl, PR, Stmt, BK, DO, Decls, no-decl, decl, Stmts, no-stmt, stmt, decls, stmts, block_at, block_decls, block_stmts, stmt_at}
use Rattle.language.specs.Encoding.{action_fields, formals_fields, block_fields, decl_fields, stmt_fields, decls_fields, stmts_fields, encode}
use Rattle.laws.specs.Tests.{none≢some, some_inj}
use Rattle.laws.specs.Lists.{get_elem-none, get_elem-in, get_elem-past}
use Rattle.grammar.specs.Rules.{FormedBlock, FormedDecl, FormedStmt, FormedDecls, FormedStmts, Keeps}
use Rattle.grammar.specs.Words.{length-bytes}
use Rattle.coordinates.specs.Enclosure.{Enclosing, Enclosure, StandsIn, as-block, as-body, whole, Encloses}
use Rattle.coordinates.proofs.Index.{block_settled}
use Rattle.resolved.specs.Resolved.{place_of, end_place, stmt_place}

-- Every statement has a field

pub action-fields : (a : Action) → 1 ≤ length (action_fields a)
unfolding action_fields
action-fields (CL p xs) = omega arith
action-fields (GO l) = omega arith
action-fields (IF v l) = omega arith
action-fields (KN t z) = omega arith
action-fields (AR t o x y) = omega arith
action-fields (AD g m) = omega arith
action-fields (RM g m) = omega arith
action-fields (QY t g m) = omega arith

pub block-fields : (b : Block) → 3 ≤ length (block_fields b)
unfolding block_fields
block-fields (block at ds ss) = omega arith

pub stmt-fields : (x : Stmt) → 1 ≤ length (stmt_fields x)
unfolding block_fields
stmt-fields (BK b) = omega (arith, block-fields b)
stmt-fields (DO at a) = action-fields a

-- The fields before a statement or a declaration

-- among the statements, and among the declarations
unfoldable pub stmts_before : Stmts → ℕ → ℕ
stmts_before no-stmt i = 0
stmts_before (stmt s ss) zero = 0
stmts_before (stmt s ss) (suc i) = length (stmt_fields s) + stmts_before ss i

unfoldable pub decls_before : Decls → ℕ → ℕ
decls_before no-decl i = 0
decls_before (decl d ds) zero = 0
decls_before (decl d ds) (suc i) = length (decl_fields d) + decls_before ds i

-- in a block, from its BK on
unfoldable pub before : Block → ℕ → ℕ
before (block at ds ss) i = 3 + (length (decls_fields ds) + stmts_before ss i)

-- a procedure's body stands after three fields and its formals
unfoldable pub before_body : Block → ℕ → List Formal → ℕ
before_body (block at ds ss) i fs = 3 + (decls_before ds i + (3 + length (formals_fields fs)))

stmts-next : (ss : Stmts) (i : ℕ) (x : Stmt) → get_elem? (stmts ss) i ≡ some x → stmts_before ss (suc i) ≡ stmts_before ss i + length (stmt_fields x)
unfolding stmts stmts_before
stmts-next no-stmt i x e = none≢some e
stmts-next (stmt y no-stmt) zero x e = let q = ap (λ z. length (stmt_fields z)) (some_inj e) in omega arith
stmts-next (stmt y (stmt z ss)) zero x e = let q = ap (λ z. length (stmt_fields z)) (some_inj e) in omega arith
stmts-next (stmt y ss) (suc i) x e = omega (arith, stmts-next ss i x e)

stmts-all : (ss : Stmts) (i : ℕ) → length (stmts ss) ≤ i → stmts_before ss i ≡ length (stmts_fields ss)
unfolding stmts stmts_before block_fields
stmts-all no-stmt i h = refl
stmts-all (stmt y ss) zero h = absurd (omega arith)
stmts-all (stmt y ss) (suc i) h = omega (arith, stmts-all ss i (omega arith), length-append (stmt_fields y) (stmts_fields ss))

stmts-within : (ss : Stmts) (i : ℕ) → stmts_before ss i ≤ length (stmts_fields ss)
unfolding stmts_before block_fields
stmts-within no-stmt i = omega arith
stmts-within (stmt y ss) zero = omega arith
stmts-within (stmt y ss) (suc i) = omega (arith, stmts-within ss i, length-append (stmt_fields y) (stmts_fields ss))

decls-within : (ds : Decls) (i : ℕ) (d : Decl) → get_elem? (decls ds) i ≡ some d → decls_before ds i + length (decl_fields d) ≤ length (decls_fields ds)
unfolding decls decls_before block_fields
decls-within no-decl i d e = none≢some e
decls-within (decl c ds) zero d e =
    let q = ap (λ z. length (decl_fields z)) (some_inj e) in omega (arith, length-append (decl_fields c) (decls_fields ds))
decls-within (decl c ds) (suc i) d e = omega (arith, decls-within ds i d e, length-append (decl_fields c) (decls_fields ds))

pub before-next : (b : Block) (i : ℕ) (x : Stmt) → get_elem? (block_stmts b) i ≡ some x → before b (suc i) ≡ before b i + length (stmt_fields x)
unfolding block_stmts before
before-next (block at ds ss) i x e = omega (arith, stmts-next ss i x e)

pub before-all : (b : Block) (i : ℕ) → length (block_stmts b) ≤ i → before b i ≡ length (block_fields b)
unfolding block_stmts before block_fields
before-all (block at ds ss) i h = omega (arith, stmts-all ss i h, length-append (decls_fields ds) (stmts_fields ss))

pub before-within : (b : Block) (i : ℕ) → before b i ≤ length (block_fields b)
unfolding before block_fields
before-within (block at ds ss) i = omega (arith, stmts-within ss i, length-append (decls_fields ds) (stmts_fields ss))

pub body-within : (b : Block) (i at n : ℕ) (fs : List Formal) (body : Block) → get_elem? (block_decls b) i ≡ some (PR at n fs body)
    → before_body b i fs + length (block_fields body) ≤ length (block_fields b)
unfolding block_decls before_body block_fields
body-within (block a ds ss) i at n fs body e =
    omega (arith, decls-within ds i (PR at n fs body) e, length-append (decls_fields ds) (stmts_fields ss), length-append (formals_fields fs) (block_fields body))

-- What is formed at a place

stmts-formed : (ss : Stmts) (level q i : ℕ) (x : Stmt) → FormedStmts ss level (2 * q) → get_elem? (stmts ss) i ≡ some x
    → FormedStmt x level (2 * (q + stmts_before ss i))
unfolding FormedBlock stmts stmts_before
stmts-formed no-stmt level q i x h e = none≢some e
stmts-formed (stmt y ss) level q zero x h e =
    let z : 2 * q ≡ 2 * (q + 0) = omega arith in
    subst (FormedStmt x level) z (subst (λ (u : Stmt). FormedStmt u level (2 * q)) (some_inj e) h.0)
stmts-formed (stmt y ss) level q (suc i) x h e =
    let n = length (stmt_fields y) in
    let a : 2 * q + 2 * n ≡ 2 * (q + n) = omega arith in
    let z : 2 * (q + n + stmts_before ss i) ≡ 2 * (q + (n + stmts_before ss i)) = omega arith in
    subst (FormedStmt x level) z (stmts-formed ss level (q + n) i x (subst (FormedStmts ss level) a h.1) e)

decls-formed : (ds : Decls) (level s q i : ℕ) (d : Decl) → FormedDecls ds level s (2 * q) → get_elem? (decls ds) i ≡ some d
    → FormedDecl d level s (2 * (q + decls_before ds i))
unfolding FormedBlock decls decls_before
decls-formed no-decl level s q i d h e = none≢some e
decls-formed (decl c ds) level s q zero d h e =
    let z : 2 * q ≡ 2 * (q + 0) = omega arith in
    subst (FormedDecl d level s) z (subst (λ (u : Decl). FormedDecl u level s (2 * q)) (some_inj e) h.0)
decls-formed (decl c ds) level s q (suc i) d h e =
    let n = length (decl_fields c) in
    let a : 2 * q + 2 * n ≡ 2 * (q + n) = omega arith in
    let z : 2 * (q + n + decls_before ds i) ≡ 2 * (q + (n + decls_before ds i)) = omega arith in
    subst (FormedDecl d level s) z (decls-formed ds level s (q + n) i d (subst (FormedDecls ds level s) a h.1) e)

block-stands : (b : Block) (level : ℕ) (fs : List Formal) (here : ℕ) → FormedBlock b level fs here → block_at b ≡ here
unfolding FormedBlock block_at
block-stands (block at ds ss) level fs here h = h.stands

stmt-stands-at : (x : Stmt) (level here : ℕ) → FormedStmt x level here → stmt_at x ≡ here
unfolding FormedBlock stmt_at
stmt-stands-at (BK b) level here h = block-stands b (suc level) [] here h
stmt-stands-at (DO at a) level here h = h.stands

pub stmt-formed : (b : Block) (level : ℕ) (fs : List Formal) (p : ℕ) → FormedBlock b level fs (2 * p) → (i : ℕ) (x : Stmt)
    → get_elem? (block_stmts b) i ≡ some x → FormedStmt x level (2 * (p + before b i))
unfolding FormedBlock block_stmts before
stmt-formed (block at ds ss) level fs p h i x e =
    let n = length (decls_fields ds) in
    let a : 2 * p + 6 + 2 * n ≡ 2 * (p + 3 + n) = omega arith in
    let z : 2 * (p + 3 + n + stmts_before ss i) ≡ 2 * (p + (3 + (n + stmts_before ss i))) = omega arith in
    subst (FormedStmt x level) z (stmts-formed ss level (p + 3 + n) i x (subst (FormedStmts ss level) a h.statements) e)

pub decl-formed : (b : Block) (level : ℕ) (fs : List Formal) (p : ℕ) → FormedBlock b level fs (2 * p)
    → (i at n : ℕ) (gs : List Formal) (body : Block) → get_elem? (block_decls b) i ≡ some (PR at n gs body)
    → FormedBlock body (suc level) gs (2 * (p + before_body b i gs))
unfolding FormedBlock block_decls before_body
decl-formed (block a ds ss) level fs p h i at n gs body e =
    let m = length (formals_fields gs) in
    let k = decls_before ds i in
    let u : 2 * p + 6 ≡ 2 * (p + 3) = omega arith in
    let z : 2 * (p + 3 + k) + 6 + 2 * m ≡ 2 * (p + (3 + (k + (3 + m)))) = omega arith in
    subst (FormedBlock body (suc level) gs) z (decls-formed ds level (length (stmts ss)) (p + 3) i (PR at n gs body) (subst (FormedDecls ds level (length (stmts ss))) u h.declarations) e).body

-- The statement with a number, and the end

pub stmt-place : (b : Block) (i : ℕ) (x : Stmt) → get_elem? (block_stmts b) i ≡ some x → stmt_place b (suc i) ≡ place_of (stmt_at x)
unfolding stmt_place
stmt-place b i x e = rw (e, stmt_place)

pub place-past : (b : Block) (i : ℕ) → length (block_stmts b) ≤ i → stmt_place b (suc i) ≡ end_place b
unfolding stmt_place
place-past b i h = rw (get_elem-none (block_stmts b) i h, stmt_place)

pub end-place : (b : Block) → stmt_place b (suc (length (block_stmts b))) ≡ end_place b
end-place b = place-past b (length (block_stmts b)) (omega arith)

module _ (b : Block) (level : ℕ) (fs : List Formal) (p : ℕ) (formed : FormedBlock b level fs (2 * p)) where
  pub block-at : block_at b ≡ 2 * p
  block-at = block-stands b level fs (2 * p) formed

  pub block-place : place_of (block_at b) ≡ p
  block-place = omega (arith, block-at)

  pub end_is : end_place b ≡ p + length (block_fields b)
  unfolding end_place
  end_is = omega (arith, block-place)

  pub stmt-stands : (i : ℕ) (x : Stmt) → get_elem? (block_stmts b) i ≡ some x → stmt_at x ≡ 2 * (p + before b i)
  stmt-stands i x e = stmt-stands-at x level _ (stmt-formed b level fs p formed i x e)

  pub body-stands : (i at n : ℕ) (gs : List Formal) (body : Block) → get_elem? (block_decls b) i ≡ some (PR at n gs body) → block_at body ≡ 2 * (p + before_body b i gs)
  body-stands i at n gs body e = block-stands body (suc level) gs _ (decl-formed b level fs p formed i at n gs body e)

  -- the place of each statement number
  pub place_is : (i : ℕ) → stmt_place b (suc i) ≡ p + before b i
  place_is i = go (get_elem? (block_stmts b) i) refl
    where
      go : (o : Option Stmt) → get_elem? (block_stmts b) i ≡ o → stmt_place b (suc i) ≡ p + before b i
      go (some x) e = omega (arith, stmt-place b i x e, stmt-stands i x e)
      go none e =
          let h : length (block_stmts b) ≤ i = get_elem-past (block_stmts b) i e in
          omega (arith, place-past b i h, end_is, before-all b i h)

  -- after a statement stands the next one, or the end
  pub next_place : (i : ℕ) (x : Stmt) → get_elem? (block_stmts b) i ≡ some x → stmt_place b (suc (suc i)) ≡ place_of (stmt_at x) + length (stmt_fields x)
  next_place i x e = omega (arith, place_is (suc i), before-next b i x e, stmt-stands i x e)

  -- after a block's text
  pub next-after-block : (i : ℕ) (c : Block) → get_elem? (block_stmts b) i ≡ some (BK c) → stmt_place b (suc (suc i)) ≡ end_place c
  unfolding end_place stmt_at block_fields
  next-after-block i c e = next_place i (BK c) e

  pub place-within : (i : ℕ) → 1 ≤ i → stmt_place b i ≤ end_place b
  place-within zero h = absurd (omega arith)
  place-within (suc i) h = omega (arith, place_is i, end_is, before-within b i)

  -- one statement on is further on
  pub place-rises : (i : ℕ) → 1 ≤ i → i ≤ length (block_stmts b) → stmt_place b i < stmt_place b (suc i)
  place-rises zero h l = absurd (omega arith)
  place-rises (suc i) h l =
      let x = get_elem-in (block_stmts b) i l in
      omega (arith, place_is i, place_is (suc i), before-next b i x.0 x.1, stmt-fields x.0)

  pub stmt-before-end : (i : ℕ) → 1 ≤ i → i ≤ length (block_stmts b) → stmt_place b i < end_place b
  stmt-before-end i h l = omega (arith, place-rises i h l, place-within (suc i) (omega arith))

  -- a statement number's place is the end exactly after the last statement
  pub end-iff : (i : ℕ) → 1 ≤ i → (stmt_place b i ≡ end_place b) ↔ (length (block_stmts b) < i)
  end-iff zero h = absurd (omega arith)
  end-iff (suc i) h = (λ e. there e (ltb i (length (block_stmts b))) refl, λ l. place-past b i (omega arith))
    where
      there : stmt_place b (suc i) ≡ end_place b → (t : Bool) → ltb i (length (block_stmts b)) ≡ t → length (block_stmts b) < suc i
      there e true q = absurd (omega (arith, stmt-before-end (suc i) h (ltb-true i (length (block_stmts b)) q)))
      there e false q = omega (arith, ltb-false i (length (block_stmts b)) q)

-- Enclosed blocks

pub record Placed (t : Block) (e : Enclosing) (es : Enclosure) : Type 0 where
  pub place : ℕ
  pub formed : FormedBlock e.text (suc (length es)) e.formals (2 * place)
  pub within : place + length (block_fields e.text) ≤ length (block_fields t)

block_inside : (b : Block) (i : ℕ) (c : Block) → get_elem? (block_stmts b) i ≡ some (BK c) → (p m : ℕ) → p + length (block_fields b) ≤ m
    → p + before b i + length (block_fields c) ≤ m
unfolding block_fields
block_inside b i c e p m h =
    let n : before b (suc i) ≡ before b i + length (block_fields c) = before-next b i (BK c) e in
    omega (arith, before-within b (suc i))

placed-inner : (t : Block) (o e : Enclosing) (es : Enclosure) → Placed t o es → StandsIn e o.text → Placed t e (o ∷ es)
unfolding FormedBlock
placed-inner t o e es k (as-block i q r) =
    let b = o.text in
    let f = stmt-formed b (suc (length es)) o.formals k.place k.formed i (BK e.text) q in
    record {
      place = k.place + before b i;
      formed = subst (λ (fs : List Formal). FormedBlock e.text (suc (suc (length es))) fs (2 * (k.place + before b i))) (sym r) f;
      within = block_inside b i e.text q k.place (length (block_fields t)) k.within;
    }
placed-inner t o e es k (as-body i at n q) =
    let b = o.text in
    record {
      place = k.place + before_body b i e.formals;
      formed = decl-formed b (suc (length es)) o.formals k.place k.formed i at n e.formals e.text q;
      within = omega (arith, body-within b i at n e.formals e.text q, k.within);
    }

pub enclosed-placed : (t : Block) → Keeps t → (e : Enclosing) (es : Enclosure) → Encloses t (e ∷ es) → Placed t e es
unfolding whole
enclosed-placed t h e [] w =
    subst (λ (x : Enclosing). Placed t x []) (sym w) (record { place = 0; formed = h.formed; within = omega arith })
enclosed-placed t h e (o ∷ es) w = placed-inner t o e es (enclosed-placed t h o es w.1) w.0

-- The laws above, of an enclosed block
module _ (t : Block) (keeps : Keeps t) (e : Enclosing) (es : Enclosure) (within : Encloses t (e ∷ es)) where
  abbrev placed : Placed t e es
  placed = enclosed-placed t keeps e es within

  pub even-block : 2 * place_of (block_at e.text) ≡ block_at e.text
  even-block = omega (arith, block-at e.text (suc (length es)) e.formals placed.place placed.formed)

  pub even-stmt : (i : ℕ) (x : Stmt) → get_elem? (block_stmts e.text) i ≡ some x → 2 * place_of (stmt_at x) ≡ stmt_at x
  even-stmt i x q = omega (arith, stmt-stands e.text (suc (length es)) e.formals placed.place placed.formed i x q)

  pub enclosed-formed : FormedBlock e.text (suc (length es)) e.formals (2 * place_of (block_at e.text))
  enclosed-formed = subst (λ p. FormedBlock e.text (suc (length es)) e.formals (2 * p)) (sym (block-place e.text (suc (length es)) e.formals placed.place placed.formed)) placed.formed

  pub end-bound : end_place e.text ≤ 4096
  unfolding encode
  end-bound =
      omega (arith, end_is e.text (suc (length es)) e.formals placed.place placed.formed, placed.within, keeps.size, length-bytes (block_fields t))

  pub enclosed-next : (i : ℕ) (x : Stmt) → get_elem? (block_stmts e.text) i ≡ some x
      → stmt_place e.text (suc (suc i)) ≡ place_of (stmt_at x) + length (stmt_fields x)
  enclosed-next i x q = next_place e.text (suc (length es)) e.formals placed.place placed.formed i x q

  pub enclosed-after-block : (i : ℕ) (c : Block) → get_elem? (block_stmts e.text) i ≡ some (BK c) → stmt_place e.text (suc (suc i)) ≡ end_place c
  enclosed-after-block i c q = next-after-block e.text (suc (length es)) e.formals placed.place placed.formed i c q

  pub enclosed-before-end : (i : ℕ) → 1 ≤ i → i ≤ length (block_stmts e.text) → stmt_place e.text i < end_place e.text
  enclosed-before-end i l h = stmt-before-end e.text (suc (length es)) e.formals placed.place placed.formed i l h

  pub enclosed-end-iff : (i : ℕ) → 1 ≤ i → (stmt_place e.text i ≡ end_place e.text) ↔ (length (block_stmts e.text) < i)
  enclosed-end-iff i l = end-iff e.text (suc (length es)) e.formals placed.place placed.formed i l

  pub place-bound : (i : ℕ) → 1 ≤ i → stmt_place e.text i ≤ 4096
  place-bound i l = omega (arith, place-within e.text (suc (length es)) e.formals placed.place placed.formed i l, end-bound)

-- The place of a BK settles its block, its formals and what encloses it.
pub place-settled : (t : Block) → Keeps t → (e : Enclosing) (es : Enclosure) → Encloses t (e ∷ es) → (e' : Enclosing) (es' : Enclosure) → Encloses t (e' ∷ es')
    → place_of (block_at e.text) ≡ place_of (block_at e'.text) → ◌≡◌ {A = Enclosure} (e ∷ es) (e' ∷ es')
place-settled t keeps e es h e' es' h' q =
    block_settled t keeps e e' es es' h h' (sym (even-block t keeps e es h) ∙ ap (λ p. 2 * p) q ∙ even-block t keeps e' es' h')
