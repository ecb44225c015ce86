-- Words for each part of a script, laid out as the script's fields are: as many words as fields, a part's words before those of what stands inside
-- it. What holds of all such words is said here once: there are as many as fields (`block_size`, and so for declarations, statements and formals), and
-- `block-laid`, `stmt-laid`, `decl-laid` say that the words of an enclosed block, of its statements and of its declarations stand at their places in an
-- array that holds the script's words.
use Prim.Native.Nat.{ℕ, zero, suc, ◌+◌, ◌*◌}
use native.Mathlib.Omega.{arith}
use mathlib.Core.List.{List, [], ◌∷◌, ◌++◌}
use Rattle.std.proofs.Math.Option.{some}
use Rattle.std.specs.Prelude.{◌≡◌}
use Rattle.std.proofs.Common.{sym, ◌∙◌, length-append}
use Rattle.std.proofs.Math.Path.{ap, subst}
use Rattle.std.proofs.Math.ListN.{length, get_elem?}
use Rattle.language.specs.Text.{Formal, Action, Block, block, Decl, VR, LB, PR, Stmt, BK, DO, Decls, no-decl, decl, Stmts, no-stmt, stmt, decls, stmts, block_at, block_decls, block_stmts, stmt_at}
use Rattle.language.specs.Encoding.{action_fields, formals_fields, block_fields, decl_fields, stmt_fields, decls_fields, stmts_fields}
use Rattle.laws.specs.Tests.{none≢some, some_inj}
use Rattle.laws.specs.Lists.{lengths-append}
use Rattle.grammar.specs.Rules.{Keeps}
use Rattle.coordinates.specs.Enclosure.{Enclosing, enclosed, Enclosure, StandsIn, as-block, as-body, whole, Encloses}
use Rattle.resolved.specs.Resolved.{place_of, Covers}
use Rattle.resolved.proofs.Lengths.{covers-first, covers-second}
use Rattle.resolved.proofs.Places.{stmts_before, decls_before, before, before_body, block-place, stmt-stands, body-stands, enclosed-formed}

pub record Layout : Type 0 where
  pub of_formals : List Formal → List ℕ
  pub of_block : Block → List Formal → Enclosure → List ℕ
  pub of_decl : Decl → Enclosure → List ℕ
  pub of_stmt : Stmt → Enclosure → List ℕ
  pub of_decls : Decls → Enclosure → List ℕ
  pub of_stmts : Stmts → Enclosure → List ℕ
  -- a block's and a procedure's own words
  pub of_head : Enclosing → Enclosure → List ℕ
  pub of_heading : ℕ → List Formal → Enclosure → List ℕ
  pub no-formals : of_formals [] ≡ []
  pub formals-open : (f : Formal) (fs : List Formal) → of_formals (f ∷ fs) ≡ of_formals (f ∷ []) ++ of_formals fs
  pub block-opens : (at : ℕ) (ds : Decls) (ss : Stmts) (fs : List Formal) (es : Enclosure)
      → of_block (block at ds ss) fs es ≡ of_head (enclosed fs (block at ds ss)) es ++ (of_decls ds (enclosed fs (block at ds ss) ∷ es) ++ of_stmts ss (enclosed fs (block at ds ss) ∷ es))
  pub procedure-opens : (at n : ℕ) (fs : List Formal) (b : Block) (es : Enclosure) → of_decl (PR at n fs b) es ≡ of_heading n fs es ++ (of_formals fs ++ of_block b fs es)
  pub inner_block : (b : Block) (es : Enclosure) → of_stmt (BK b) es ≡ of_block b [] es
  pub no-decls : (es : Enclosure) → of_decls no-decl es ≡ []
  pub decls-open : (d : Decl) (ds : Decls) (es : Enclosure) → of_decls (decl d ds) es ≡ of_decl d es ++ of_decls ds es
  pub no-stmts : (es : Enclosure) → of_stmts no-stmt es ≡ []
  pub stmts-open : (x : Stmt) (ss : Stmts) (es : Enclosure) → of_stmts (stmt x ss) es ≡ of_stmt x es ++ of_stmts ss es
  pub head-size : (e : Enclosing) (es : Enclosure) → length (of_head e es) ≡ 3
  pub heading-size : (n : ℕ) (fs : List Formal) (es : Enclosure) → length (of_heading n fs es) ≡ 3
  pub formal-size : (f : Formal) → length (of_formals (f ∷ [])) ≡ 3
  pub variable-size : (at n : ℕ) (es : Enclosure) → length (of_decl (VR at n) es) ≡ 2
  pub label-size : (at n i : ℕ) (es : Enclosure) → length (of_decl (LB at n i) es) ≡ 3
  pub action-size : (at : ℕ) (a : Action) (es : Enclosure) → length (of_stmt (DO at a) es) ≡ length (action_fields a)

-- As many words as fields

module _ (l : Layout) where
  pub formals-size : (fs : List Formal) → length (l.of_formals fs) ≡ length (formals_fields fs)
  unfolding formals_fields
  formals-size [] = ap length l.no-formals
  formals-size (f ∷ fs) =
      ap length (l.formals-open f fs) ∙ lengths-append (l.of_formals (f ∷ [])) (l.of_formals fs) (formals_fields (f ∷ [])) (formals_fields fs) (l.formal-size f) (formals-size fs)

  mutual
    unfolding block_fields

    pub block_size : (b : Block) (fs : List Formal) (es : Enclosure) → length (l.of_block b fs es) ≡ length (block_fields b)
    block_size (block at ds ss) fs es =
        let e = enclosed fs (block at ds ss) in
        let inner = l.of_decls ds (e ∷ es) ++ l.of_stmts ss (e ∷ es) in
        let many = lengths-append (l.of_decls ds (e ∷ es)) (l.of_stmts ss (e ∷ es)) (decls_fields ds) (stmts_fields ss) (decls-size ds (e ∷ es)) (stmts-size ss (e ∷ es)) in
        ap length (l.block-opens at ds ss fs es) ∙ length-append (l.of_head e es) inner ∙ omega (arith, l.head-size e es)

    pub decl-size : (d : Decl) (es : Enclosure) → length (l.of_decl d es) ≡ length (decl_fields d)
    decl-size (VR at n) es = l.variable-size at n es
    decl-size (LB at n i) es = l.label-size at n i es
    decl-size (PR at n fs b) es =
        let inner = l.of_formals fs ++ l.of_block b fs es in
        let many = lengths-append (l.of_formals fs) (l.of_block b fs es) (formals_fields fs) (block_fields b) (formals-size fs) (block_size b fs es) in
        ap length (l.procedure-opens at n fs b es) ∙ length-append (l.of_heading n fs es) inner ∙ omega (arith, l.heading-size n fs es)

    pub stmt-size : (x : Stmt) (es : Enclosure) → length (l.of_stmt x es) ≡ length (stmt_fields x)
    stmt-size (BK b) es = ap length (l.inner_block b es) ∙ block_size b [] es
    stmt-size (DO at a) es = l.action-size at a es

    pub decls-size : (ds : Decls) (es : Enclosure) → length (l.of_decls ds es) ≡ length (decls_fields ds)
    decls-size no-decl es = ap length (l.no-decls es)
    decls-size (decl d ds) es =
        ap length (l.decls-open d ds es) ∙ lengths-append (l.of_decl d es) (l.of_decls ds es) (decl_fields d) (decls_fields ds) (decl-size d es) (decls-size ds es)

    stmts-size : (ss : Stmts) (es : Enclosure) → length (l.of_stmts ss es) ≡ length (stmts_fields ss)
    stmts-size no-stmt es = ap length (l.no-stmts es)
    stmts-size (stmt x ss) es =
        ap length (l.stmts-open x ss es) ∙ lengths-append (l.of_stmt x es) (l.of_stmts ss es) (stmt_fields x) (stmts_fields ss) (stmt-size x es) (stmts-size ss es)

-- the fields before a declaration, from the block's BK on
unfoldable pub before_decl : Block → ℕ → ℕ
before_decl (block at ds ss) j = 3 + decls_before ds j

-- In a block's words

module _ (l : Layout) (words : List ℕ) where
  moved : (p q : ℕ) (ws : List ℕ) → p ≡ q → Covers words p ws → Covers words q ws
  moved p q ws e h = subst (λ x. Covers words x ws) e h

  -- the first of two lists of words, and the second, where the whole is known by an equation
  first_of : (p : ℕ) (ws xs ys : List ℕ) → ws ≡ xs ++ ys → Covers words p ws → Covers words p xs
  first_of p ws xs ys e h = covers-first words p xs ys (subst (Covers words p) e h)

  second-of : (p n : ℕ) (ws xs ys : List ℕ) → ws ≡ xs ++ ys → length xs ≡ n → Covers words p ws → Covers words (p + n) ys
  second-of p n ws xs ys e k h = moved (p + length xs) (p + n) ys (ap (λ m. p + m) k) (covers-second words p xs ys (subst (Covers words p) e h))

  stmts-lie : (ss : Stmts) (es : Enclosure) (q i : ℕ) (x : Stmt) → Covers words q (l.of_stmts ss es) → get_elem? (stmts ss) i ≡ some x
      → Covers words (q + stmts_before ss i) (l.of_stmt x es)
  unfolding stmts stmts_before
  stmts-lie no-stmt es q i x h e = none≢some e
  stmts-lie (stmt y ss) es q zero x h e =
      let z : q ≡ q + 0 = omega arith in
      moved q (q + 0) (l.of_stmt x es) z (subst (λ (u : Stmt). Covers words q (l.of_stmt u es)) (some_inj e) (first_of q (l.of_stmts (stmt y ss) es) (l.of_stmt y es) (l.of_stmts ss es) (l.stmts-open y ss es) h))
  stmts-lie (stmt y ss) es q (suc i) x h e =
      let n = length (stmt_fields y) in
      let z : q + n + stmts_before ss i ≡ q + (n + stmts_before ss i) = omega arith in
      moved _ _ (l.of_stmt x es) z (stmts-lie ss es (q + n) i x (second-of q n (l.of_stmts (stmt y ss) es) (l.of_stmt y es) (l.of_stmts ss es) (l.stmts-open y ss es) (stmt-size l y es) h) e)

  decls-lie : (ds : Decls) (es : Enclosure) (q i : ℕ) (d : Decl) → Covers words q (l.of_decls ds es) → get_elem? (decls ds) i ≡ some d
      → Covers words (q + decls_before ds i) (l.of_decl d es)
  unfolding decls decls_before
  decls-lie no-decl es q i d h e = none≢some e
  decls-lie (decl c ds) es q zero d h e =
      let z : q ≡ q + 0 = omega arith in
      moved q (q + 0) (l.of_decl d es) z (subst (λ (u : Decl). Covers words q (l.of_decl u es)) (some_inj e) (first_of q (l.of_decls (decl c ds) es) (l.of_decl c es) (l.of_decls ds es) (l.decls-open c ds es) h))
  decls-lie (decl c ds) es q (suc i) d h e =
      let n = length (decl_fields c) in
      let z : q + n + decls_before ds i ≡ q + (n + decls_before ds i) = omega arith in
      moved _ _ (l.of_decl d es) z (decls-lie ds es (q + n) i d (second-of q n (l.of_decls (decl c ds) es) (l.of_decl c es) (l.of_decls ds es) (l.decls-open c ds es) (decl-size l c es) h) e)

  -- after a block's own words
  opened : (at : ℕ) (ds : Decls) (ss : Stmts) (fs : List Formal) (es : Enclosure) (p : ℕ) → Covers words p (l.of_block (block at ds ss) fs es)
      → Covers words (p + 3) (l.of_decls ds (enclosed fs (block at ds ss) ∷ es) ++ l.of_stmts ss (enclosed fs (block at ds ss) ∷ es))
  opened at ds ss fs es p h =
      let e = enclosed fs (block at ds ss) in
      second-of p 3 (l.of_block (block at ds ss) fs es) (l.of_head e es) (l.of_decls ds (e ∷ es) ++ l.of_stmts ss (e ∷ es)) (l.block-opens at ds ss fs es) (l.head-size e es) h

  inner-stmt : (b : Block) (fs : List Formal) (es : Enclosure) (p i : ℕ) (x : Stmt) → Covers words p (l.of_block b fs es)
      → get_elem? (block_stmts b) i ≡ some x → Covers words (p + before b i) (l.of_stmt x (enclosed fs b ∷ es))
  unfolding block_stmts before
  inner-stmt (block at ds ss) fs es p i x h e =
      let os = enclosed fs (block at ds ss) ∷ es in
      let n = length (decls_fields ds) in
      let a : p + 3 + length (l.of_decls ds os) ≡ p + 3 + n = ap (λ m. p + 3 + m) (decls-size l ds os) in
      let z : p + 3 + n + stmts_before ss i ≡ p + (3 + (n + stmts_before ss i)) = omega arith in
      moved _ _ (l.of_stmt x os) z (stmts-lie ss os (p + 3 + n) i x (moved _ _ (l.of_stmts ss os) a (covers-second words (p + 3) (l.of_decls ds os) (l.of_stmts ss os) (opened at ds ss fs es p h))) e)

  inner-decl : (b : Block) (fs : List Formal) (es : Enclosure) (p j : ℕ) (d : Decl) → Covers words p (l.of_block b fs es)
      → get_elem? (block_decls b) j ≡ some d → Covers words (p + before_decl b j) (l.of_decl d (enclosed fs b ∷ es))
  unfolding block_decls before_decl
  inner-decl (block at ds ss) fs es p j d h e =
      let os = enclosed fs (block at ds ss) ∷ es in
      let z : p + 3 + decls_before ds j ≡ p + (3 + decls_before ds j) = omega arith in
      moved _ _ (l.of_decl d os) z (decls-lie ds os (p + 3) j d (covers-first words (p + 3) (l.of_decls ds os) (l.of_stmts ss os) (opened at ds ss fs es p h)) e)

  body-place : (b : Block) (p i : ℕ) (gs : List Formal) → p + before_decl b i + 3 + length (l.of_formals gs) ≡ p + before_body b i gs
  unfolding before_decl before_body
  body-place (block a ds ss) p i gs = omega (arith, formals-size l gs)

  inner-body : (b : Block) (fs : List Formal) (es : Enclosure) (p i at n : ℕ) (gs : List Formal) (body : Block)
      → Covers words p (l.of_block b fs es) → get_elem? (block_decls b) i ≡ some (PR at n gs body)
      → Covers words (p + before_body b i gs) (l.of_block body gs (enclosed fs b ∷ es))
  inner-body b fs es p i at n gs body h e =
      let os = enclosed fs b ∷ es in
      let k = p + before_decl b i in
      let c = second-of k 3 (l.of_decl (PR at n gs body) os) (l.of_heading n gs os) (l.of_formals gs ++ l.of_block body gs os) (l.procedure-opens at n gs body os) (l.heading-size n gs os) (inner-decl b fs es p i (PR at n gs body) h e) in
      moved _ _ (l.of_block body gs os) (body-place b p i gs) (covers-second words (k + 3) (l.of_formals gs) (l.of_block body gs os) c)

-- In the script

module _ (l : Layout) (words : List ℕ) (t : Block) (keeps : Keeps t) (covered : Covers words 0 (l.of_block t [] [])) where
  -- a block that stands in another
  inside : (o e : Enclosing) (es : Enclosure) → Encloses t (o ∷ es)
      → Covers words (place_of (block_at o.text)) (l.of_block o.text o.formals es) → StandsIn e o.text
      → Covers words (place_of (block_at e.text)) (l.of_block e.text e.formals (o ∷ es))
  unfolding stmt_at
  inside o e es w h (as-block i q r) =
      let p = place_of (block_at o.text) in
      let s : block_at e.text ≡ 2 * (p + before o.text i) = stmt-stands o.text (suc (length es)) o.formals p (enclosed-formed t keeps o es w) i (BK e.text) q in
      let z : p + before o.text i ≡ place_of (block_at e.text) = omega arith in
      let c = subst (Covers words (p + before o.text i)) (l.inner_block e.text (o ∷ es)) (inner-stmt l words o.text o.formals es p i (BK e.text) h q) in
      subst (λ (fs : List Formal). Covers words (place_of (block_at e.text)) (l.of_block e.text fs (o ∷ es))) (sym r) (moved l words _ _ (l.of_block e.text [] (o ∷ es)) z c)
  inside o e es w h (as-body i at n q) =
      let p = place_of (block_at o.text) in
      let s : block_at e.text ≡ 2 * (p + before_body o.text i e.formals) = body-stands o.text (suc (length es)) o.formals p (enclosed-formed t keeps o es w) i at n e.formals e.text q in
      let z : p + before_body o.text i e.formals ≡ place_of (block_at e.text) = omega arith in
      moved l words _ _ (l.of_block e.text e.formals (o ∷ es)) z (inner-body l words o.text o.formals es p i at n e.formals e.text h q)

  program : Covers words (place_of (block_at t)) (l.of_block t [] [])
  program = moved l words 0 (place_of (block_at t)) (l.of_block t [] []) (sym (block-place t 1 [] 0 keeps.formed)) covered

  pub block-laid : (e : Enclosing) (es : Enclosure) → Encloses t (e ∷ es)
      → Covers words (place_of (block_at e.text)) (l.of_block e.text e.formals es)
  unfolding whole
  block-laid e [] w = subst (λ (x : Enclosing). Covers words (place_of (block_at x.text)) (l.of_block x.text x.formals [])) (sym w) program
  block-laid e (o ∷ es) w = inside o e es w.1 (block-laid o es w.1) w.0

  module _ (e : Enclosing) (es : Enclosure) (within : Encloses t (e ∷ es)) where
    pub stmt-laid : (i : ℕ) (x : Stmt) → get_elem? (block_stmts e.text) i ≡ some x → Covers words (place_of (stmt_at x)) (l.of_stmt x (e ∷ es))
    stmt-laid i x q =
        let p = place_of (block_at e.text) in
        let s : stmt_at x ≡ 2 * (p + before e.text i) = stmt-stands e.text (suc (length es)) e.formals p (enclosed-formed t keeps e es within) i x q in
        let z : p + before e.text i ≡ place_of (stmt_at x) = omega arith in
        moved l words _ _ (l.of_stmt x (e ∷ es)) z (inner-stmt l words e.text e.formals es p i x (block-laid e es within) q)

    pub decl-laid : (j : ℕ) (d : Decl) → get_elem? (block_decls e.text) j ≡ some d
        → Covers words (place_of (block_at e.text) + before_decl e.text j) (l.of_decl d (e ∷ es))
    decl-laid j d q = inner-decl l words e.text e.formals es (place_of (block_at e.text)) j d (block-laid e es within) q
