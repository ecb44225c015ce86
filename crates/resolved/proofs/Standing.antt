-- What stands in an array that holds the resolved script of a text that keeps the rules. `block-covered`: at the place of an enclosed block
-- stands the block's resolved text, so `head-stands`, `bounds-stands` and `looked-up-stands`: its three first words; `stmt-covered`: at the
-- place of a statement stands its resolved text, in the statement's own enclosure; `formals-covered`: before a procedure's body stand its
-- formals, so `formal-kind-stands`: the kind of formal i.
use Prim.Native.Nat.{ℕ, zero, suc, ◌+◌, ◌*◌, ◌-◌, ◌≤◌}
use native.Mathlib.Omega.{arith}
use mathlib.Core.List.{List, [], ◌∷◌, ◌++◌}
use Rattle.std.proofs.Math.Option.{some}
use Rattle.std.specs.Prelude.{◌≡◌}
use Rattle.std.proofs.Common.{sym, ◌∙◌}
use Rattle.std.proofs.Math.Path.{ap, subst}
use Rattle.std.proofs.Math.ListN.{length, get_or, get_elem?}
use Rattle.language.specs.Text.{Formal, Action, Block, block, Decl, PR, Stmt, BK, DO, Decls, no-decl, decl, Stmts, no-stmt, stmt, decls, stmts, block_at, block_decls, block_stmts, stmt_at}
use Rattle.language.specs.Encoding.{kind_field, formals_fields, decl_fields, stmt_fields, decls_fields}
use Rattle.laws.specs.Tests.{none≢some, some_inj}
use Rattle.grammar.specs.Rules.{Keeps}
use Rattle.coordinates.specs.Enclosure.{Enclosing, enclosed, Enclosure, StandsIn, as-block, as-body, whole, Encloses}
use Rattle.resolved.specs.Resolved.{place_of, name_word, head_word, bounds_word, header, resolved_action, resolved_formals, resolved_block, resolved_decl, resolved_stmt, resolved_decls, resolved_stmts, resolved_of, Covers}
use Rattle.resolved.proofs.Lengths.{formals-length, formals-fields, stmt-length, decl-length, decls-length, covers-first, covers-second}
use Rattle.resolved.proofs.Places.{stmts_before, decls_before, before, before_body, block-place, stmt-stands, body-stands, enclosed-formed}

-- words that stand at a place stand at an equal one
moved : (code : List ℕ) (p q : ℕ) (ws : List ℕ) → p ≡ q → Covers code p ws → Covers code q ws
moved code p q ws e h = subst (λ x. Covers code x ws) e h

-- In a block's resolved text

module _ (code : List ℕ) (name : ℕ) where
  stmts-cover : (ss : Stmts) (es : Enclosure) (q i : ℕ) (x : Stmt) → Covers code q (resolved_stmts name ss es) → get_elem? (stmts ss) i ≡ some x
      → Covers code (q + stmts_before ss i) (resolved_stmt name x es)
  unfolding resolved_block stmts stmts_before
  stmts-cover no-stmt es q i x h e = none≢some e
  stmts-cover (stmt y ss) es q zero x h e =
      let z : q ≡ q + 0 = omega arith in
      moved code q (q + 0) (resolved_stmt name x es) z (subst (λ (u : Stmt). Covers code q (resolved_stmt name u es)) (some_inj e) (covers-first code q (resolved_stmt name y es) (resolved_stmts name ss es) h))
  stmts-cover (stmt y ss) es q (suc i) x h e =
      let n = length (stmt_fields y) in
      let a : q + length (resolved_stmt name y es) ≡ q + n = ap (λ k. q + k) (stmt-length name y es) in
      let z : q + n + stmts_before ss i ≡ q + (n + stmts_before ss i) = omega arith in
      moved code _ _ (resolved_stmt name x es) z (stmts-cover ss es (q + n) i x (moved code _ _ (resolved_stmts name ss es) a (covers-second code q (resolved_stmt name y es) (resolved_stmts name ss es) h)) e)

  decls-cover : (ds : Decls) (es : Enclosure) (q i : ℕ) (d : Decl) → Covers code q (resolved_decls name ds es) → get_elem? (decls ds) i ≡ some d
      → Covers code (q + decls_before ds i) (resolved_decl name d es)
  unfolding resolved_block decls decls_before
  decls-cover no-decl es q i d h e = none≢some e
  decls-cover (decl c ds) es q zero d h e =
      let z : q ≡ q + 0 = omega arith in
      moved code q (q + 0) (resolved_decl name d es) z (subst (λ (u : Decl). Covers code q (resolved_decl name u es)) (some_inj e) (covers-first code q (resolved_decl name c es) (resolved_decls name ds es) h))
  decls-cover (decl c ds) es q (suc i) d h e =
      let n = length (decl_fields c) in
      let a : q + length (resolved_decl name c es) ≡ q + n = ap (λ k. q + k) (decl-length name c es) in
      let z : q + n + decls_before ds i ≡ q + (n + decls_before ds i) = omega arith in
      moved code _ _ (resolved_decl name d es) z (decls-cover ds es (q + n) i d (moved code _ _ (resolved_decls name ds es) a (covers-second code q (resolved_decl name c es) (resolved_decls name ds es) h)) e)

  inner-stmt : (b : Block) (fs : List Formal) (es : Enclosure) (p i : ℕ) (x : Stmt) → Covers code p (resolved_block name b fs es)
      → get_elem? (block_stmts b) i ≡ some x → Covers code (p + before b i) (resolved_stmt name x (enclosed fs b ∷ es))
  unfolding resolved_block header block_stmts before
  inner-stmt (block at ds ss) fs es p i x h e =
      let os = enclosed fs (block at ds ss) ∷ es in
      let n = length (decls_fields ds) in
      let a : p + 1 + 1 + 1 + length (resolved_decls name ds os) ≡ p + 3 + n = omega (arith, decls-length name ds os) in
      let z : p + 3 + n + stmts_before ss i ≡ p + (3 + (n + stmts_before ss i)) = omega arith in
      moved code _ _ (resolved_stmt name x os) z (stmts-cover ss os (p + 3 + n) i x (moved code _ _ (resolved_stmts name ss os) a (covers-second code (p + 1 + 1 + 1) (resolved_decls name ds os) (resolved_stmts name ss os) h.1.1.1)) e)

  inner-decl : (b : Block) (fs : List Formal) (es : Enclosure) (p i at n : ℕ) (gs : List Formal) (body : Block)
      → Covers code p (resolved_block name b fs es) → get_elem? (block_decls b) i ≡ some (PR at n gs body)
      → Covers code (p + before_body b i gs - length (formals_fields gs)) (resolved_formals gs ++ resolved_block name body gs (enclosed fs b ∷ es))
  unfolding resolved_block header block_decls before_body
  inner-decl (block a ds ss) fs es p i at n gs body h e =
      let os = enclosed fs (block a ds ss) ∷ es in
      let m = length (formals_fields gs) in
      let k = decls_before ds i in
      let z : p + 1 + 1 + 1 + k + 1 + 1 + 1 ≡ p + (3 + (k + (3 + m))) - m = omega arith in
      let c : Covers code (p + 1 + 1 + 1 + k) (resolved_decl name (PR at n gs body) os) = decls-cover ds os (p + 1 + 1 + 1) i (PR at n gs body) (covers-first code (p + 1 + 1 + 1) (resolved_decls name ds os) (resolved_stmts name ss os) h.1.1.1) e in
      moved code _ _ (resolved_formals gs ++ resolved_block name body gs os) z c.1.1.1

  inner-body : (b : Block) (fs : List Formal) (es : Enclosure) (p i at n : ℕ) (gs : List Formal) (body : Block)
      → Covers code p (resolved_block name b fs es) → get_elem? (block_decls b) i ≡ some (PR at n gs body)
      → Covers code (p + before_body b i gs) (resolved_block name body gs (enclosed fs b ∷ es))
  unfolding before_body
  inner-body (block a ds ss) fs es p i at n gs body h e =
      let b = block a ds ss in
      let z : p + before_body b i gs - length (formals_fields gs) + length (resolved_formals gs) ≡ p + before_body b i gs = omega (arith, formals-length gs) in
      moved code _ _ (resolved_block name body gs (enclosed fs b ∷ es)) z (covers-second code _ (resolved_formals gs) (resolved_block name body gs (enclosed fs b ∷ es)) (inner-decl b fs es p i at n gs body h e))

  headed : (b : Block) (fs : List Formal) (es : Enclosure) (p : ℕ) → Covers code p (resolved_block name b fs es) → Covers code p (header name (enclosed fs b) es)
  unfolding resolved_block
  headed (block at ds ss) fs es p h =
      let e = enclosed fs (block at ds ss) in
      covers-first code p (header name e es) (resolved_decls name ds (e ∷ es) ++ resolved_stmts name ss (e ∷ es)) h

kind-covered : (code : List ℕ) (fs : List Formal) (p k : ℕ) (m : Formal) → Covers code p (resolved_formals fs) → get_elem? fs k ≡ some m
    → get_or code (p + 3 * k + 2) 0 ≡ kind_field m.kind
unfolding resolved_formals
kind-covered code [] p k m h e = none≢some e
kind-covered code (f ∷ fs) p zero m h e =
    let z : p + 3 * 0 + 2 ≡ p + 1 + 1 = omega arith in
    ap (λ q. get_or code q 0) z ∙ h.1.1.0 ∙ ap (λ (x : Formal). kind_field x.kind) (some_inj e)
kind-covered code (f ∷ fs) p (suc k) m h e =
    let z : p + 3 * suc k + 2 ≡ p + 1 + 1 + 1 + 3 * k + 2 = omega arith in
    ap (λ q. get_or code q 0) z ∙ kind-covered code fs (p + 1 + 1 + 1) k m h.1.1.1 e

body-far : (b : Block) (i : ℕ) (fs : List Formal) → length (formals_fields fs) ≤ before_body b i fs
unfolding before_body
body-far (block at ds ss) i fs = omega arith

-- In the script

module _ (code : List ℕ) (name : ℕ) (t : Block) (keeps : Keeps t) (covered : Covers code 0 (resolved_of name t)) where
  -- the place of a block that stands in another
  inside : (o e : Enclosing) (es : Enclosure) → Encloses t (o ∷ es)
      → Covers code (place_of (block_at o.text)) (resolved_block name o.text o.formals es) → StandsIn e o.text
      → Covers code (place_of (block_at e.text)) (resolved_block name e.text e.formals (o ∷ es))
  unfolding resolved_block stmt_at
  inside o e es w h (as-block i q r) =
      let p = place_of (block_at o.text) in
      let s : block_at e.text ≡ 2 * (p + before o.text i) = stmt-stands o.text (suc (length es)) o.formals p (enclosed-formed t keeps o es w) i (BK e.text) q in
      let z : p + before o.text i ≡ place_of (block_at e.text) = omega arith in
      let c : Covers code (p + before o.text i) (resolved_block name e.text [] (o ∷ es)) = inner-stmt code name o.text o.formals es p i (BK e.text) h q in
      subst (λ (fs : List Formal). Covers code (place_of (block_at e.text)) (resolved_block name e.text fs (o ∷ es))) (sym r) (moved code _ _ (resolved_block name e.text [] (o ∷ es)) z c)
  inside o e es w h (as-body i at n q) =
      let p = place_of (block_at o.text) in
      let s : block_at e.text ≡ 2 * (p + before_body o.text i e.formals) = body-stands o.text (suc (length es)) o.formals p (enclosed-formed t keeps o es w) i at n e.formals e.text q in
      let z : p + before_body o.text i e.formals ≡ place_of (block_at e.text) = omega arith in
      moved code _ _ (resolved_block name e.text e.formals (o ∷ es)) z (inner-body code name o.text o.formals es p i at n e.formals e.text h q)

  program : Covers code (place_of (block_at t)) (resolved_block name t [] [])
  unfolding resolved_of
  program = moved code 0 (place_of (block_at t)) (resolved_block name t [] []) (sym (block-place t 1 [] 0 keeps.formed)) covered

  pub block-covered : (e : Enclosing) (es : Enclosure) → Encloses t (e ∷ es)
      → Covers code (place_of (block_at e.text)) (resolved_block name e.text e.formals es)
  unfolding whole
  block-covered e [] w = subst (λ (x : Enclosing). Covers code (place_of (block_at x.text)) (resolved_block name x.text x.formals [])) (sym w) program
  block-covered e (o ∷ es) w = inside o e es w.1 (block-covered o es w.1) w.0

  module _ (e : Enclosing) (es : Enclosure) (within : Encloses t (e ∷ es)) where
    pub stmt-covered : (i : ℕ) (x : Stmt) → get_elem? (block_stmts e.text) i ≡ some x → Covers code (place_of (stmt_at x)) (resolved_stmt name x (e ∷ es))
    stmt-covered i x q =
        let p = place_of (block_at e.text) in
        let s : stmt_at x ≡ 2 * (p + before e.text i) = stmt-stands e.text (suc (length es)) e.formals p (enclosed-formed t keeps e es within) i x q in
        let z : p + before e.text i ≡ place_of (stmt_at x) = omega arith in
        moved code _ _ (resolved_stmt name x (e ∷ es)) z (inner-stmt code name e.text e.formals es p i x (block-covered e es within) q)

    pub action-covered : (i at : ℕ) (a : Action) → get_elem? (block_stmts e.text) i ≡ some (DO at a) → Covers code (place_of at) (resolved_action (e ∷ es) a)
    unfolding stmt_at resolved_block
    action-covered i at a q = stmt-covered i (DO at a) q

    header-covered : Covers code (place_of (block_at e.text)) (header name e es)
    header-covered = headed code name e.text e.formals es (place_of (block_at e.text)) (block-covered e es within)

    pub head-stands : get_or code (place_of (block_at e.text)) 0 ≡ head_word e (suc (length es))
    unfolding header
    head-stands = header-covered.0

    pub bounds-stands : get_or code (place_of (block_at e.text) + 1) 0 ≡ bounds_word e.text
    unfolding header
    bounds-stands = header-covered.1.0

    pub looked-up-stands : get_or code (place_of (block_at e.text) + 2) 0 ≡ name_word (e ∷ es) name
    unfolding header
    looked-up-stands =
        let p = place_of (block_at e.text) in
        let z : p + 2 ≡ p + 1 + 1 = omega arith in
        ap (λ q. get_or code q 0) z ∙ header-covered.1.1.0

    -- a procedure that the block declares: its body's formals
    pub formals-covered : (i at n : ℕ) (gs : List Formal) (body : Block) → get_elem? (block_decls e.text) i ≡ some (PR at n gs body)
        → Covers code (place_of (block_at body) - 3 * length gs) (resolved_formals gs)
    formals-covered i at n gs body q =
        let b = e.text in
        let p = place_of (block_at b) in
        let s : block_at body ≡ 2 * (p + before_body b i gs) = body-stands b (suc (length es)) e.formals p (enclosed-formed t keeps e es within) i at n gs body q in
        let z : p + before_body b i gs - length (formals_fields gs) ≡ place_of (block_at body) - 3 * length gs = omega (arith, formals-fields gs) in
        moved code _ _ (resolved_formals gs) z (covers-first code _ (resolved_formals gs) (resolved_block name body gs (e ∷ es)) (inner-decl code name b e.formals es p i at n gs body (block-covered e es within) q))

    -- formals stand after the declaring PR, so the place is no cut difference
    pub formals-before : (i at n : ℕ) (gs : List Formal) (body : Block) → get_elem? (block_decls e.text) i ≡ some (PR at n gs body)
        → 3 * length gs ≤ place_of (block_at body)
    formals-before i at n gs body q =
        let b = e.text in
        let p = place_of (block_at b) in
        let s : block_at body ≡ 2 * (p + before_body b i gs) = body-stands b (suc (length es)) e.formals p (enclosed-formed t keeps e es within) i at n gs body q in
        omega (arith, body-far b i gs, formals-fields gs)

    pub formal-kind-stands : (i at n : ℕ) (gs : List Formal) (body : Block) → get_elem? (block_decls e.text) i ≡ some (PR at n gs body)
        → (k : ℕ) (m : Formal) → get_elem? gs k ≡ some m
        → get_or code (place_of (block_at body) - 3 * length gs + 3 * k + 2) 0 ≡ kind_field m.kind
    formal-kind-stands i at n gs body q k m r = kind-covered code gs (place_of (block_at body) - 3 * length gs) k m (formals-covered i at n gs body q) r

  -- the same of a body with its formals as an enclosure has it
  pub body-formals : (o e : Enclosing) (es : Enclosure) → Encloses t (e ∷ o ∷ es) → (k : ℕ) (m : Formal) → get_elem? e.formals k ≡ some m
      → get_or code (place_of (block_at e.text) - 3 * length e.formals + 3 * k + 2) 0 ≡ kind_field m.kind
  body-formals o e es w k m q = go w.0
    where
      go : StandsIn e o.text → get_or code (place_of (block_at e.text) - 3 * length e.formals + 3 * k + 2) 0 ≡ kind_field m.kind
      go (as-block i s r) = none≢some (ap (λ (fs : List Formal). get_elem? fs k) (sym r) ∙ q)
      go (as-body i at n s) = formal-kind-stands o es w.1 i at n e.formals e.text s k m q
