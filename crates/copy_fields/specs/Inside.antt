-- What each field inside an enclosed block holds (`named-inside`): no name, so that its word has level 0, or a name, whose word is that of the
-- name in an enclosure that ends with the block's.
use Rattle.std.specs.Prelude.{ℕ, zero, suc, ◌+◌, ◌*◌, ◌-◌, ◌≤◌, ◌<◌, ◌⊎◌, ◌≡◌, refl, length, get_or}
use Rattle.std.proofs.Common.{arith, not-suc-le-zero, le_of_suc-le-suc, inl, inr, sym, ap, subst}
use mathlib.Core.List.{List, [], ◌∷◌, ◌++◌, map}
use Rattle.language.specs.Text.{Formal, Action, CL, GO, IF, KN, AR, AD, RM, QY, Block, block, Decl, VR, LB, PR, Stmt, BK, DO, Decls, no-decl, decl, Stmts, no-stmt, stmt, block_at, stmts}
use Rattle.language.specs.Encoding.{action_fields, formals_fields, block_fields, decl_fields, stmt_fields, decls_fields, stmts_fields}
use Rattle.laws.specs.Each.{Each}
use Rattle.grammar.specs.Rules.{Name, FormedAction, FormedBlock, FormedDecl, FormedStmt, FormedDecls, FormedStmts, Keeps}
use Rattle.coordinates.specs.Enclosure.{Enclosing, enclosed, Enclosure, Encloses}
use Rattle.resolved.specs.Resolved.{place_of, end_place, level_in, name_word, Covers}
use Rattle.resolved.proofs.Lengths.{covers_at}
use Rattle.resolved.proofs.Places.{enclosed-formed}
use Rattle.resolved.proofs.NameWords.{Narrow, narrow-of-text, narrow-inner}
use Rattle.resolve_fields.specs.Walk.{formals_words, block_words, decl_words, stmt_words, decls_words, stmts_words}
use Rattle.copy_fields.specs.NameFields.{named_action, name_words, named_of}
use Rattle.copy_fields.specs.Lengths.{block-length}
use Rattle.copy_fields.specs.Standing.{block-fields-stand, block-fields-named}

-- a word w and a field n
abbrev pub Named : Enclosure → ℕ → ℕ → Type 0
Named os w n = (level_in w ≡ 0) ⊎ ((inner : Enclosure) × (w ≡ name_word (inner ++ os) n) × (n < 65536) × Narrow (inner ++ os))

-- words and fields side by side
abbrev AllNamed : Enclosure → List ℕ → List ℕ → Type 0
AllNamed os [] [] = Unit {0}
AllNamed os [] (n ∷ ns) = ⊥
AllNamed os (w ∷ ws) [] = ⊥
AllNamed os (w ∷ ws) (n ∷ ns) = Named os w n × AllNamed os ws ns

module _ (os : Enclosure) where
  named-append : (ws vs ns ms : List ℕ) → AllNamed os ws ns → AllNamed os vs ms → AllNamed os (ws ++ vs) (ns ++ ms)
  named-append [] vs [] ms h k = k
  named-append [] vs (n ∷ ns) ms h k = absurd h
  named-append (w ∷ ws) vs [] ms h k = absurd h
  named-append (w ∷ ws) vs (n ∷ ns) ms h k = (h.0, named-append ws vs ns ms h.1 k)

  named-at : (ws ns : List ℕ) → AllNamed os ws ns → (i : ℕ) → i < length ws → Named os (get_or ws i 0) (get_or ns i 0)
  named-at [] ns h i l = absurd (not-suc-le-zero l)
  named-at (w ∷ ws) [] h i l = absurd h
  named-at (w ∷ ws) (n ∷ ns) h zero l = h.0
  named-at (w ∷ ws) (n ∷ ns) h (suc i) l = named-at ws ns h.1 i (le_of_suc-le-suc l)

  nameless : (n : ℕ) → Named os 0 n
  nameless n = inl refl

  module _ (inner : Enclosure) (narrow : Narrow (inner ++ os)) where
    a-name : (n : ℕ) → Name n → Named os (name_word (inner ++ os) n) n
    a-name n h = inr (inner, refl, h, narrow)

    names-named : (ns : List ℕ) → Each Name ns → AllNamed os (map (name_word (inner ++ os)) ns) ns
    names-named [] h = tt
    names-named (n ∷ ns) h = (a-name n h.0, names-named ns h.1)

    action-named : (a : Action) → FormedAction a → AllNamed os (named_action (inner ++ os) a) (action_fields a)
    unfolding named_action action_fields FormedAction
    action-named (CL p xs) h = (nameless _, (a-name p h.called, (nameless _, names-named xs h.arguments)))
    action-named (GO l) h = (nameless _, (a-name l h, tt))
    action-named (IF v l) h = (nameless _, (a-name v h.0, (a-name l h.1, tt)))
    action-named (KN t z) h = (nameless _, (a-name t h.target, (nameless _, (nameless _, tt))))
    action-named (AR t o l r) h = (nameless _, (a-name t h.0, (nameless _, (a-name l h.1, (a-name r h.2, tt)))))
    action-named (AD g m) h = (nameless _, (a-name g h.0, (a-name m h.1, tt)))
    action-named (RM g m) h = (nameless _, (a-name g h.0, (a-name m h.1, tt)))
    action-named (QY t g m) h = (nameless _, (a-name t h.0, (a-name g h.1, (a-name m h.2, tt))))

  formals-named : (fs : List Formal) → AllNamed os (formals_words fs) (formals_fields fs)
  unfolding formals_words formals_fields
  formals-named [] = tt
  formals-named (f ∷ fs) = (nameless _, (nameless _, (nameless _, formals-named fs)))

  mutual
    unfolding block_words block_fields FormedBlock

    inner-named : (b : Block) (fs : List Formal) (inner : Enclosure) (level here : ℕ) → Narrow (inner ++ os) → length (inner ++ os) ≡ level → FormedBlock b (suc level) fs here
        → AllNamed os (block_words name_words b fs (inner ++ os)) (block_fields b)
    inner-named (block at ds ss) fs inner level here narrow deep h =
        let more = enclosed fs (block at ds ss) ∷ inner in
        let deeper : length (more ++ os) ≡ suc level = ap suc deep in
        let more-narrow = narrow-inner (block at ds ss) fs (inner ++ os) here narrow (subst (λ (k : ℕ). FormedBlock (block at ds ss) (suc k) fs here) (sym deep) h) in
        let d = decls-named ds more (suc level) (length (stmts ss)) (here + 6) more-narrow deeper h.declarations in
        let s = stmts-named ss more (suc level) (here + 6 + 2 * length (decls_fields ds)) more-narrow deeper h.statements in
        (nameless _, (nameless _, (nameless _, named-append (decls_words name_words ds (more ++ os)) (stmts_words name_words ss (more ++ os)) (decls_fields ds) (stmts_fields ss) d s)))

    decl-named : (d : Decl) (inner : Enclosure) (level s here : ℕ) → Narrow (inner ++ os) → length (inner ++ os) ≡ level → FormedDecl d level s here → AllNamed os (decl_words name_words d (inner ++ os)) (decl_fields d)
    decl-named (VR at n) inner level s here narrow deep h = (nameless _, (a-name inner narrow n h.name, tt))
    decl-named (LB at n i) inner level s here narrow deep h = (nameless _, (a-name inner narrow n h.name, (nameless _, tt)))
    decl-named (PR at n fs b) inner level s here narrow deep h =
        (nameless _, (a-name inner narrow n h.name, (nameless _, named-append (formals_words fs) (block_words name_words b fs (inner ++ os)) (formals_fields fs) (block_fields b) (formals-named fs) (inner-named b fs inner level (here + 6 + 2 * length (formals_fields fs)) narrow deep h.body))))

    stmt-named : (x : Stmt) (inner : Enclosure) (level here : ℕ) → Narrow (inner ++ os) → length (inner ++ os) ≡ level → FormedStmt x level here → AllNamed os (stmt_words name_words x (inner ++ os)) (stmt_fields x)
    stmt-named (BK b) inner level here narrow deep h = inner-named b [] inner level here narrow deep h
    stmt-named (DO at a) inner level here narrow deep h = action-named inner narrow a h.action

    decls-named : (ds : Decls) (inner : Enclosure) (level s here : ℕ) → Narrow (inner ++ os) → length (inner ++ os) ≡ level → FormedDecls ds level s here → AllNamed os (decls_words name_words ds (inner ++ os)) (decls_fields ds)
    decls-named no-decl inner level s here narrow deep h = tt
    decls-named (decl d ds) inner level s here narrow deep h =
        named-append (decl_words name_words d (inner ++ os)) (decls_words name_words ds (inner ++ os)) (decl_fields d) (decls_fields ds) (decl-named d inner level s here narrow deep h.0) (decls-named ds inner level s (here + 2 * length (decl_fields d)) narrow deep h.1)

    stmts-named : (ss : Stmts) (inner : Enclosure) (level here : ℕ) → Narrow (inner ++ os) → length (inner ++ os) ≡ level → FormedStmts ss level here → AllNamed os (stmts_words name_words ss (inner ++ os)) (stmts_fields ss)
    stmts-named no-stmt inner level here narrow deep h = tt
    stmts-named (stmt x ss) inner level here narrow deep h =
        named-append (stmt_words name_words x (inner ++ os)) (stmts_words name_words ss (inner ++ os)) (stmt_fields x) (stmts_fields ss) (stmt-named x inner level here narrow deep h.0) (stmts-named ss inner level (here + 2 * length (stmt_fields x)) narrow deep h.1)

block-named : (b : Block) (fs : List Formal) (es : Enclosure) (here : ℕ) → Narrow (enclosed fs b ∷ es) → FormedBlock b (suc (length es)) fs here
    → AllNamed (enclosed fs b ∷ es) (block_words name_words b fs es) (block_fields b)
unfolding block_words block_fields FormedBlock
block-named (block at ds ss) fs es here narrow h =
    let os = enclosed fs (block at ds ss) ∷ es in
    let d = decls-named os ds [] (suc (length es)) (length (stmts ss)) (here + 6) narrow refl h.declarations in
    let s = stmts-named os ss [] (suc (length es)) (here + 6 + 2 * length (decls_fields ds)) narrow refl h.statements in
    (nameless os _, (nameless os _, (nameless os _, named-append os (decls_words name_words ds os) (stmts_words name_words ss os) (decls_fields ds) (stmts_fields ss) d s)))

pub named-inside : (names : List ℕ) (t : Block) → Keeps t → Covers names 0 (named_of t) → (e : Enclosing) (es : Enclosure) → Encloses t (e ∷ es)
    → (q : ℕ) → place_of (block_at e.text) ≤ q → q < end_place e.text → Named (e ∷ es) (get_or names q 0) (get_or (block_fields t) q 0)
unfolding end_place
named-inside names t keeps covered e es within q low high =
    let b = e.text in
    let p = place_of (block_at b) in
    let i = q - p in
    let z : p + i ≡ q = omega arith in
    let many = block-length b e.formals es in
    let word : get_or names (p + i) 0 ≡ get_or (block_words name_words b e.formals es) i 0 = covers_at names p (block_words name_words b e.formals es) (block-fields-named names t keeps covered e es within) i (omega arith) in
    let field : get_or (block_fields t) (p + i) 0 ≡ get_or (block_fields b) i 0 = covers_at (block_fields t) p (block_fields b) (block-fields-stand t keeps e es within) i (omega arith) in
    let h : Named (e ∷ es) (get_or (block_words name_words b e.formals es) i 0) (get_or (block_fields b) i 0) =
    named-at (e ∷ es) (block_words name_words b e.formals es) (block_fields b) (block-named b e.formals es (2 * p) (narrow-of-text t keeps (e ∷ es) within) (enclosed-formed t keeps e es within)) i (omega arith) in
    subst (λ k. Named (e ∷ es) (get_or names k 0) (get_or (block_fields t) k 0)) z (subst (λ (c : ℕ × ℕ). Named (e ∷ es) c.0 c.1) (λ j. (sym word j, sym field j)) h)
