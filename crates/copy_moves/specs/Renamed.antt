-- The fields of a renamed text. `Replaces es τ σs`: in text with the blocks es around it, τ puts for each name what an activation with the parts σs
-- reads it as, by the name's word there. Going into an inner block keeps this (`replaces-inner`). So the fields of a block renamed by τ are its own
-- fields, each read by the word of the name in it: `block_read`.
use Rattle.std.specs.Prelude.{ℕ, suc, ◌+◌, ◌*◌, ◌≤◌, true, ◌≡◌, eqb, length}
use Rattle.std.proofs.Common.{arith, sym, ap, ap₂, ◌∙◌}
use mathlib.Core.List.{List, [], ◌∷◌, ◌++◌, map}
use Rattle.std.proofs.Math.Option.{none, some}
use Rattle.std.proofs.Math.Path.{refl}
use Rattle.std.proofs.lemmas.List.{length-map}
use Rattle.language.specs.Basics.{among, zip}
use Rattle.language.specs.Text.{Formal, Action, CL, GO, IF, KN, AR, AD, RM, QY, Block, block, Decl, VR, LB, PR, Stmt, BK, DO, Decls, no-decl, decl, Stmts, no-stmt, stmt, stmts, formal_names}
use Rattle.language.specs.Encoding.{action_fields, formals_fields, block_fields, decl_fields, stmt_fields, decls_fields, stmts_fields}
use Rattle.language.specs.Copy.{Replacement, renamed, without, rename_action, rename_block, rename_decl, rename_stmt, rename_decls, rename_stmts}
use Rattle.laws.specs.Tests.{split, by-lookup, none≢some}
use Rattle.laws.specs.Lookup.{among-here, among_later, lookup-right}
use Rattle.laws.specs.Renaming.{renamed-own, renamed-other, decls-length, stmts-length}
use Rattle.grammar.specs.Rules.{FormedBlock, FormedDecl, FormedStmt, FormedDecls, FormedStmts}
use Rattle.frames.specs.Frame.{position_from}
use Rattle.frames.specs.Positions.{position-miss, position-none}
use Rattle.coordinates.specs.Enclosure.{Enclosing, enclosed, Enclosure, Coordinate, names_of}
use Rattle.coordinates.proofs.Search.{coordinate-here}
use Rattle.coordinates.proofs.Declared.{level-here}
use Rattle.resolved.specs.Resolved.{visible_words, name_word}
use Rattle.resolved.proofs.NameWords.{Narrow, narrow-inner, name-is}
use Rattle.resolve_fields.specs.Walk.{formals_words, block_words, decl_words, stmt_words, decls_words, stmts_words}
use Rattle.copy_fields.specs.NameFields.{named_action, name_words}
use Rattle.copy_fields.specs.Lengths as lengths
use Rattle.copy_texts.specs.Texts.{reading}
use Rattle.copy_texts.specs.Readings.{zip-missing}
use Rattle.copy_texts.specs.Renewing.{reading-plain, reading-above}

-- fields, each read by the word beside it
abbrev pub readings : List Replacement → List ℕ → List ℕ → List ℕ
readings σs [] ns = []
readings σs (w ∷ ws) [] = []
readings σs (w ∷ ws) (n ∷ ns) = reading σs w n ∷ readings σs ws ns

-- no part belongs to a block further in
pub record Replaces (es : Enclosure) (τ : Replacement) (σs : List Replacement) : Type 0 where
  pub narrow : Narrow es
  pub shallow : length σs ≤ length es
  pub same : (n : ℕ) → renamed τ n ≡ reading σs (name_word es n) n

-- Into an inner block

position-among : (n i : ℕ) (xs : List ℕ) (p : ℕ) → position_from n i xs ≡ some p → among n xs ≡ true
unfolding position_from
position-among n i [] p q = none≢some q
position-among n i (x ∷ xs) p q =
    split (eqb n x) (λ t. among-here n x xs t) (λ t. among_later n x xs (position-among n (suc i) xs p (sym (position-miss n i x xs t) ∙ q)))

word-further : (e : Enclosing) (es : Enclosure) (n : ℕ) → position_from n 1 (names_of e) ≡ none → name_word (e ∷ es) n ≡ name_word es n
unfolding name_word visible_words
word-further e es n q = rw (lookup-right n (zip (names_of e) _) (visible_words es) (zip-missing n 1 (names_of e) _ q), name_word)

-- the names of the block stay as they are, since its level is above all parts', and all others are as they were
pub replaces-inner : (b : Block) (fs : List Formal) (es : Enclosure) (here : ℕ) → FormedBlock b (suc (length es)) fs here
    → (τ : Replacement) (σs : List Replacement) → Replaces es τ σs → Replaces (enclosed fs b ∷ es) (without (names_of (enclosed fs b)) τ) σs
replaces-inner b fs es here h τ σs r = record { narrow = narrow; shallow = omega (arith, r.shallow); same = same }
  where
    e : Enclosing
    e = enclosed fs b

    narrow : Narrow (e ∷ es)
    narrow = narrow-inner b fs es here r.narrow h

    same : (n : ℕ) → renamed (without (names_of e) τ) n ≡ reading σs (name_word (e ∷ es) n) n
    same n =
        by-lookup (position_from n 1 (names_of e))
        (λ q. renamed-other n (names_of e) τ (position-none n 1 (names_of e) q) ∙ r.same n ∙ ap (λ w. reading σs w n) (sym (word-further e es n q)))
        (λ p q.
        let c : Coordinate = record { level = suc (length es); position = p } in
        let says = name-is (e ∷ es) narrow n c (coordinate-here e es n p q) e (level-here e es) in
        renamed-own n (names_of e) τ (position-among n 1 (names_of e) p q)
        ∙ sym (reading-above σs (name_word (e ∷ es) n) n (omega (arith, says.level, r.shallow))))

-- The fields

module _ (σs : List Replacement) where
  readings-append : (ws vs ns ms : List ℕ) → length ws ≡ length ns → readings σs (ws ++ vs) (ns ++ ms) ≡ readings σs ws ns ++ readings σs vs ms
  readings-append [] vs [] ms l = refl
  readings-append [] vs (n ∷ ns) ms l = absurd (omega arith)
  readings-append (w ∷ ws) vs [] ms l = absurd (omega arith)
  readings-append (w ∷ ws) vs (n ∷ ns) ms l = ap (reading σs w n ∷◌) (readings-append ws vs ns ms (omega arith))

  -- two parts of a text one after the other
  two-parts : (xs ys ws vs ns ms : List ℕ) → length ws ≡ length ns → xs ≡ readings σs ws ns → ys ≡ readings σs vs ms
      → xs ++ ys ≡ readings σs (ws ++ vs) (ns ++ ms)
  two-parts xs ys ws vs ns ms l p q = ap₂ ◌++◌ p q ∙ sym (readings-append ws vs ns ms l)

  -- a field with no name, and one with a name
  plain : (n : ℕ) (xs ys : List ℕ) → xs ≡ ys → n ∷ xs ≡ reading σs 0 n ∷ ys
  plain n xs ys q = ap₂ {C = List ℕ} ◌∷◌ (sym (reading-plain σs 0 n refl)) q

  module _ (es : Enclosure) (τ : Replacement) (r : Replaces es τ σs) where
    named : (n : ℕ) (xs ys : List ℕ) → xs ≡ ys → renamed τ n ∷ xs ≡ reading σs (name_word es n) n ∷ ys
    named n xs ys q = ap₂ {C = List ℕ} ◌∷◌ (r.same n) q

    names-read : (xs : List ℕ) → map (renamed τ) xs ≡ readings σs (map (name_word es) xs) xs
    names-read [] = refl
    names-read (x ∷ xs) = named x _ _ (names-read xs)

    action-read : (a : Action) → action_fields (rename_action τ a) ≡ readings σs (named_action es a) (action_fields a)
    unfolding action_fields rename_action named_action
    action-read (CL p xs) = plain _ _ _ (named p _ _ (ap (◌∷ map (renamed τ) xs) (length-map xs (renamed τ)) ∙ plain (length xs) _ _ (names-read xs)))
    action-read (GO l) = plain _ _ _ (named l _ _ refl)
    action-read (IF v l) = plain _ _ _ (named v _ _ (named l _ _ refl))
    action-read (KN t z) = plain _ _ _ (named t _ _ (plain _ _ _ (plain _ _ _ refl)))
    action-read (AR t o l r) = plain _ _ _ (named t _ _ (plain _ _ _ (named l _ _ (named r _ _ refl))))
    action-read (AD g m) = plain _ _ _ (named g _ _ (named m _ _ refl))
    action-read (RM g m) = plain _ _ _ (named g _ _ (named m _ _ refl))
    action-read (QY t g m) = plain _ _ _ (named t _ _ (named g _ _ (named m _ _ refl)))

  formals-read : (fs : List Formal) → formals_fields fs ≡ readings σs (formals_words fs) (formals_fields fs)
  unfolding formals_fields formals_words
  formals-read [] = refl
  formals-read (f ∷ fs) = plain _ _ _ (plain _ _ _ (plain _ _ _ (formals-read fs)))

  mutual
    unfolding block_fields block_words rename_block FormedBlock names_of formal_names

    pub block_read : (b : Block) (fs : List Formal) (es : Enclosure) (τ : Replacement) (here : ℕ) → FormedBlock b (suc (length es)) fs here
        → Replaces (enclosed fs b ∷ es) τ σs → block_fields (rename_block b τ) ≡ readings σs (block_words name_words b fs es) (block_fields b)
    block_read (block at ds ss) fs es τ here h r =
        let os = enclosed fs (block at ds ss) ∷ es in
        let d = decls-read ds os τ (length (stmts ss)) (here + 6) h.declarations r in
        let s = stmts-read ss os τ (here + 6 + 2 * length (decls_fields ds)) h.statements r in
        plain _ _ _ (ap₂ (λ k l. k ∷ l ∷ (decls_fields (rename_decls ds τ) ++ stmts_fields (rename_stmts ss τ))) (decls-length ds τ) (stmts-length ss τ)
        ∙ plain _ _ _ (plain _ _ _ (two-parts _ _ (decls_words name_words ds os) (stmts_words name_words ss os) (decls_fields ds) (stmts_fields ss) (lengths.decls-length ds os) d s)))

    decl-read : (d : Decl) (es : Enclosure) (τ : Replacement) (s here : ℕ) → FormedDecl d (length es) s here → Replaces es τ σs
        → decl_fields (rename_decl d τ) ≡ readings σs (decl_words name_words d es) (decl_fields d)
    decl-read (VR at n) es τ s here h r = plain _ _ _ (named es τ r n _ _ refl)
    decl-read (LB at n i) es τ s here h r = plain _ _ _ (named es τ r n _ _ (plain _ _ _ refl))
    decl-read (PR at n fs b) es τ s here h r =
        let there = here + 6 + 2 * length (formals_fields fs) in
        let body = block_read b fs es (without (names_of (enclosed fs b)) τ) there h.body (replaces-inner b fs es there h.body τ σs r) in
        plain _ _ _ (named es τ r n _ _ (plain _ _ _
        (two-parts _ _ (formals_words fs) (block_words name_words b fs es) (formals_fields fs) (block_fields b) (lengths.formals-length fs) (formals-read fs) body)))

    stmt-read : (x : Stmt) (es : Enclosure) (τ : Replacement) (here : ℕ) → FormedStmt x (length es) here → Replaces es τ σs
        → stmt_fields (rename_stmt x τ) ≡ readings σs (stmt_words name_words x es) (stmt_fields x)
    stmt-read (BK b) es τ here h r = block_read b [] es (without (names_of (enclosed [] b)) τ) here h (replaces-inner b [] es here h τ σs r)
    stmt-read (DO at a) es τ here h r = action-read es τ r a

    decls-read : (ds : Decls) (es : Enclosure) (τ : Replacement) (s here : ℕ) → FormedDecls ds (length es) s here → Replaces es τ σs
        → decls_fields (rename_decls ds τ) ≡ readings σs (decls_words name_words ds es) (decls_fields ds)
    decls-read no-decl es τ s here h r = refl
    decls-read (decl d ds) es τ s here h r =
        two-parts _ _ (decl_words name_words d es) (decls_words name_words ds es) (decl_fields d) (decls_fields ds) (lengths.decl-length d es)
        (decl-read d es τ s here h.0 r) (decls-read ds es τ s (here + 2 * length (decl_fields d)) h.1 r)

    stmts-read : (ss : Stmts) (es : Enclosure) (τ : Replacement) (here : ℕ) → FormedStmts ss (length es) here → Replaces es τ σs
        → stmts_fields (rename_stmts ss τ) ≡ readings σs (stmts_words name_words ss es) (stmts_fields ss)
    stmts-read no-stmt es τ here h r = refl
    stmts-read (stmt x ss) es τ here h r =
        two-parts _ _ (stmt_words name_words x es) (stmts_words name_words ss es) (stmt_fields x) (stmts_fields ss) (lengths.stmt-length x es)
        (stmt-read x es τ here h.0 r) (stmts-read ss es τ (here + 2 * length (stmt_fields x)) h.1 r)
