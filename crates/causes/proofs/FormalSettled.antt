-- An offset settles what stands there: `sees-once`, in a script that keeps the rules at most one action is at an offset, and it sees one scope. For what an
-- action sees is the scope of the blocks around it (`sees-stands`, the other way round from `stands-sees`), and these are settled by the offset (`Index`).
use Rattle.std.specs.Prelude.{ℕ, suc, ◌≡◌}
use mathlib.Core.List.{List, [], ◌∷◌}
use Rattle.std.proofs.Common.{inl, inr, ap, ◌∙◌, subst}
use Rattle.std.proofs.Math.Option.{some}
use Rattle.std.proofs.Math.Path.{refl, sym}
use Rattle.std.proofs.Math.ListN.{get_elem?}
use Rattle.language.specs.Text.{Formal, Action, Block, block, Decl, VR, LB, PR, Stmt, BK, DO, Decls, no-decl, decl, Stmts, no-stmt, stmt, decls, stmts, block_decls, block_stmts}
use Rattle.language.specs.Scope.{Scope, inside}
use Rattle.grammar.specs.Rules.{Keeps}
use Rattle.coordinates.specs.Enclosure.{Enclosing, enclosed, Enclosure, as-block, as-body, whole, Encloses}
use Rattle.coordinates.proofs.Index.{action-settled}
use Rattle.coordinates.proofs.Visible.{scope_of}
use Rattle.causes.specs.Sites.{Sees, SeesDecl, SeesStmt, SeesDecls, SeesStmts}
use Rattle.causes.specs.FormalSites.{StandsAmong}
use Rattle.causes.proofs.FormalSites.{inside-meanings}

module _ (t : Block) (o : ℕ) (a : Action) (sc : Scope) where
  pub record Around : Type 0 where
    pub blocks : Enclosure
    pub stands : StandsAmong t blocks o a
    pub visible : scope_of blocks ≡ sc

  -- these declarations, or statements, are some of a block's
  abbrev DeclsOf : Decls → Block → Type 0
  DeclsOf ds b = (i : ℕ) (d : Decl) → get_elem? (decls ds) i ≡ some d → (j : ℕ) × (get_elem? (block_decls b) j ≡ some d)

  abbrev StmtsOf : Stmts → Block → Type 0
  StmtsOf ss b = (i : ℕ) (x : Stmt) → get_elem? (stmts ss) i ≡ some x → (j : ℕ) × (get_elem? (block_stmts b) j ≡ some x)

  inside-scope : (fs : List Formal) (at : ℕ) (ds : Decls) (ss : Stmts) (es : Enclosure) → inside fs ds (scope_of es) ≡ scope_of (enclosed fs (block at ds ss) ∷ es)
  unfolding scope_of
  inside-scope fs at ds ss es = sym (inside-meanings fs at ds ss (scope_of es))

  mutual
    unfolding Sees decls stmts block_decls block_stmts

    from_block : (b : Block) (fs : List Formal) (es : Enclosure) → Encloses t (enclosed fs b ∷ es) → Sees b fs (scope_of es) o a sc → Around
    from_block (block at ds ss) fs es w (inl h) =
        from-decls ds (enclosed fs (block at ds ss)) es w (λ i d q. (i, q)) (subst (λ (s : Scope). SeesDecls ds s o a sc) (inside-scope fs at ds ss es) h)
    from_block (block at ds ss) fs es w (inr h) =
        from-stmts ss (enclosed fs (block at ds ss)) es w (λ i x q. (i, q)) (subst (λ (s : Scope). SeesStmts ss s o a sc) (inside-scope fs at ds ss es) h)

    from-decls : (ds : Decls) (e : Enclosing) (es : Enclosure) → Encloses t (e ∷ es) → DeclsOf ds e.text → SeesDecls ds (scope_of (e ∷ es)) o a sc → Around
    from-decls no-decl e es w of h = absurd h
    from-decls (decl d ds) e es w of (inl h) = from-decl d e es w (of 0 d refl).0 (of 0 d refl).1 h
    from-decls (decl d ds) e es w of (inr h) = from-decls ds e es w (λ i x q. of (suc i) x q) h

    from-decl : (d : Decl) (e : Enclosing) (es : Enclosure) → Encloses t (e ∷ es) → (j : ℕ) → get_elem? (block_decls e.text) j ≡ some d → SeesDecl d (scope_of (e ∷ es)) o a sc → Around
    from-decl (VR at n) e es w j q h = absurd h
    from-decl (LB at n i) e es w j q h = absurd h
    from-decl (PR at n fs b) e es w j q h = from_block b fs (e ∷ es) (as-body j at n q, w) h

    from-stmts : (ss : Stmts) (e : Enclosing) (es : Enclosure) → Encloses t (e ∷ es) → StmtsOf ss e.text → SeesStmts ss (scope_of (e ∷ es)) o a sc → Around
    from-stmts no-stmt e es w of h = absurd h
    from-stmts (stmt x ss) e es w of (inl h) = from-stmt x e es w (of 0 x refl).0 (of 0 x refl).1 h
    from-stmts (stmt x ss) e es w of (inr h) = from-stmts ss e es w (λ i y q. of (suc i) y q) h

    from-stmt : (x : Stmt) (e : Enclosing) (es : Enclosure) → Encloses t (e ∷ es) → (j : ℕ) → get_elem? (block_stmts e.text) j ≡ some x → SeesStmt x (scope_of (e ∷ es)) o a sc → Around
    from-stmt (BK b) e es w j q h = from_block b [] (e ∷ es) (as-block j q refl, w) h
    from-stmt (DO at x) e es w j q h = record { blocks = e ∷ es; stands = (w, j, q ∙ (λ i. some (DO (h.stands i) (h.does i)))); visible = h.visible }

  pub sees-stands : Sees t [] [] o a sc → Around
  unfolding whole scope_of
  sees-stands h = from_block t [] [] refl h

stands-once : (t : Block) → Keeps t → (o : ℕ) (a b : Action) (es ds : Enclosure) → StandsAmong t es o a → StandsAmong t ds o b → (a ≡ b) × (es ≡ ds)
stands-once t keeps o a b [] ds h k = absurd h
stands-once t keeps o a b (e ∷ es) [] h k = absurd k
stands-once t keeps o a b (e ∷ es) (d ∷ ds) h k = action-settled t keeps e d es ds h.0 k.0 h.1 k.1 o a b h.2 k.2

pub sees-once : (t : Block) → Keeps t → (o : ℕ) (a b : Action) (sc around : Scope) → Sees t [] [] o a sc → Sees t [] [] o b around → (a ≡ b) × (sc ≡ around)
sees-once t keeps o a b sc around h k =
    let x = sees-stands t o a sc h in
    let y = sees-stands t o b around k in
    let same = stands-once t keeps o a b x.blocks y.blocks x.stands y.stands in
    (same.0, sym x.visible ∙ ap scope_of same.1 ∙ y.visible)
