-- Where an action stands, by the blocks around it. `StandsAmong t es o a`: the action a is the statement at offset o of the innermost of the blocks es,
-- which enclose one another in the program t. `stands-sees`: what such an action sees is the scope of es. `NearestFormal p f es`: the nearest of these
-- blocks that has the name p has it as the formal f. `formal-nearest`: so it is for a visible name that means a procedure and does not say what it takes.
use Prim.Native.Nat.{ℕ, zero, suc}
use Rattle.std.proofs.Common.{arith, sym, ap, ◌∙◌, eqb-true}
use Rattle.std.specs.Prelude.{◌≡◌, refl, eqb}
use mathlib.Core.List.{List, [], ◌∷◌, ◌++◌, map, append_assoc}
use Rattle.std.proofs.Math.Logic.{inl, inr}
use Rattle.std.proofs.Math.Option.{none, some, none-ne-some, some-injective}
use Rattle.std.proofs.Math.Path.{subst}
use Rattle.std.proofs.Math.ListN.{get_elem?}
use Rattle.language.specs.Basics.{among, lookup}
use Rattle.language.specs.Text.{procedure, Formal, Action, Block, block, Decl, VR, LB, PR, Stmt, BK, DO, Decls, no-decl, decl, Stmts, no-stmt, stmt, decls, stmts, block_decls, block_stmts}
use Rattle.language.specs.Scope.{Meaning, Scope, formal_meaning, decl_meaning, inside}
use Rattle.laws.specs.Tests.{split, some_inj}
use Rattle.laws.specs.Each.{Each}
use Rattle.laws.specs.Lookup.{lookup-nil, lookup-here, lookup-there, either, lookup_absent, each-found}
use Rattle.coordinates.specs.Enclosure.{Enclosing, enclosed, Enclosure, StandsIn, as-block, as-body, whole, Encloses}
use Rattle.coordinates.proofs.Visible.{meanings_of, scope_of, meanings-named}
use Rattle.causes.specs.Sites.{Sees, SeesDecl, SeesStmt, SeesDecls, SeesStmts}
use Rattle.causes.specs.FormalSites.{NearestFormal, StandsAmong, further, here}

pub inside-meanings : (fs : List Formal) (at : ℕ) (ds : Decls) (ss : Stmts) (around : Scope) → meanings_of (enclosed fs (block at ds ss)) ++ around ≡ inside fs ds around
unfolding inside meanings_of block_decls
inside-meanings fs at ds ss around = append_assoc (map formal_meaning fs) (map decl_meaning (decls ds)) around

module _ (o : ℕ) (a : Action) (sc : Scope) where
  in-stmts : (ss : Stmts) (around : Scope) (i : ℕ) (x : Stmt) → get_elem? (stmts ss) i ≡ some x → SeesStmt x around o a sc → SeesStmts ss around o a sc
  unfolding Sees stmts
  in-stmts no-stmt around i x e h = absurd (none-ne-some x e)
  in-stmts (stmt y ss) around zero x e h = inl (subst (λ (z : Stmt). SeesStmt z around o a sc) (sym (some-injective y x e)) h)
  in-stmts (stmt y ss) around (suc i) x e h = inr (in-stmts ss around i x e h)

  in-decls : (ds : Decls) (around : Scope) (i : ℕ) (d : Decl) → get_elem? (decls ds) i ≡ some d → SeesDecl d around o a sc → SeesDecls ds around o a sc
  unfolding Sees decls
  in-decls no-decl around i d e h = absurd (none-ne-some d e)
  in-decls (decl y ds) around zero d e h = inl (subst (λ (z : Decl). SeesDecl z around o a sc) (sym (some-injective y d e)) h)
  in-decls (decl y ds) around (suc i) d e h = inr (in-decls ds around i d e h)

  by-stmt : (b : Block) (fs : List Formal) (around : Scope) (i : ℕ) (x : Stmt) → get_elem? (block_stmts b) i ≡ some x → SeesStmt x (meanings_of (enclosed fs b) ++ around) o a sc
      → Sees b fs around o a sc
  unfolding Sees block_stmts
  by-stmt (block at ds ss) fs around i x e h = inr (in-stmts ss (inside fs ds around) i x e (subst (λ (s : Scope). SeesStmt x s o a sc) (inside-meanings fs at ds ss around) h))

  by-decl : (b : Block) (fs : List Formal) (around : Scope) (i : ℕ) (d : Decl) → get_elem? (block_decls b) i ≡ some d → SeesDecl d (meanings_of (enclosed fs b) ++ around) o a sc
      → Sees b fs around o a sc
  unfolding Sees block_decls
  by-decl (block at ds ss) fs around i d e h = inl (in-decls ds (inside fs ds around) i d e (subst (λ (s : Scope). SeesDecl d s o a sc) (inside-meanings fs at ds ss around) h))

  outward : (e u : Enclosing) (around : Scope) → StandsIn e u.text → Sees e.text e.formals (meanings_of u ++ around) o a sc → Sees u.text u.formals around o a sc
  unfolding Sees
  outward e u around (as-block i q p) h =
      by-stmt u.text u.formals around i (BK e.text) q (subst (λ (fs : List Formal). Sees e.text fs (meanings_of u ++ around) o a sc) p h)
  outward e u around (as-body i at n q) h = by-decl u.text u.formals around i (PR at n e.formals e.text) q h

  sees-from : (t : Block) (e : Enclosing) (es : Enclosure) → Encloses t (e ∷ es) → Sees e.text e.formals (scope_of es) o a sc → Sees t [] [] o a sc
  unfolding whole scope_of
  sees-from t e [] w h = subst (λ (x : Enclosing). Sees x.text x.formals [] o a sc) w h
  sees-from t e (u ∷ es) w h = sees-from t u es w.1 (outward e u (scope_of es) w.0 h)

pub stands-sees : (t : Block) (es : Enclosure) (o : ℕ) (a : Action) → StandsAmong t es o a → Sees t [] [] o a (scope_of es)
unfolding Sees scope_of
stands-sees t [] o a h = absurd h
stands-sees t (e ∷ es) o a h =
    let sc = scope_of (e ∷ es) in
    sees-from o a sc t e es h.0 (by-stmt o a sc e.text e.formals (scope_of es) h.1 (DO o a) h.2 (record { stands = refl; does = refl; visible = refl }))

-- Only a formal means a procedure and does not say what it takes

decl-says : (d : Decl) → (decl_meaning d).1.kind ≡ procedure → (decl_meaning d).1.takes ≡ none → ⊥
unfolding decl_meaning
decl-says (VR at n) k q = let z : ◌≡◌ {A = ℕ} 0 1 = cc in omega arith
decl-says (LB at n i) k q = let z : ◌≡◌ {A = ℕ} 0 1 = cc in omega arith
decl-says (PR at n fs b) k q = let z : ◌≡◌ {A = ℕ} 0 1 = cc in omega arith

abbrev Says : Meaning → Type 0
Says m = m.kind ≡ procedure → m.takes ≡ none → ⊥

decls-say : (ds : List Decl) → Each (λ (x : ℕ × Meaning). Says x.1) (map decl_meaning ds)
decls-say [] = tt
decls-say (d ∷ ds) = (decl-says d, decls-say ds)

pub record FormalFor (p : ℕ) (m : Meaning) (es : Enclosure) : Type 0 where
  pub formal : Formal
  pub nearest : NearestFormal p formal es
  pub gives : formal_meaning formal ≡ (p, m)

-- a name found among meanings is that of one of the things that have them
module _ {A : Type 0} (meaning : A → ℕ × Meaning) where
  pub found_among : (xs : List A) (p : ℕ) (m : Meaning) → lookup p (map meaning xs) ≡ some m → (i : ℕ) × (x : A) × (get_elem? xs i ≡ some x) × (meaning x ≡ (p, m))
  found_among [] p m q = lookup-nil p m q
  found_among (a ∷ xs) p m q =
      let x = meaning a in
      split (eqb p x.0)
      (λ t.
      let name : x.0 ≡ p = sym (eqb-true p x.0 t) in
      let means : x.1 ≡ m = some_inj (sym (lookup-here p x (map meaning xs) t) ∙ q) in
      (0, a, refl, λ i. (name i, means i)))
      (λ t. let r = found_among xs p m (sym (lookup-there p x (map meaning xs) t) ∙ q) in (suc r.0, r.1, r.2, r.3))

formal-named : (f : Formal) → (formal_meaning f).0 ≡ f.name
unfolding formal_meaning
formal-named f = refl

pub formal-nearest : (es : Enclosure) (p : ℕ) (m : Meaning) → lookup p (scope_of es) ≡ some m → m.kind ≡ procedure → m.takes ≡ none → FormalFor p m es
unfolding scope_of meanings_of
formal-nearest [] p m q k n = lookup-nil p m q
formal-nearest (e ∷ es) p m q k n =
    either p (meanings_of e) (scope_of es) m q
    (λ r. either p (map formal_meaning e.formals) (map decl_meaning (block_decls e.text)) m r
    (λ s. let f = found_among formal_meaning e.formals p m s in
    record { formal = f.1; nearest = here f.0 f.2 (sym (formal-named f.1) ∙ ap (λ (x : ℕ × Meaning). x.0) f.3); gives = f.3 })
    (λ no s. absurd (each-found Says p m (map decl_meaning (block_decls e.text)) (decls-say (block_decls e.text)) s k n)))
    (λ no r. let f = formal-nearest es p m r k n in
    record { formal = f.formal; nearest = further (ap (among p) (sym (meanings-named e)) ∙ lookup_absent p (meanings_of e) no) f.nearest; gives = f.gives })
