-- A script's blocks and other statements by byte offset. `index_of t` lists, in file order, each BK, bodies included, with its formals and the blocks
-- around it, and each other statement with the blocks around it. `indexed-block`, `indexed-action`: looking one up by its offset gives that; so
-- an offset settles them (`block_settled`, `action-settled`). `indexed-next`, `indexed-frame`: in a run, for the statement that comes next and for
-- each frame. `coordinates` has the coordinate of each name of a statement.
use Rattle.std.specs.Prelude.{ℕ, zero, suc, pred, ◌+◌, ◌*◌, ◌≤◌, ◌⊎◌, ◌≡◌, refl, length}
use Rattle.std.proofs.Common.{arith, inl, inr, sym, ap, subst, eq-eqb, ne_eqb, length-append}
use mathlib.Core.List.Memᴰ
use mathlib.Core.List.{List, [], ◌∷◌, ◌++◌, map, Memᴰ}
use Rattle.std.proofs.Math.Option.{Option, some, none-ne-some, some-injective}
use Rattle.std.proofs.Math.ListN.{get_elem?}
use Rattle.language.specs.Basics.{last?, lookup}
use Rattle.language.specs.Text.{Formal, Action, CL, GO, IF, KN, AR, AD, RM, QY, Block, block, Decl, VR, LB, PR, Stmt, BK, DO, Decls, no-decl, decl, Stmts, no-stmt, stmt, decls, stmts, block_at, block_decls, block_stmts}
use Rattle.language.specs.Encoding.{action_fields, formals_fields, block_fields, decl_fields, stmt_fields, decls_fields, stmts_fields}
use Rattle.grammar.specs.Rules.{FormedBlock, FormedDecl, FormedStmt, FormedDecls, FormedStmts, Keeps}
use Rattle.frames.specs.Frame.{Frame, numbered, frame_stmt}
use Rattle.coordinates.specs.Enclosure.{Enclosing, enclosed, Enclosure, Coordinate, coordinate_of, StandsIn, as-block, as-body, whole, Encloses}
use Rattle.coordinates.specs.Chain.{enclosing, enclosure_of, Chained}
use Rattle.coordinates.proofs.Search.{enclosure-step}
use Rattle.coordinates.proofs.Kept.{chained-downward}
use Rattle.coordinates.proofs.Levels.{in-innermost, frame-encloses}
use Rattle.coordinates.proofs.Visible.{action_names}

-- a BK, its own block with its formals first, and another statement
pub data Indexed : Type 0 where
  is_block : Enclosure → Indexed
  is-action : Enclosure → Action → Indexed

abbrev pub Entry : Type 0
Entry = ℕ × Indexed

-- the coordinates of a statement's names, in the paper's order
unfoldable pub coordinates : Enclosure → Action → List (Option Coordinate)
coordinates es a = map (coordinate_of es) (action_names a)

-- a block with its formals, in the enclosure around it
unfoldable mutual
  pub index_block : Block → List Formal → Enclosure → List Entry
  index_block (block at ds ss) fs es =
      let os = enclosed fs (block at ds ss) ∷ es in
      (at, is_block os) ∷ (index_decls ds os ++ index_stmts ss os)

  pub index_decl : Decl → Enclosure → List Entry
  index_decl (VR at n) es = []
  index_decl (LB at n i) es = []
  index_decl (PR at n fs b) es = index_block b fs es

  pub index_stmt : Stmt → Enclosure → List Entry
  index_stmt (BK b) es = index_block b [] es
  index_stmt (DO at a) es = (at, is-action es a) ∷ []

  pub index_decls : Decls → Enclosure → List Entry
  index_decls no-decl es = []
  index_decls (decl d ds) es = index_decl d es ++ index_decls ds es

  pub index_stmts : Stmts → Enclosure → List Entry
  index_stmts no-stmt es = []
  index_stmts (stmt s ss) es = index_stmt s es ++ index_stmts ss es

unfoldable pub index_of : Block → List Entry
index_of t = index_block t [] []

-- Every block and statement is listed

listed-stmt : (ss : Stmts) (es : Enclosure) (i : ℕ) (s : Stmt) (x : Entry) → get_elem? (stmts ss) i ≡ some s → Memᴰ x (index_stmt s es) → Memᴰ x (index_stmts ss es)
unfolding stmts index_block
listed-stmt no-stmt es i s x e m = absurd (none-ne-some s e)
listed-stmt (stmt y ss) es zero s x e m = Memᴰ.append_left (index_stmts ss es) (subst (λ (z : Stmt). Memᴰ x (index_stmt z es)) (sym (some-injective y s e)) m)
listed-stmt (stmt y ss) es (suc i) s x e m = Memᴰ.append_right (index_stmt y es) (listed-stmt ss es i s x e m)

listed-decl : (ds : Decls) (es : Enclosure) (i : ℕ) (d : Decl) (x : Entry) → get_elem? (decls ds) i ≡ some d → Memᴰ x (index_decl d es) → Memᴰ x (index_decls ds es)
unfolding decls index_block
listed-decl no-decl es i d x e m = absurd (none-ne-some d e)
listed-decl (decl y ds) es zero d x e m = Memᴰ.append_left (index_decls ds es) (subst (λ (z : Decl). Memᴰ x (index_decl z es)) (sym (some-injective y d e)) m)
listed-decl (decl y ds) es (suc i) d x e m = Memᴰ.append_right (index_decl y es) (listed-decl ds es i d x e m)

in-stmt : (b : Block) (fs : List Formal) (es : Enclosure) (i : ℕ) (s : Stmt) (x : Entry) → get_elem? (block_stmts b) i ≡ some s → Memᴰ x (index_stmt s (enclosed fs b ∷ es)) → Memᴰ x (index_block b fs es)
unfolding block_stmts index_block
in-stmt (block at ds ss) fs es i s x e m = Memᴰ.tail (Memᴰ.append_right (index_decls ds (enclosed fs (block at ds ss) ∷ es)) (listed-stmt ss (enclosed fs (block at ds ss) ∷ es) i s x e m))

in-decl : (b : Block) (fs : List Formal) (es : Enclosure) (i : ℕ) (d : Decl) (x : Entry) → get_elem? (block_decls b) i ≡ some d → Memᴰ x (index_decl d (enclosed fs b ∷ es)) → Memᴰ x (index_block b fs es)
unfolding block_decls index_block
in-decl (block at ds ss) fs es i d x e m = Memᴰ.tail (Memᴰ.append_left (index_stmts ss (enclosed fs (block at ds ss) ∷ es)) (listed-decl ds (enclosed fs (block at ds ss) ∷ es) i d x e m))

-- what an inner block lists, the outer one lists
outward-listed : (o e : Enclosing) (es : Enclosure) (x : Entry) → StandsIn e o.text → Memᴰ x (index_block e.text e.formals (o ∷ es)) → Memᴰ x (index_block o.text o.formals es)
unfolding index_block
outward-listed o e es x (as-block i q p) m =
    in-stmt o.text o.formals es i (BK e.text) x q (subst (λ (fs : List Formal). Memᴰ x (index_block e.text fs (o ∷ es))) p m)
outward-listed o e es x (as-body i at n q) m = in-decl o.text o.formals es i (PR at n e.formals e.text) x q m

enclosed-listed : (t : Block) (e : Enclosing) (es : Enclosure) (x : Entry) → Encloses t (e ∷ es) → Memᴰ x (index_block e.text e.formals es) → Memᴰ x (index_of t)
unfolding index_of whole
enclosed-listed t e [] x w m = subst (λ (y : Enclosing). Memᴰ x (index_block y.text y.formals [])) w m
enclosed-listed t e (o ∷ es) x w m = enclosed-listed t o es x w.1 (outward-listed o e es x w.0 m)

action-listed : (t : Block) (e : Enclosing) (es : Enclosure) → Encloses t (e ∷ es) → (i at : ℕ) (a : Action) → get_elem? (block_stmts e.text) i ≡ some (DO at a) → Memᴰ (at, is-action (e ∷ es) a) (index_of t)
unfolding index_block
action-listed t e es w i at a q = enclosed-listed t e es (at, is-action (e ∷ es) a) w (in-stmt e.text e.formals es i (DO at a) (at, is-action (e ∷ es) a) q (Memᴰ.head refl))

own-listed : (b : Block) (fs : List Formal) (es : Enclosure) → Memᴰ (block_at b, is_block (enclosed fs b ∷ es)) (index_block b fs es)
unfolding index_block block_at
own-listed (block at ds ss) fs es = Memᴰ.head refl

pub block_listed : (t : Block) (e : Enclosing) (es : Enclosure) → Encloses t (e ∷ es) → Memᴰ (block_at e.text, is_block (e ∷ es)) (index_of t)
block_listed t e es w = enclosed-listed t e es (block_at e.text, is_block (e ∷ es)) w (own-listed e.text e.formals es)

-- Offsets rise, so that none stands twice

-- entries in rising order, from lo on and before hi
abbrev pub Span : ℕ → ℕ → List Entry → Type 0
Span lo hi [] = lo ≤ hi
Span lo hi (x ∷ xs) = (lo ≤ x.0) × Span (suc x.0) hi xs

span-from : (lo lo' hi : ℕ) (xs : List Entry) → lo ≤ lo' → Span lo' hi xs → Span lo hi xs
span-from lo lo' hi [] h s = omega arith
span-from lo lo' hi (x ∷ xs) h s = (omega (arith, s.0), s.1)

span-append : (lo mid hi : ℕ) (xs ys : List Entry) → Span lo mid xs → Span mid hi ys → Span lo hi (xs ++ ys)
span-append lo mid hi [] ys s r = span-from lo mid hi ys s r
span-append lo mid hi (x ∷ xs) ys s r = (s.0, span-append (suc x.0) mid hi xs ys s.1 r)

span-within : (lo lo' hi hi' : ℕ) (xs : List Entry) → lo ≤ lo' → hi' ≤ hi → Span lo' hi' xs → Span lo hi xs
span-within lo lo' hi hi' [] p q s = omega arith
span-within lo lo' hi hi' (x ∷ xs) p q s = (omega (arith, s.0), span-within (suc x.0) (suc x.0) hi hi' xs (omega arith) q s.1)

span-low : (lo hi : ℕ) (xs : List Entry) (x : Entry) → Span lo hi xs → Memᴰ x xs → lo ≤ x.0
span-low lo hi [] x s m = absurd (Memᴰ.not-nil m)
span-low lo hi (y ∷ ys) x s m = go (span-low (suc y.0) hi ys x s.1) (Memᴰ.cases_cons m)
  where
    go : (Memᴰ x ys → suc y.0 ≤ x.0) → (x ≡ y) ⊎ Memᴰ x ys → lo ≤ x.0
    go r (inl e) = omega (arith, s.0, ap (λ (z : Entry). z.0) e)
    go r (inr k) = omega (arith, s.0, r k)

span-lookup : (lo hi : ℕ) (xs : List Entry) (x : Entry) → Span lo hi xs → Memᴰ x xs → lookup x.0 xs ≡ some x.1
unfolding lookup
span-lookup lo hi [] x s m = absurd (Memᴰ.not-nil m)
span-lookup lo hi (y ∷ ys) x s m = go (span-lookup (suc y.0) hi ys x s.1) (Memᴰ.cases_cons m)
  where
    go : (Memᴰ x ys → lookup x.0 ys ≡ some x.1) → (x ≡ y) ⊎ Memᴰ x ys → lookup x.0 (y ∷ ys) ≡ some x.1
    go r (inl e) = rw (lookup, eq-eqb x.0 y.0 (ap (λ (z : Entry). z.0) e)) (ap (λ (z : Entry). some z.1) (sym e))
    go r (inr k) =
        let l : suc y.0 ≤ x.0 = span-low (suc y.0) hi ys x s.1 k in
        rw (lookup, ne_eqb x.0 y.0 (λ e. omega arith)) (r k)

action-fields : (a : Action) → 1 ≤ length (action_fields a)
unfolding action_fields
action-fields (CL p xs) = omega arith
action-fields (GO l) = omega arith
action-fields (IF v l) = omega arith
action-fields (KN t z) = omega arith
action-fields (AR t o x y) = omega arith
action-fields (AD g m) = omega arith
action-fields (RM g m) = omega arith
action-fields (QY t g m) = omega arith

mutual
  unfolding FormedBlock index_block block_fields

  span-block : (b : Block) (level : ℕ) (fs : List Formal) (here : ℕ) (es : Enclosure) → FormedBlock b level fs here → Span here (here + 2 * length (block_fields b)) (index_block b fs es)
  span-block (block at ds ss) level fs here es h =
      let os = enclosed fs (block at ds ss) ∷ es in
      let mid = here + 6 + 2 * length (decls_fields ds) in
      let end = mid + 2 * length (stmts_fields ss) in
      let n = length-append (decls_fields ds) (stmts_fields ss) in (
        omega (arith, h.stands),
        span-within (suc at) (here + 6) (here + 2 * length (block_fields (block at ds ss))) end (index_decls ds os ++ index_stmts ss os) (omega (arith, h.stands)) (omega arith)
            (span-append (here + 6) mid end (index_decls ds os) (index_stmts ss os) (span-decls ds level (length (stmts ss)) (here + 6) os h.declarations) (span-stmts ss level mid os h.statements)),
      )

  span-decl : (d : Decl) (level s here : ℕ) (es : Enclosure) → FormedDecl d level s here → Span here (here + 2 * length (decl_fields d)) (index_decl d es)
  span-decl (VR at n) level s here es h = omega arith
  span-decl (LB at n i) level s here es h = omega arith
  span-decl (PR at n fs b) level s here es h =
      let from = here + 6 + 2 * length (formals_fields fs) in
      let l = length-append (formals_fields fs) (block_fields b) in
      span-within here from (here + 2 * length (decl_fields (PR at n fs b))) (from + 2 * length (block_fields b)) (index_block b fs es) (omega arith) (omega arith) (span-block b (suc level) fs from es h.body)

  span-stmt : (s : Stmt) (level here : ℕ) (es : Enclosure) → FormedStmt s level here → Span here (here + 2 * length (stmt_fields s)) (index_stmt s es)
  span-stmt (BK b) level here es h = span-block b (suc level) [] here es h
  span-stmt (DO at a) level here es h = (omega (arith, h.stands), omega (arith, h.stands, action-fields a))

  span-decls : (ds : Decls) (level s here : ℕ) (es : Enclosure) → FormedDecls ds level s here → Span here (here + 2 * length (decls_fields ds)) (index_decls ds es)
  span-decls no-decl level s here es h = omega arith
  span-decls (decl d ds) level s here es h =
      let mid = here + 2 * length (decl_fields d) in
      let n = length-append (decl_fields d) (decls_fields ds) in
      span-within here here (here + 2 * length (decls_fields (decl d ds))) (mid + 2 * length (decls_fields ds)) (index_decl d es ++ index_decls ds es) (omega arith) (omega arith)
      (span-append here mid (mid + 2 * length (decls_fields ds)) (index_decl d es) (index_decls ds es) (span-decl d level s here es h.0) (span-decls ds level s mid es h.1))

  span-stmts : (ss : Stmts) (level here : ℕ) (es : Enclosure) → FormedStmts ss level here → Span here (here + 2 * length (stmts_fields ss)) (index_stmts ss es)
  span-stmts no-stmt level here es h = omega arith
  span-stmts (stmt s ss) level here es h =
      let mid = here + 2 * length (stmt_fields s) in
      let n = length-append (stmt_fields s) (stmts_fields ss) in
      span-within here here (here + 2 * length (stmts_fields (stmt s ss))) (mid + 2 * length (stmts_fields ss)) (index_stmt s es ++ index_stmts ss es) (omega arith) (omega arith)
      (span-append here mid (mid + 2 * length (stmts_fields ss)) (index_stmt s es) (index_stmts ss es) (span-stmt s level here es h.0) (span-stmts ss level mid es h.1))

-- The theorems

pub index-rises : (t : Block) → Keeps t → Span 0 (0 + 2 * length (block_fields t)) (index_of t)
unfolding index_of
index-rises t h = span-block t 1 [] 0 [] h.formed

module _ (t : Block) (h : Keeps t) (e : Enclosing) (es : Enclosure) (w : Encloses t (e ∷ es)) where
  pub indexed-block : lookup (block_at e.text) (index_of t) ≡ some (is_block (e ∷ es))
  indexed-block = span-lookup 0 (0 + 2 * length (block_fields t)) (index_of t) (block_at e.text, is_block (e ∷ es)) (index-rises t h) (block_listed t e es w)

  pub indexed-action : (i at : ℕ) (a : Action) → get_elem? (block_stmts e.text) i ≡ some (DO at a) → lookup at (index_of t) ≡ some (is-action (e ∷ es) a)
  indexed-action i at a q = span-lookup 0 (0 + 2 * length (block_fields t)) (index_of t) (at, is-action (e ∷ es) a) (index-rises t h) (action-listed t e es w i at a q)

module _ (t : Block) (h : Keeps t) (e e' : Enclosing) (es es' : Enclosure) (w : Encloses t (e ∷ es)) (w' : Encloses t (e' ∷ es')) where
  -- the offset of a BK settles its block, its formals and what encloses it
  pub block_settled : block_at e.text ≡ block_at e'.text → ◌≡◌ {A = Enclosure} (e ∷ es) (e' ∷ es')
  block_settled o = let p = indexed-block t h e es w in let q = indexed-block t h e' es' w' in cc

  -- and that of another statement the statement and what encloses it
  pub action-settled : (i j at : ℕ) (a b : Action) → get_elem? (block_stmts e.text) i ≡ some (DO at a) → get_elem? (block_stmts e'.text) j ≡ some (DO at b) → (a ≡ b) × (◌≡◌ {A = Enclosure} (e ∷ es) (e' ∷ es'))
  action-settled i j at a b p q = let x = indexed-action t h e es w i at a p in let y = indexed-action t h e' es' w' j at b q in (cc, cc)

-- In a run

pub indexed-next : (t : Block) → Keeps t → (fs : List Frame) → Chained t fs → (f : Frame) (at : ℕ) (a : Action) → last? fs ≡ some f → frame_stmt f ≡ some (DO at a) → lookup at (index_of t) ≡ some (is-action (enclosure_of fs (length fs)) a)
unfolding frame_stmt enclosing
indexed-next t h fs chain f at a e q =
    in-innermost t fs chain f e (λ es. lookup at (index_of t) ≡ some (is-action es a)) (λ es w. indexed-action t h (enclosing f) es w (pred f.next) at a q)

pub indexed-frame : (t : Block) → Keeps t → (fs : List Frame) → Chained t fs → (k : ℕ) (f : Frame) → numbered fs k ≡ some f → lookup (block_at f.text) (index_of t) ≡ some (is_block (enclosure_of fs k))
unfolding enclosing
indexed-frame t h fs chain k f e =
    subst (λ (es : Enclosure). lookup (block_at f.text) (index_of t) ≡ some (is_block es)) (sym (enclosure-step fs (chained-downward t fs chain) k f e))
    (indexed-block t h (enclosing f) (enclosure_of fs f.link) (frame-encloses t fs chain k f e))
