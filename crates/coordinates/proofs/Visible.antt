-- Every name that an accepted script uses has a coordinate. `names-have-coordinates`: the names of a statement have one in the statement's
-- enclosure, worked out from the text alone; `visible-coordinate`: a visible name's coordinate leads to the formal or declaration
-- that gives it its meaning, so that its kind is known from the text too.
use Rattle.std.specs.Prelude.{ℕ, zero, suc, ◌-◌, ◌≤◌, Bool, true, false, List, [], ◌∷◌, ◌++◌, map, ◌≡◌, refl, eqb, length}
use Rattle.std.proofs.Common.{arith, append_assoc, sym, ap, ◌∙◌, subst, ap₂, eqb-true}
use Rattle.std.proofs.Math.Option.{Option, none, some, none-ne-some, some-injective}
use Rattle.std.proofs.Math.ListN.{get_elem?}
use Rattle.language.specs.Basics.{lookup}
use Rattle.language.specs.Text.{Kind, variable, label, procedure, Formal, Action, CL, GO, IF, KN, AR, AD, RM, QY, Block, block, Decl, VR, LB, PR, Stmt, BK, DO, Decls, no-decl, decl, Stmts, no-stmt, stmt, decls, stmts, block_decls, block_stmts, decl_name, formal_names, declared_names}
use Rattle.language.specs.Scope.{Meaning, Scope, formal_meaning, decl_meaning, inside}
use Rattle.laws.specs.Each.{Each, each_map}
use Rattle.grammar.specs.Rules.{Visible, Is, ScopedAction, ScopedBlock, ScopedDecl, ScopedStmt, ScopedDecls, ScopedStmts, Keeps}
use Rattle.frames.specs.Frame.{numbered, position_from}
use Rattle.frames.specs.Numbered.{numbered-at}
use Rattle.coordinates.specs.Enclosure.{Enclosing, enclosed, Enclosure, Coordinate, names_of, coordinate_of, at_level, StandsIn, as-block, as-body, whole, Encloses}
use Rattle.coordinates.proofs.Search.{coordinate-here, coordinate-further}
use Rattle.coordinates.proofs.Declared.{coordinate-declares, level-here, level-further}

-- the names that an action uses, in the paper's order
unfoldable pub action_names : Action → List ℕ
action_names (CL p xs) = p ∷ xs
action_names (GO l) = l ∷ []
action_names (IF v l) = v ∷ l ∷ []
action_names (KN t z) = t ∷ []
action_names (AR t o a b) = t ∷ a ∷ b ∷ []
action_names (AD g m) = g ∷ m ∷ []
action_names (RM g m) = g ∷ m ∷ []
action_names (QY t g m) = t ∷ g ∷ m ∷ []

-- what each name of a block means, in the order of its names, and the scope that an enclosure makes
unfoldable pub meanings_of : Enclosing → Scope
meanings_of e = map formal_meaning e.formals ++ map decl_meaning (block_decls e.text)

unfoldable pub scope_of : Enclosure → Scope
scope_of [] = []
scope_of (e ∷ es) = meanings_of e ++ scope_of es

-- The name n has a coordinate, and the block there gives it the meaning m.
pub record Located (es : Enclosure) (n : ℕ) (m : Meaning) : Type 0 where
  pub coordinate : Coordinate
  pub found : coordinate_of es n ≡ some coordinate
  pub block : Enclosing
  pub stands : at_level es coordinate.level ≡ some block
  pub means : numbered (meanings_of block) coordinate.position ≡ some (n, m)

-- where a name is looked up: among the first meanings, or after them
pub data Looked (n i : ℕ) (xs ys : Scope) (m : Meaning) : Type 0 where
  among_first : (p : ℕ) → position_from n i (map (λ x. x.0) xs) ≡ some p → i ≤ p → get_elem? xs (p - i) ≡ some (n, m) → Looked n i xs ys m
  after : position_from n i (map (λ x. x.0) xs) ≡ none → lookup n ys ≡ some m → Looked n i xs ys m

pair_path : (x : ℕ × Meaning) (n : ℕ) (m : Meaning) → x.0 ≡ n → x.1 ≡ m → ◌≡◌ {A = Option (ℕ × Meaning)} (some x) (some (n, m))
pair_path x n m p q = λ i. some (p i, q i)

looked-up : (n i : ℕ) (xs ys : Scope) (m : Meaning) → lookup n (xs ++ ys) ≡ some m → Looked n i xs ys m
unfolding lookup position_from
looked-up n i [] ys m e = after refl e
looked-up n i (x ∷ xs) ys m e = go (looked-up n (suc i) xs ys m) (eqb n x.0) refl
  where
    on : Looked n (suc i) xs ys m → eqb n x.0 ≡ false → Looked n i (x ∷ xs) ys m
    on (among_first p q h g) b =
        let z : p - i ≡ suc (p - suc i) = omega arith in
        among_first p (rw (position_from, b) q) (omega arith) (ap (get_elem? (x ∷ xs)) z ∙ g)
    on (after q l) b = after (rw (position_from, b) q) l

    go : (lookup n (xs ++ ys) ≡ some m → Looked n (suc i) xs ys m) → (b : Bool) → eqb n x.0 ≡ b → Looked n i (x ∷ xs) ys m
    go r true b =
        let z : i - i ≡ 0 = omega arith in
        let q : x.1 ≡ m = some-injective x.1 m (rw (b, lookup) at e) in
        among_first i (rw (position_from, b)) (omega arith) (ap (get_elem? (x ∷ xs)) z ∙ pair_path x n m (sym (eqb-true n x.0 b)) q)
    go r false b = on (r (rw (b, lookup) at e)) b

firsts-append : (xs ys : Scope) → map (λ x. x.0) (xs ++ ys) ≡ map (λ (x : ℕ × Meaning). x.0) xs ++ map (λ x. x.0) ys
firsts-append [] ys = refl
firsts-append (x ∷ xs) ys = ap (λ (l : List ℕ). x.0 ∷ l) (firsts-append xs ys)

formals-named : (fs : List Formal) → map (λ (x : ℕ × Meaning). x.0) (map formal_meaning fs) ≡ formal_names fs
unfolding formal_meaning formal_names
formals-named [] = refl
formals-named (f ∷ fs) = ap (λ (l : List ℕ). f.name ∷ l) (formals-named fs)

pub decl-named : (d : Decl) → (decl_meaning d).0 ≡ decl_name d
unfolding decl_meaning decl_name
decl-named (VR at n) = refl
decl-named (LB at n i) = refl
decl-named (PR at n fs b) = refl

decls-named : (ds : List Decl) → map (λ (x : ℕ × Meaning). x.0) (map decl_meaning ds) ≡ map decl_name ds
decls-named [] = refl
decls-named (d ∷ ds) = ap₂ (λ (n : ℕ) (l : List ℕ). n ∷ l) (decl-named d) (decls-named ds)

pub meanings-named : (e : Enclosing) → map (λ (x : ℕ × Meaning). x.0) (meanings_of e) ≡ names_of e
unfolding meanings_of names_of declared_names
meanings-named e =
    firsts-append (map formal_meaning e.formals) (map decl_meaning (block_decls e.text)) ∙ ap₂ (λ (x y : List ℕ). x ++ y) (formals-named e.formals) (decls-named (block_decls e.text))

pub visible-coordinate : (es : Enclosure) (n : ℕ) (m : Meaning) → lookup n (scope_of es) ≡ some m → Located es n m
unfolding scope_of lookup
visible-coordinate [] n m e = absurd (none-ne-some m e)
visible-coordinate (x ∷ es) n m e = go (visible-coordinate es n m) (looked-up n 1 (meanings_of x) (scope_of es) m e)
  where
    go : (lookup n (scope_of es) ≡ some m → Located es n m) → Looked n 1 (meanings_of x) (scope_of es) m → Located (x ∷ es) n m
    go r (among_first p q h g) =
        record { coordinate = record { level = suc (length es); position = p }; found = coordinate-here x es n p (ap (position_from n 1) (sym (meanings-named x)) ∙ q); block = x; stands = level-here x es; means = numbered-at (meanings_of x) p h ∙ g }
    go r (after q l) =
        let k = r l in
        let d = coordinate-declares es n k.coordinate k.found in
        record { coordinate = k.coordinate; found = coordinate-further x es n (ap (position_from n 1) (sym (meanings-named x)) ∙ q) ∙ k.found; block = k.block; stands = level-further x es k.coordinate.level d.low d.high ∙ k.stands; means = k.means }

-- The scope rules hold in every enclosure

scoped-stmt : (ss : Stmts) (sc : Scope) (i : ℕ) (x : Stmt) → ScopedStmts ss sc → get_elem? (stmts ss) i ≡ some x → ScopedStmt x sc
unfolding ScopedBlock stmts
scoped-stmt no-stmt sc i x h e = absurd (none-ne-some x e)
scoped-stmt (stmt y ss) sc zero x h e = subst (λ (z : Stmt). ScopedStmt z sc) (some-injective y x e) h.0
scoped-stmt (stmt y ss) sc (suc i) x h e = scoped-stmt ss sc i x h.1 e

scoped-decl : (ds : Decls) (sc : Scope) (i : ℕ) (d : Decl) → ScopedDecls ds sc → get_elem? (decls ds) i ≡ some d → ScopedDecl d sc
unfolding ScopedBlock decls
scoped-decl no-decl sc i d h e = absurd (none-ne-some d e)
scoped-decl (decl y ds) sc zero d h e = subst (λ (z : Decl). ScopedDecl z sc) (some-injective y d e) h.0
scoped-decl (decl y ds) sc (suc i) d h e = scoped-decl ds sc i d h.1 e

inside-meanings : (fs : List Formal) (at : ℕ) (ds : Decls) (ss : Stmts) (sc : Scope) → inside fs ds sc ≡ meanings_of (enclosed fs (block at ds ss)) ++ sc
unfolding inside meanings_of block_decls
inside-meanings fs at ds ss sc = sym (append_assoc (map formal_meaning fs) (map decl_meaning (decls ds)) sc)

inner-stmt : (b : Block) (fs : List Formal) (sc : Scope) (i : ℕ) (x : Stmt) → ScopedBlock b fs sc → get_elem? (block_stmts b) i ≡ some x → ScopedStmt x (meanings_of (enclosed fs b) ++ sc)
unfolding ScopedBlock block_stmts
inner-stmt (block at ds ss) fs sc i x h e = subst (ScopedStmt x) (inside-meanings fs at ds ss sc) (scoped-stmt ss (inside fs ds sc) i x h.1 e)

inner-decl : (b : Block) (fs : List Formal) (sc : Scope) (i : ℕ) (d : Decl) → ScopedBlock b fs sc → get_elem? (block_decls b) i ≡ some d → ScopedDecl d (meanings_of (enclosed fs b) ++ sc)
unfolding ScopedBlock block_decls
inner-decl (block at ds ss) fs sc i d h e = subst (ScopedDecl d) (inside-meanings fs at ds ss sc) (scoped-decl ds (inside fs ds sc) i d h.0 e)

scoped-inner : (o e : Enclosing) (sc : Scope) → ScopedBlock o.text o.formals sc → StandsIn e o.text → ScopedBlock e.text e.formals (meanings_of o ++ sc)
unfolding ScopedBlock
scoped-inner o e sc h (as-block i q p) =
    subst (λ (x : List Formal). ScopedBlock e.text x (meanings_of o ++ sc)) (sym p) (inner-stmt o.text o.formals sc i (BK e.text) h q)
scoped-inner o e sc h (as-body i at n q) = inner-decl o.text o.formals sc i (PR at n e.formals e.text) h q

pub scoped-enclosure : (t : Block) → ScopedBlock t [] [] → (e : Enclosing) (es : Enclosure) → Encloses t (e ∷ es) → ScopedBlock e.text e.formals (scope_of es)
unfolding whole scope_of
scoped-enclosure t h e [] w = subst (λ (x : Enclosing). ScopedBlock x.text x.formals []) (sym w) h
scoped-enclosure t h e (o ∷ es) w = scoped-inner o e (scope_of es) (scoped-enclosure t h o es w.1) w.0

pub scoped-action : (t : Block) → Keeps t → (e : Enclosing) (es : Enclosure) → Encloses t (e ∷ es) → (i at : ℕ) (a : Action) → get_elem? (block_stmts e.text) i ≡ some (DO at a) → ScopedAction a (scope_of (e ∷ es))
unfolding scope_of ScopedBlock
scoped-action t h e es w i at a q = inner-stmt e.text e.formals (scope_of es) i (DO at a) (scoped-enclosure t h.scoped e es w) q

seen : (k : Kind) (sc : Scope) (n : ℕ) → Is k sc n → Visible sc n
seen k sc n h = (h.0, h.1)

names-visible : (a : Action) (sc : Scope) → ScopedAction a sc → Each (Visible sc) (action_names a)
unfolding ScopedAction action_names
names-visible (CL p xs) sc h = (seen procedure sc p h.called, h.arguments)
names-visible (GO l) sc h = (seen label sc l h, tt)
names-visible (IF v l) sc h = (seen variable sc v h.0, (seen label sc l h.1, tt))
names-visible (KN t z) sc h = (seen variable sc t h, tt)
names-visible (AR t o a b) sc h = (seen variable sc t h.0, (seen variable sc a h.1, (seen variable sc b h.2, tt)))
names-visible (AD g m) sc h = (seen variable sc g h.0, (seen variable sc m h.1, tt))
names-visible (RM g m) sc h = (seen variable sc g h.0, (seen variable sc m h.1, tt))
names-visible (QY t g m) sc h = (seen variable sc t h.0, (seen variable sc g h.1, (seen variable sc m h.2, tt)))

pub names-have-coordinates : (t : Block) → Keeps t → (e : Enclosing) (es : Enclosure) → Encloses t (e ∷ es) → (i at : ℕ) (a : Action) → get_elem? (block_stmts e.text) i ≡ some (DO at a)
    → Each (λ n. (m : Meaning) × Located (e ∷ es) n m) (action_names a)
names-have-coordinates t h e es w i at a q =
    each_map (Visible (scope_of (e ∷ es))) (λ n. (m : Meaning) × Located (e ∷ es) n m) (action_names a) (λ n v. (v.0, visible-coordinate (e ∷ es) n v.0 v.1)) (names-visible a (scope_of (e ∷ es)) (scoped-action t h e es w i at a q))
