-- A frame's enclosure is one of the text, and an accepted script's are at most 16 deep with at most 32 names a block.
-- `enclosure-of-text`: the blocks along a frame's links enclose one another in the script. `level-bound`, `names-bound`: for a script that
-- keeps the rules (Keeps, of grammar: what the check accepts) a frame's level is from 1 to 16, and a block has at most 32 names.
use Rattle.std.specs.Prelude.{ℕ, zero, suc, ◌+◌, ◌*◌, ◌≤◌, List, [], ◌∷◌, ◌++◌, map, ◌≡◌, length}
use Rattle.std.proofs.Common.{arith, sym, ap, ◌∙◌, subst, length-append}
use Rattle.std.proofs.Math.Option.{some, none-ne-some, some-injective}
use Rattle.std.proofs.Math.ListN.{get_elem?}
use Rattle.std.proofs.lemmas.List.{length-map}
use Rattle.language.specs.Basics.{last?}
use Rattle.language.specs.Text.{Formal, Block, block, Decl, PR, Stmt, BK, Decls, no-decl, decl, Stmts, no-stmt, stmt, decls, stmts, block_decls, block_stmts, decl_name, formal_names, declared_names}
use Rattle.language.specs.Encoding.{formals_fields, decl_fields, stmt_fields, decls_fields}
use Rattle.grammar.specs.Rules.{FormedBlock, FormedDecl, FormedStmt, FormedDecls, FormedStmts, Keeps}
use Rattle.frames.specs.Frame.{Frame, numbered, frame_names}
use Rattle.frames.specs.Numbered.{numbered-zero, last-numbered}
use Rattle.coordinates.specs.Enclosure.{Enclosing, Enclosure, StandsIn, as-block, as-body, whole, Encloses, names_of}
use Rattle.coordinates.specs.Chain.{enclosing, enclosure_of, level_of, Downward, Linked, outermost, within, Chained}
use Rattle.coordinates.proofs.Search.{enclosure-none, enclosure-step}
use Rattle.coordinates.proofs.Coordinates.{level-of-text}
use Rattle.coordinates.proofs.Kept.{chained-downward}

-- by how many frames there may be below
encloses-by : (t : Block) (fs : List Frame) → Chained t fs → (m k : ℕ) (f : Frame) → k ≤ m → numbered fs k ≡ some f → Encloses t (enclosure_of fs k)
unfolding enclosing
encloses-by t fs chain zero k f h e = absurd (none-ne-some f (sym (numbered-zero fs k h) ∙ e))
encloses-by t fs chain (suc m) k f h e = go (λ j g p n. encloses-by t fs chain m j g p n) (chain k f e)
  where
    down : Downward fs
    down = chained-downward t fs chain

    go : ((j : ℕ) (g : Frame) → j ≤ m → numbered fs j ≡ some g → Encloses t (enclosure_of fs j)) → Linked t fs k f → Encloses t (enclosure_of fs k)
    go r (outermost p q w) =
        let s = enclosure-step fs down k f e ∙ ap (λ (es : Enclosure). enclosing f ∷ es) (ap (enclosure_of fs) q ∙ enclosure-none fs 0 (numbered-zero fs 0 (omega arith))) in
        subst (Encloses t) (sym s) w
    go r (within g l n st) =
        let up : enclosure_of fs f.link ≡ enclosing g ∷ enclosure_of fs g.link = enclosure-step fs down f.link g n in
        let s = enclosure-step fs down k f e ∙ ap (λ (es : Enclosure). enclosing f ∷ es) up in
        subst (Encloses t) (sym s) (st, subst (Encloses t) up (r f.link g (omega arith) n))

pub enclosure-of-text : (t : Block) (fs : List Frame) → Chained t fs → (k : ℕ) (f : Frame) → numbered fs k ≡ some f → Encloses t (enclosure_of fs k)
enclosure-of-text t fs chain k f e = encloses-by t fs chain k k f (omega arith) e

pub frame-encloses : (t : Block) (fs : List Frame) → Chained t fs → (k : ℕ) (f : Frame) → numbered fs k ≡ some f → Encloses t (enclosing f ∷ enclosure_of fs f.link)
frame-encloses t fs chain k f e = subst (Encloses t) (enclosure-step fs (chained-downward t fs chain) k f e) (enclosure-of-text t fs chain k f e)

-- what holds of every enclosure in the text whose innermost block is the innermost frame's holds of that frame's enclosure
pub in-innermost : (t : Block) (fs : List Frame) → Chained t fs → (f : Frame) → last? fs ≡ some f → (P : Enclosure → Type 0)
    → ((es : Enclosure) → Encloses t (enclosing f ∷ es) → P (enclosing f ∷ es)) → P (enclosure_of fs (length fs))
in-innermost t fs chain f e P h =
    let n : numbered fs (length fs) ≡ some f = sym (last-numbered fs) ∙ e in
    subst P (sym (enclosure-step fs (chained-downward t fs chain) (length fs) f n)) (h (enclosure_of fs f.link) (frame-encloses t fs chain (length fs) f n))

-- A block that keeps the rules at a level has inner blocks that keep them at the next

formed-stmt : (ss : Stmts) (level here i : ℕ) (b : Block) → FormedStmts ss level here → get_elem? (stmts ss) i ≡ some (BK b) → (there : ℕ) × FormedBlock b (suc level) [] there
unfolding FormedBlock stmts
formed-stmt no-stmt level here i b h e = absurd (none-ne-some (BK b) e)
formed-stmt (stmt x ss) level here zero b h e = (here, subst (λ (y : Stmt). FormedStmt y level here) (some-injective x (BK b) e) h.0)
formed-stmt (stmt x ss) level here (suc i) b h e = formed-stmt ss level (here + 2 * length (stmt_fields x)) i b h.1 e

formed-decl : (ds : Decls) (level s here i at n : ℕ) (fs : List Formal) (b : Block) → FormedDecls ds level s here → get_elem? (decls ds) i ≡ some (PR at n fs b) → (there : ℕ) × FormedBlock b (suc level) fs there
unfolding FormedBlock decls
formed-decl no-decl level s here i at n fs b h e = absurd (none-ne-some (PR at n fs b) e)
formed-decl (decl x ds) level s here zero at n fs b h e =
    (here + 6 + 2 * length (formals_fields fs), (subst (λ (y : Decl). FormedDecl y level s here) (some-injective x (PR at n fs b) e) h.0).body)
formed-decl (decl x ds) level s here (suc i) at n fs b h e = formed-decl ds level s (here + 2 * length (decl_fields x)) i at n fs b h.1 e

formed-inner : (b : Block) (level : ℕ) (fs : List Formal) (here : ℕ) (e : Enclosing) → FormedBlock b level fs here → StandsIn e b → (there : ℕ) × FormedBlock e.text (suc level) e.formals there
unfolding FormedBlock block_stmts block_decls
formed-inner (block at ds ss) level fs here e h (as-block i q p) =
    let k = formed-stmt ss level (here + 6 + 2 * length (decls_fields ds)) i e.text h.statements q in
    (k.0, subst (λ (x : List Formal). FormedBlock e.text (suc level) x k.0) (sym p) k.1)
formed-inner (block at ds ss) level fs here e h (as-body i a n q) = formed-decl ds level (length (stmts ss)) (here + 6) i a n e.formals e.text h.declarations q

-- the innermost block of an enclosure keeps the rules at its level
pub formed-enclosure : (t : Block) → FormedBlock t 1 [] 0 → (e : Enclosing) (es : Enclosure) → Encloses t (e ∷ es) → (here : ℕ) × FormedBlock e.text (suc (length es)) e.formals here
unfolding whole
formed-enclosure t h e [] w = (0, subst (λ (x : Enclosing). FormedBlock x.text 1 x.formals 0) (sym w) h)
formed-enclosure t h e (o ∷ es) w =
    let k = formed-enclosure t h o es w.1 in
    formed-inner o.text (suc (length es)) o.formals k.0 e k.1 w.0

formed-level : (b : Block) (level : ℕ) (fs : List Formal) (here : ℕ) → FormedBlock b level fs here → level ≤ 16
unfolding FormedBlock
formed-level (block at ds ss) level fs here h = h.nesting

pub formed-names : (b : Block) (level : ℕ) (fs : List Formal) (here : ℕ) → FormedBlock b level fs here → length (formal_names fs ++ declared_names b) ≤ 32
unfolding FormedBlock formal_names declared_names block_decls
formed-names (block at ds ss) level fs here h =
    omega (arith, h.few, length-append (map (λ (f : Formal). f.name) fs) (map decl_name (decls ds)), length-map fs (λ (f : Formal). f.name), length-map (decls ds) decl_name)

pub enclosure-level : (t : Block) → Keeps t → (es : Enclosure) → Encloses t es → (1 ≤ length es) × (length es ≤ 16)
enclosure-level t h [] w = absurd w
enclosure-level t h (e ∷ es) w = let k = formed-enclosure t h.formed e es w in (omega arith, formed-level e.text (suc (length es)) e.formals k.0 k.1)

pub enclosure-names : (t : Block) → Keeps t → (e : Enclosing) (es : Enclosure) → Encloses t (e ∷ es) → length (names_of e) ≤ 32
unfolding names_of
enclosure-names t h e es w = let k = formed-enclosure t h.formed e es w in formed-names e.text (suc (length es)) e.formals k.0 k.1

pub level-bound : (t : Block) → Keeps t → (fs : List Frame) → Chained t fs → (k : ℕ) (f : Frame) → numbered fs k ≡ some f → (1 ≤ level_of fs k) × (level_of fs k ≤ 16)
level-bound t h fs chain k f e = rw (level-of-text fs k) (enclosure-level t h (enclosure_of fs k) (enclosure-of-text t fs chain k f e))

pub names-bound : (t : Block) → Keeps t → (fs : List Frame) → Chained t fs → (k : ℕ) (f : Frame) → numbered fs k ≡ some f → length (frame_names f) ≤ 32
unfolding frame_names names_of enclosing
names-bound t h fs chain k f e = enclosure-names t h (enclosing f) (enclosure_of fs f.link) (frame-encloses t fs chain k f e)
