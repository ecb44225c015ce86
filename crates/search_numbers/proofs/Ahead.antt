-- The records still to come, after one more: `past-block`, where it begins a block, and `past-formal` to `past-procedure`, where it begins none.
-- Assumes nothing.
use Prim.Native.Nat.{ℕ, suc, ◌+◌, ◌*◌, ◌/◌, ◌≤◌, ◌<◌}
use native.Mathlib.Omega.{arith}
use mathlib.Core.List.{List, [], ◌∷◌, ◌++◌, map}
use mathlib.Core.Path.{◌≡◌, refl, sym, ap, ◌∙◌, subst}
use lib.ListN.{length, get_or, set, length-append}
use lib.Seq.{get_or-set_same, get_or-set_other}
use Rattle.language.specs.Text.{Formal, Action, Block, block, VR, LB, PR, DO, Decls, no-decl, decl, Stmts, no-stmt, stmt, decls, stmts, block_at}
use Rattle.language.specs.Encoding.{formals_fields, block_fields, decls_fields}
use Rattle.grammar.specs.Rules.{FormedBlock, FormedDecls, FormedStmts, Keeps}
use Rattle.coordinates.specs.Enclosure.{enclosed, Enclosure}
use Rattle.resolved.specs.Resolved.{place_of}
use Rattle.resolved.proofs.NameWords.{Narrow, narrow-inner}
use Rattle.check_extents.specs.Items.{Item, formal, body, declared, stated, item_fields, items_fields, in_block, children, block_head, head_fields}
use Rattle.check_extents.proofs.Inside.{formal-items, decl-items, item-opens}
use Rattle.resolve_fields.specs.Parts.{Part, placed, inside}
use Rattle.search_numbers.specs.Around.{Around, FormedItem, Ahead}

-- One block more is noted

around-set : (around : List ℕ) (es : Enclosure) (k v : ℕ) → length es < k → Around around es → Around (set around k v) es
around-set around [] k v l h = get_or-set_other around k 0 v 0 (λ e. omega arith) ∙ h
around-set around (e ∷ es) k v l h = (get_or-set_other around k (suc (length es)) v 0 (λ z. omega arith) ∙ h.0, around-set around es k v (omega arith) h.1)

ahead-set : (around : List ℕ) (k v depth at : ℕ) (ps : List Part) → depth < k → Ahead around depth at ps → Ahead (set around k v) depth at ps
ahead-set around k v depth at [] l h = tt
ahead-set around k v depth at (p ∷ ps) l h =
    let d = h.0 in
    let low = d.shallow in (
      record { formed = d.formed; narrow = d.narrow; noted = around-set around p.around k v (omega arith) d.noted; shallow = low },
      ahead-set around k v (length p.around) (at + 2 * length (item_fields p.item)) ps (omega arith) h.1,
    )

-- The records inside one

-- records one after the other keep the rules
abbrev FormedItems : List Item → List Formal → ℕ → ℕ → Type 0
FormedItems [] fs level at = Unit {0}
FormedItems (x ∷ xs) fs level at = FormedItem x fs level at × FormedItems xs fs level (at + 2 * length (item_fields x))

module _ (fs : List Formal) (level : ℕ) where
  formed-both : (xs ys : List Item) (at : ℕ) → FormedItems xs fs level at → FormedItems ys fs level (at + 2 * length (items_fields xs)) → FormedItems (xs ++ ys) fs level at
  unfolding items_fields
  formed-both [] ys at h k = let z : at + 2 * 0 ≡ at = omega arith in subst (FormedItems ys fs level) z k
  formed-both (x ∷ xs) ys at h k =
      let z : at + 2 * length (item_fields x ++ items_fields xs) ≡ at + 2 * length (item_fields x) + 2 * length (items_fields xs) = omega (arith, length-append (item_fields x) (items_fields xs)) in
      (h.0, formed-both xs ys (at + 2 * length (item_fields x)) h.1 (subst (FormedItems ys fs level) z k))

  formed-formals : (gs : List Formal) (at : ℕ) → FormedItems (map formal gs) fs level at
  formed-formals [] at = tt
  formed-formals (g ∷ gs) at = (tt, formed-formals gs _)

  formed-decls : (ds : Decls) (s at : ℕ) → FormedDecls ds level s at → FormedItems (map declared (decls ds)) fs level at
  unfolding decls item_fields FormedBlock
  formed-decls no-decl s at h = tt
  formed-decls (decl d ds) s at h = ((s, h.0), formed-decls ds s _ h.1)

  formed-stmts : (ss : Stmts) (at : ℕ) → FormedStmts ss level at → FormedItems (map stated (stmts ss)) fs level at
  unfolding stmts item_fields FormedBlock
  formed-stmts no-stmt at h = tt
  formed-stmts (stmt x ss) at h = (h.0, formed-stmts ss _ h.1)

formed-inside : (b : Block) (fs : List Formal) (level at : ℕ) → FormedBlock b (suc level) fs at → FormedItems (in_block b) [] (suc level) (at + 2 * length (block_head b))
unfolding in_block block_head FormedBlock
formed-inside (block o ds ss) fs level at h =
    let z : at + 6 + 2 * length (decls_fields ds) ≡ at + 6 + 2 * length (items_fields (map declared (decls ds))) = ap (λ (ws : List ℕ). at + 6 + 2 * length ws) (decl-items ds) in
    formed-both [] (suc level) (map declared (decls ds)) (map stated (stmts ss)) (at + 6) (formed-decls [] (suc level) ds _ (at + 6) h.declarations)
    (subst (FormedItems (map stated (stmts ss)) [] (suc level)) z (formed-stmts [] (suc level) ss _ h.statements))

deeper : (around : List ℕ) (depth depth' at : ℕ) (ps : List Part) → depth ≤ depth' → Ahead around depth at ps → Ahead around depth' at ps
deeper around depth depth' at [] l h = tt
deeper around depth depth' at (p ∷ ps) l h =
    let d = h.0 in
    let low = d.shallow in
    (record { formed = d.formed; narrow = d.narrow; noted = d.noted; shallow = omega arith }, h.1)

-- records of one enclosure, and then others
items-ahead :
    (around : List ℕ) (fs : List Formal) (es : Enclosure) → Narrow es → Around around es → (xs : List Item) (depth at : ℕ) (ps : List Part) → length es ≤ depth →
    FormedItems xs fs (length es) at → Ahead around (length es) (at + 2 * length (items_fields xs)) ps → Ahead around depth at (map (placed fs es) xs ++ ps)
unfolding items_fields
items-ahead around fs es narrow noted [] depth at ps l f h =
    let z : at + 2 * 0 ≡ at = omega arith in
    deeper around (length es) depth at ps l (subst (λ (o : ℕ). Ahead around (length es) o ps) z h)
items-ahead around fs es narrow noted (x ∷ xs) depth at ps l f h =
    let z : at + 2 * length (item_fields x ++ items_fields xs) ≡ at + 2 * length (item_fields x) + 2 * length (items_fields xs) = omega (arith, length-append (item_fields x) (items_fields xs)) in (
      record { formed = f.0; narrow = narrow; noted = noted; shallow = l },
      items-ahead around fs es narrow noted xs (length es) (at + 2 * length (item_fields x)) ps (omega arith) f.1 (subst (λ (o : ℕ). Ahead around (length es) o ps) z h),
    )

-- the records inside x, whose enclosure is os, come before those that came after x, whose enclosures are no deeper than es
past :
    (around : List ℕ) (x : Item) (fs : List Formal) (es os : Enclosure) (at : ℕ) (ps : List Part) → Narrow os → Around around os → length es ≤ length os →
    FormedItems (children x) fs (length os) (at + 2 * length (head_fields x)) → Ahead around (length es) (at + 2 * length (item_fields x)) ps →
    Ahead around 16 (at + 2 * length (head_fields x)) (map (placed fs os) (children x) ++ ps)
past around x fs es os at ps narrow noted l f h =
    let n = length-append (head_fields x) (items_fields (children x)) in
    let z : at + 2 * length (item_fields x) ≡ at + 2 * length (head_fields x) + 2 * length (items_fields (children x)) = omega (arith, ap length (item-opens x)) in
    items-ahead around fs os narrow noted (children x) 16 (at + 2 * length (head_fields x)) ps narrow.shallow f
    (deeper around (length es) (length os) _ ps l (subst (λ (o : ℕ). Ahead around (length es) o ps) z h))

-- A record that begins no block

module _ (around : List ℕ) (fs : List Formal) (es : Enclosure) (at : ℕ) (ps : List Part) where
  abbrev Before : Item → Type 0
  Before x = Ahead around 16 at (placed fs es x ∷ ps)

  abbrev After : Item → Type 0
  After x = Ahead around 16 (at + 2 * length (head_fields x)) (inside x fs es ++ ps)

  leaf : (x : Item) → children x ≡ [] → Before x → Ahead around 16 (at + 2 * length (head_fields x)) ps
  leaf x e h =
      let f : FormedItems (children x) fs (length es) (at + 2 * length (head_fields x)) = subst (λ (l : List Item). FormedItems l fs (length es) (at + 2 * length (head_fields x))) (sym e) tt in
      subst (λ (l : List Item). Ahead around 16 (at + 2 * length (head_fields x)) (map (placed fs es) l ++ ps)) e
      (past around x fs es es at ps h.0.narrow h.0.noted (omega arith) f h.1)

  pub past-formal : (f : Formal) → Before (formal f) → After (formal f)
  unfolding inside children
  past-formal f = leaf (formal f) refl

  pub past-variable : (o n : ℕ) → Before (declared (VR o n)) → After (declared (VR o n))
  unfolding inside children
  past-variable o n = leaf (declared (VR o n)) refl

  pub past-label : (o n i : ℕ) → Before (declared (LB o n i)) → After (declared (LB o n i))
  unfolding inside children
  past-label o n i = leaf (declared (LB o n i)) refl

  pub past-action : (o : ℕ) (a : Action) → Before (stated (DO o a)) → After (stated (DO o a))
  unfolding inside children
  past-action o a = leaf (stated (DO o a)) refl

  pub past-procedure : (o n : ℕ) (gs : List Formal) (b : Block) → Before (declared (PR o n gs b)) → After (declared (PR o n gs b))
  unfolding inside children head_fields FormedBlock
  past-procedure o n gs b h =
      let z : at + 6 + 2 * length (formals_fields gs) ≡ at + 6 + 2 * length (items_fields (map formal gs)) = ap (λ (ws : List ℕ). at + 6 + 2 * length ws) (formal-items gs) in
      let formed : FormedItems (map formal gs ++ (body b ∷ [])) gs (length es) (at + 6) =
      formed-both gs (length es) (map formal gs) (body b ∷ []) (at + 6) (formed-formals gs (length es) gs (at + 6)) (subst (FormedBlock b (suc (length es)) gs) z h.0.formed.1.body, tt) in
      past around (declared (PR o n gs b)) gs es es at ps h.0.narrow h.0.noted (omega arith) formed h.1

-- A record that begins a block

pub record Opened (around : List ℕ) (fs : List Formal) (b : Block) (es : Enclosure) (at : ℕ) (ps : List Part) : Type 0 where
  pub narrow : Narrow (enclosed fs b ∷ es)
  pub noted : Around around (enclosed fs b ∷ es)
  pub ahead : Ahead around 16 (at + 2 * length (block_head b)) (map (placed [] (enclosed fs b ∷ es)) (in_block b) ++ ps)

place-of : (b : Block) (level : ℕ) (fs : List Formal) (at : ℕ) → FormedBlock b level fs at → place_of (block_at b) ≡ at / 2
unfolding FormedBlock block_at
place-of (block o ds ss) level fs at h = ap place_of h.stands

pub past-block :
    (around : List ℕ) (fs : List Formal) (b : Block) (es : Enclosure) (at : ℕ) (ps : List Part) → length around ≡ 256 → FormedBlock b (suc (length es)) fs at → Narrow es → Around around es →
    Ahead around (length es) (at + 2 * length (block_fields b)) ps → Opened (set around (suc (length es)) (at / 2)) fs b es at ps
unfolding head_fields item_fields children
past-block around fs b es at ps long f narrow noted h =
    let os = enclosed fs b ∷ es in
    let deep = narrow-inner b fs es at narrow f in
    let low : length es < 16 = deep.shallow in
    let around' = set around (suc (length es)) (at / 2) in
    let here : get_or around' (suc (length es)) 0 ≡ place_of (block_at b) = get_or-set_same around (suc (length es)) (at / 2) 0 (omega arith) ∙ sym (place-of b (suc (length es)) fs at f) in
    let more : Around around' os = (here, around-set around es (suc (length es)) (at / 2) (omega arith) noted) in
    record {
      narrow = deep;
      noted = more;
      ahead = past around' (body b) [] es os at ps deep more (omega arith) (formed-inside b fs (length es) at f)
          (ahead-set around (suc (length es)) (at / 2) (length es) _ ps (omega arith) h);
    }

-- The program

pub program-ahead : (around : List ℕ) (t : Block) → get_or around 0 0 ≡ 0 → Keeps t → Ahead around 16 0 (placed [] [] (body t) ∷ [])
program-ahead around t z keeps = (record { formed = keeps.formed; narrow = record { shallow = omega arith; few = tt }; noted = z; shallow = omega arith }, tt)
