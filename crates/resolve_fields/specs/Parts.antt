-- The records of a script one by one, in file order, with the enclosure in which each stands: what a record's own words are before those of the
-- records inside it, in any layout. `parts-open`: the first record's own words, then those of the records inside it and of all others.
use Rattle.std.specs.Prelude.{ℕ, ◌≡◌}
use mathlib.Core.List.{List, [], ◌∷◌, ◌++◌, map, append-nil, append_assoc}
use Rattle.std.proofs.Math.Path.{refl, sym, ap}
use Rattle.std.proofs.Common.{◌∙◌}
use Rattle.language.specs.Text.{Formal, Block, block, VR, LB, PR, BK, DO, Decls, no-decl, decl, Stmts, no-stmt, stmt, decls, stmts}
use Rattle.check_extents.specs.Items.{Item, formal, body, declared, stated, in_block}
use Rattle.coordinates.specs.Enclosure.{enclosed, Enclosure}
use Rattle.resolve_fields.specs.Layout.{Layout}

-- a record, the formals of the body that it is, and the blocks around it
pub record Part : Type 0 where
  pub item : Item
  pub formals : List Formal
  pub around : Enclosure

abbrev pub placed : List Formal → Enclosure → Item → Part
placed fs es x = record { item = x; formals = fs; around = es }

unfoldable pub item_words : Layout → Item → List Formal → Enclosure → List ℕ
item_words l (formal f) fs es = l.of_formals (f ∷ [])
item_words l (body b) fs es = l.of_block b fs es
item_words l (declared d) fs es = l.of_decl d es
item_words l (stated x) fs es = l.of_stmt x es

unfoldable pub parts_words : Layout → List Part → List ℕ
parts_words l [] = []
parts_words l (p ∷ ps) = item_words l p.item p.formals p.around ++ parts_words l ps

-- a record's own words
unfoldable pub own_words : Layout → Item → List Formal → Enclosure → List ℕ
own_words l (formal f) fs es = l.of_formals (f ∷ [])
own_words l (body b) fs es = l.of_head (enclosed fs b) es
own_words l (declared (VR at n)) fs es = l.of_decl (VR at n) es
own_words l (declared (LB at n i)) fs es = l.of_decl (LB at n i) es
own_words l (declared (PR at n gs b)) fs es = l.of_heading n gs es
own_words l (stated (BK b)) fs es = l.of_head (enclosed [] b) es
own_words l (stated (DO at a)) fs es = l.of_stmt (DO at a) es

-- the records inside one
unfoldable pub inside : Item → List Formal → Enclosure → List Part
inside (formal f) fs es = []
inside (body b) fs es = map (placed [] (enclosed fs b ∷ es)) (in_block b)
inside (declared (VR at n)) fs es = []
inside (declared (LB at n i)) fs es = []
inside (declared (PR at n gs b)) fs es = map (placed gs es) (map formal gs ++ (body b ∷ []))
inside (stated (BK b)) fs es = map (placed [] (enclosed [] b ∷ es)) (in_block b)
inside (stated (DO at a)) fs es = []

map_both : {A B : Type 0} (g : A → B) (xs ys : List A) → map g (xs ++ ys) ≡ map g xs ++ map g ys
map_both g [] ys = refl
map_both g (x ∷ xs) ys = ap (λ zs. g x ∷ zs) (map_both g xs ys)

module _ (l : Layout) where
  pub parts-append : (ps qs : List Part) → parts_words l (ps ++ qs) ≡ parts_words l ps ++ parts_words l qs
  unfolding parts_words
  parts-append [] qs = refl
  parts-append (p ∷ ps) qs =
      let ws = item_words l p.item p.formals p.around in
      ap (λ (zs : List ℕ). ws ++ zs) (parts-append ps qs) ∙ sym (append_assoc ws (parts_words l ps) (parts_words l qs))

  both_words : (fs : List Formal) (es : Enclosure) (xs ys : List Item) → parts_words l (map (placed fs es) (xs ++ ys)) ≡ parts_words l (map (placed fs es) xs) ++ parts_words l (map (placed fs es) ys)
  both_words fs es xs ys = ap (parts_words l) (map_both (placed fs es) xs ys) ∙ parts-append (map (placed fs es) xs) (map (placed fs es) ys)

  formals-words : (fs : List Formal) (es : Enclosure) (gs : List Formal) → parts_words l (map (placed fs es) (map formal gs)) ≡ l.of_formals gs
  unfolding parts_words item_words
  formals-words fs es [] = sym l.no-formals
  formals-words fs es (g ∷ gs) = ap (λ (zs : List ℕ). l.of_formals (g ∷ []) ++ zs) (formals-words fs es gs) ∙ sym (l.formals-open g gs)

  decls-words : (fs : List Formal) (es : Enclosure) (ds : Decls) → parts_words l (map (placed fs es) (map declared (decls ds))) ≡ l.of_decls ds es
  unfolding parts_words item_words decls
  decls-words fs es no-decl = sym (l.no-decls es)
  decls-words fs es (decl d ds) = ap (λ (zs : List ℕ). l.of_decl d es ++ zs) (decls-words fs es ds) ∙ sym (l.decls-open d ds es)

  stmts-words : (fs : List Formal) (es : Enclosure) (ss : Stmts) → parts_words l (map (placed fs es) (map stated (stmts ss))) ≡ l.of_stmts ss es
  unfolding parts_words item_words stmts
  stmts-words fs es no-stmt = sym (l.no-stmts es)
  stmts-words fs es (stmt x ss) = ap (λ (zs : List ℕ). l.of_stmt x es ++ zs) (stmts-words fs es ss) ∙ sym (l.stmts-open x ss es)

  block_words : (b : Block) (fs : List Formal) (es : Enclosure)
      → l.of_block b fs es ≡ l.of_head (enclosed fs b) es ++ parts_words l (map (placed [] (enclosed fs b ∷ es)) (in_block b))
  unfolding in_block
  block_words (block at ds ss) fs es =
      let e = enclosed fs (block at ds ss) in
      l.block-opens at ds ss fs es
      ∙ ap (λ (zs : List ℕ). l.of_head e es ++ zs) (sym (both_words [] (e ∷ es) (map declared (decls ds)) (map stated (stmts ss)) ∙ λ i. decls-words [] (e ∷ es) ds i ++ stmts-words [] (e ∷ es) ss i))

  alone : (ws : List ℕ) → ws ≡ ws ++ parts_words l []
  unfolding parts_words
  alone ws = sym (append-nil ws)

  body-words : (gs : List Formal) (b : Block) (es : Enclosure) → parts_words l (map (placed gs es) (map formal gs ++ (body b ∷ []))) ≡ l.of_formals gs ++ l.of_block b gs es
  unfolding parts_words item_words
  body-words gs b es = both_words gs es (map formal gs) (body b ∷ []) ∙ λ i. formals-words gs es gs i ++ append-nil (l.of_block b gs es) i

  item-opens : (x : Item) (fs : List Formal) (es : Enclosure) → item_words l x fs es ≡ own_words l x fs es ++ parts_words l (inside x fs es)
  unfolding item_words own_words inside
  item-opens (formal f) fs es = alone (l.of_formals (f ∷ []))
  item-opens (body b) fs es = block_words b fs es
  item-opens (declared (VR at n)) fs es = alone (l.of_decl (VR at n) es)
  item-opens (declared (LB at n i)) fs es = alone (l.of_decl (LB at n i) es)
  item-opens (declared (PR at n gs b)) fs es = l.procedure-opens at n gs b es ∙ ap (λ (zs : List ℕ). l.of_heading n gs es ++ zs) (sym (body-words gs b es))
  item-opens (stated (BK b)) fs es = l.inner_block b es ∙ block_words b [] es
  item-opens (stated (DO at a)) fs es = alone (l.of_stmt (DO at a) es)

  pub parts-open : (x : Item) (fs : List Formal) (es : Enclosure) (ps : List Part)
      → parts_words l (placed fs es x ∷ ps) ≡ own_words l x fs es ++ parts_words l (inside x fs es ++ ps)
  unfolding parts_words
  parts-open x fs es ps =
      ap (λ (zs : List ℕ). zs ++ parts_words l ps) (item-opens x fs es)
      ∙ append_assoc (own_words l x fs es) (parts_words l (inside x fs es)) (parts_words l ps)
      ∙ ap (λ (zs : List ℕ). own_words l x fs es ++ zs) (sym (parts-append (inside x fs es) ps))
