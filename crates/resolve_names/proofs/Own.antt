-- A block's own names before those around it.
-- Assumes nothing.
use mathlib.Core.Path.{◌≡◌, refl, sym, ◌∙◌, ap, ap₂, subst}
use mathlib.Core.List.{List, [], ◌∷◌, ◌++◌, map, map-append, append_assoc}
use Prim.Native.Nat.{ℕ, suc, ◌+◌, ◌*◌, ◌/◌, ◌<◌, ◌≤◌}
use native.Mathlib.Omega.{arith}
use lib.ListN.{length, get_or, take, drop, length-append, length-map}
use lib.Seq.{get_or-take}
use Rattle.language.specs.Basics.{zip}
use Rattle.language.specs.Text.{Formal, Block, block, Decl, VR, LB, PR, Decls, no-decl, decl, Stmts, decls, stmts, decl_name, block_at, block_decls, block_stmts, formal_names, declared_names}
use Rattle.language.specs.Encoding.{formals_fields, block_fields, decl_fields, decls_fields, stmts_fields, BK-mark, LB-mark}
use Rattle.laws.specs.Each.{Each, each_append}
use Rattle.laws.specs.Lookup.{zip-append}
use Rattle.grammar.specs.Rules.{FormedFormals, FormedBlock, FormedDecl, FormedDecls, FormedStmts}
use Rattle.coordinates.specs.Enclosure.{enclosed, Enclosure, names_of}
use Rattle.resolved.specs.Resolved.{packed, decl_target, decl_kind_field, formal_words, decl_words, own_words, visible_words, stmt_place}
use Rattle.resolved.proofs.NameWords.{kind-small}
use Rattle.laws.specs.Fields.{field_at, FieldsStand, fields-first, fields-after, fields-third}
use Rattle.check_extents.specs.Items.{declared, stated, items_fields}
use Rattle.check_extents.proofs.Inside.{decl-items, stmt-items}
use Rattle.check_scope.specs.Walking.{BlockHere}
use Rattle.check_scope.proofs.Blocks.{stacked}
use Rattle.resolve_words.specs.Visible.{Fits, Shown, entry_of}
use Rattle.resolve_names.specs.Declared.{starts_of, Started, Noted, IfLabelled, Stated, OwnPut, formal_entries, decl_entries, Declares}
use Rattle.resolve_names.proofs.Declarations.{formals-put, decls-put}
use Rattle.resolve_names.proofs.Statements.{stmts-two, decls-two, stated-there, place-near, first-place}

formals-counted : (level i : ℕ) (fs : List Formal) → length (formal_names fs) ≡ length (formal_words level i fs)
unfolding formal_names formal_words
formals-counted level i [] = refl
formals-counted level i (f ∷ fs) = ap suc (formals-counted level (suc i) fs)

formals-fit : (level i : ℕ) (fs : List Formal) (here : ℕ) → FormedFormals fs here → i + length fs ≤ 32 → level ≤ 16 → Each Fits (zip (formal_names fs) (formal_words level i fs))
unfolding formal_names formal_words zip FormedFormals packed
formals-fit level i [] here h few low = tt
formals-fit level i (f ∷ fs) here h few low =
    ((h.name, omega (arith, kind-small f.kind)), formals-fit level (suc i) fs (here + 6) h.rest (omega arith) low)

-- a declaration's name and target
module _ (b : Block) (near : (i : ℕ) → 1 ≤ i → i ≤ length (block_stmts b) → stmt_place b i ≤ 4096) (k : ℕ) where
  body_at : (c : Block) (fs : List Formal) (o : ℕ) → FormedBlock c (suc k) fs o → block_at c ≡ o
  unfolding FormedBlock block_at
  body_at (block x ds ss) fs o h = h.stands

  decl-fits : (level i : ℕ) (x : Decl) (here : ℕ) → FormedDecl x k (length (block_stmts b)) here → here + 2 * length (decl_fields x) ≤ 8192 → i < 32 → level ≤ 16 → Fits (decl_name x, packed i 0 (decl_kind_field x) level (decl_target b x))
  unfolding FormedDecl decl_fields decl_name decl_kind_field decl_target packed
  decl-fits level i (VR o n) here h within few low = (h.name, omega arith)
  decl-fits level i (LB o n j) here h within few low = (h.name, omega (arith, near j h.first h.last))
  decl-fits level i (PR o n fs c) here h within few low =
      (h.name, omega (arith, body_at c fs (here + 6 + 2 * length (formals_fields fs)) h.body, length-append (formals_fields fs) (block_fields c)))

  decls-fit : (level i : ℕ) (ds : Decls) (here : ℕ) → FormedDecls ds k (length (block_stmts b)) here → here + 2 * length (decls_fields ds) ≤ 8192 → i + length (decls ds) ≤ 32 → level ≤ 16 → Each Fits (zip (map decl_name (decls ds)) (decl_words b level i (decls ds)))
  unfolding FormedDecls decls_fields decls decl_words zip
  decls-fit level i no-decl here h within few low = tt
  decls-fit level i (decl x ds) here h within few low =
      let l = length-append (decl_fields x) (decls_fields ds) in
      (decl-fits level i x here h.0 (omega arith) (omega arith) low, decls-fit level (suc i) ds (here + 2 * length (decl_fields x)) h.1 (omega arith) (omega arith) low)

-- what the enclosure with the block shows
module _ (o : ℕ) (ds : Decls) (ss : Stmts) (fs : List Formal) (encl : Enclosure) (level : ℕ) (depth : suc (length encl) ≡ level) where
  abbrev own : List (ℕ × ℕ)
  own = zip (formal_names fs) (formal_words level 0 fs) ++ zip (map decl_name (decls ds)) (decl_words (block o ds ss) level (length fs) (decls ds))

  visible-is : visible_words (enclosed fs (block o ds ss) ∷ encl) ≡ own ++ visible_words encl
  unfolding visible_words names_of own_words declared_names block_decls
  visible-is =
      rw depth
      (ap (λ (l : List (ℕ × ℕ)). l ++ visible_words encl)
      (sym (zip-append (formal_names fs) (formal_words level 0 fs) (map decl_name (decls ds)) (decl_words (block o ds ss) level (length fs) (decls ds)) (formals-counted level 0 fs))))

  entries-are : map entry_of (own ++ visible_words encl) ≡ formal_entries level 0 fs ++ (decl_entries (block o ds ss) level (length fs) (decls ds) ++ map entry_of (visible_words encl))
  unfolding formal_entries decl_entries
  entries-are =
      map-append entry_of own (visible_words encl)
      ∙ ap (λ (l : List ℕ). l ++ map entry_of (visible_words encl)) (map-append entry_of (zip (formal_names fs) (formal_words level 0 fs)) (zip (map decl_name (decls ds)) (decl_words (block o ds ss) level (length fs) (decls ds))))
      ∙ append_assoc (map entry_of (zip (formal_names fs) (formal_words level 0 fs))) (map entry_of (zip (map decl_name (decls ds)) (decl_words (block o ds ss) level (length fs) (decls ds)))) (map entry_of (visible_words encl))

module _ (bs : List ℕ) (at count d base level : ℕ) where
  abbrev start : ℕ
  start = at + 6 * count

  abbrev top : ℕ
  top = base + (count + d)

  module _ (o : ℕ) (ds : Decls) (ss : Stmts) (fs : List Formal) (h : BlockHere bs at count top (block o ds ss) fs level) (within : start + 2 * length (block_fields (block o ds ss)) ≤ 8192)
      (s : ℕ) (d-read : d ≡ field_at bs (start + 2)) (s_read : s ≡ field_at bs (start + 4)) where
    abbrev first : ℕ
    first = start + 6 + 2 * length (decls_fields ds)

    d-is : d ≡ length (decls ds)
    unfolding block_fields
    d-is = d-read ∙ h.stand.1.0

    s-is : s ≡ length (stmts ss)
    unfolding block_fields
    s-is = s_read ∙ fields-third bs start BK-mark (length (decls ds)) (length (stmts ss)) (decls_fields ds ++ stmts_fields ss) h.stand

    inside : FieldsStand bs (start + 6) (decls_fields ds ++ stmts_fields ss)
    unfolding block_fields
    inside = fields-after bs start (BK-mark ∷ length (decls ds) ∷ length (stmts ss) ∷ []) (decls_fields ds ++ stmts_fields ss) h.stand

    decls-stand : FieldsStand bs (start + 6) (decls_fields ds)
    decls-stand = fields-first bs (start + 6) (decls_fields ds) (stmts_fields ss) inside

    stmts-stand : FieldsStand bs first (stmts_fields ss)
    stmts-stand = fields-after bs (start + 6) (decls_fields ds) (stmts_fields ss) inside

    decls-formed : FormedDecls ds level (length (stmts ss)) (start + 6)
    unfolding FormedBlock
    decls-formed = h.formed.declarations

    stmts-formed : FormedStmts ss level first
    unfolding FormedBlock
    stmts-formed = h.formed.statements

    few : count + length (decls ds) ≤ 32
    unfolding FormedBlock
    few = omega (arith, h.number, h.formed.few)

    low : level ≤ 16
    unfolding FormedBlock
    low = h.formed.nesting

    reach : first + 2 * length (stmts_fields ss) ≤ 8192
    unfolding block_fields
    reach = omega (arith, within, length-append (decls_fields ds) (stmts_fields ss))

    numbered : d + s ≤ 2048
    numbered = omega (arith, reach, decls-two ds, stmts-two ss, d-is, s-is)

    o_is : o ≡ start
    unfolding FormedBlock
    o_is = h.formed.stands

    module _ (st₁ st₂ : List ℕ) (long₁ : 2048 ≤ length st₁) (long₂ : 2048 ≤ length st₂) (f : ℕ) (decls-started : Started bs (start + 6) d 0 st₁ f)
        (stmts-started : (k : ℕ) → k < d → field_at bs (get_or st₁ k 0) ≡ LB-mark → (end : ℕ) × Started bs f s d st₂ end) (kept-starts : take d st₂ ≡ take d st₁) where
      decls-there : (take d st₁ ≡ starts_of (map declared (decls ds)) (start + 6)) × (f ≡ start + 6 + 2 * length (items_fields (map declared (decls ds))))
      decls-there =
          decls-started (map declared (decls ds)) (length-map (decls ds) declared ∙ sym d-is) (subst (FieldsStand bs (start + 6)) (decl-items ds) decls-stand) (omega (arith, numbered))

      f-is : f ≡ first
      f-is = decls-there.1 ∙ ap (λ (l : List ℕ). start + 6 + 2 * length l) (sym (decl-items ds))

      stmts-there : (e : ℕ) → Started bs f s d st₂ e → take (length (stmts ss)) (drop d st₂) ≡ starts_of (map stated (stmts ss)) first
      stmts-there e started =
          let t = started (map stated (stmts ss)) (length-map (stmts ss) stated ∙ sym s-is)
          (subst (λ (x : ℕ). FieldsStand bs x (items_fields (map stated (stmts ss)))) (sym f-is) (subst (FieldsStand bs first) (stmt-items ss) stmts-stand)) (omega (arith, numbered)) in
          ap (λ (k : ℕ). take k (drop d st₂)) (sym s-is) ∙ t.0 ∙ ap (starts_of (map stated (stmts ss))) f-is

      same-starts : (k : ℕ) → k < d → get_or st₁ k 0 ≡ get_or st₂ k 0
      same-starts k l = sym (get_or-take d st₁ k 0 l) ∙ ap (λ (x : List ℕ). get_or x k 0) (sym kept-starts) ∙ get_or-take d st₂ k 0 l

      stated-here : (k : ℕ) → k < d → field_at bs (get_or st₂ k 0) ≡ LB-mark → Stated (block o ds ss) d st₂
      stated-here k l m =
          let r = stmts-started k l (ap (field_at bs) (same-starts k l) ∙ m) in
          stated-there o ds ss level first stmts-formed d st₂ (stmts-there r.0 r.1)

      first-near : f ≤ 8192
      first-near = omega (arith, f-is, reach)

      first-leads : f / 2 ≡ stmt_place (block o ds ss) 1
      first-leads =
          ap (λ (x : ℕ). x / 2) f-is ∙ ap (λ (x : ℕ). (x + 6 + 2 * length (decls_fields ds)) / 2) (sym o_is)
          ∙ first-place o ds ss level (subst (λ (x : ℕ). FormedStmts ss level (x + 6 + 2 * length (decls_fields ds))) (sym o_is) stmts-formed)

      module _ (encl : Enclosure) (depth : suc (length encl) ≡ level) (es₀ es : List ℕ) (shown : Shown encl (drop top es₀)) (room : top ≤ length es₀)
          (put : OwnPut bs st₂ es₀ es at count d base level) where
        decls-there-put : take d (drop (base + count) es) ≡ decl_entries (block o ds ss) level (length fs) (decls ds)
        unfolding block_stmts
        decls-there-put =
            decls-put bs st₂ es₀ es at count d base level put room (block o ds ss) ds level (start + 6) (sym d-is) decls-stand decls-formed (kept-starts ∙ decls-there.0) stated-here
            ∙ ap (λ (i : ℕ). decl_entries (block o ds ss) level i (decls ds)) (sym h.number)

        formals-there-put : take count (drop base es) ≡ formal_entries level 0 fs
        formals-there-put = formals-put bs st₂ es₀ es at count d base level put room fs h.number h.formals

        before : drop (base + count + d) es ≡ drop (base + count + d) es₀
        before = let e : base + (count + d) ≡ base + count + d = omega arith in rw e at put.above

        all_fit : Each Fits (own o ds ss fs encl level depth ++ visible_words encl)
        unfolding block_stmts
        all_fit =
            each_append Fits (own o ds ss fs encl level depth) (visible_words encl)
            (each_append Fits (zip (formal_names fs) (formal_words level 0 fs)) (zip (map decl_name (decls ds)) (decl_words (block o ds ss) level (length fs) (decls ds)))
            (formals-fit level 0 fs at h.named (omega (arith, few, h.number)) low)
            (decls-fit (block o ds ss) (place-near o ds ss level first stmts-formed reach) level level (length fs) ds (start + 6) decls-formed (omega (arith, reach)) (omega (arith, few, h.number)) low))
            shown.fit

        shown-here : Shown (enclosed fs (block o ds ss) ∷ encl) (drop base es)
        shown-here =
            record {
              same =
                  stacked es₀ es es base count d top refl refl before
                  ∙ ap₂ (λ (x y : List ℕ). x ++ (y ++ drop top es₀)) formals-there-put decls-there-put
                  ∙ ap (λ (x : List ℕ). formal_entries level 0 fs ++ (decl_entries (block o ds ss) level (length fs) (decls ds) ++ x)) shown.same
                  ∙ sym (entries-are o ds ss fs encl level depth) ∙ ap (map entry_of) (sym (visible-is o ds ss fs encl level depth));
              fit = subst (Each Fits) (sym (visible-is o ds ss fs encl level depth)) all_fit;
            }

  pub declares :
      (s : ℕ) (st st₁ st₂ ends₁ ends₂ : List ℕ) (f : ℕ) (es₀ es : List ℕ) → d ≡ field_at bs (start + 2) → s ≡ field_at bs (start + 4) → 2048 ≤ length st →
      length st₁ ≡ length st → length st₂ ≡ length st₁ → base + (count + d) ≤ length es₀ → Noted bs st st₁ ends₁ (start + 6) d 0 f →
      IfLabelled bs st₁ st₂ ends₂ f s d → OwnPut bs st₂ es₀ es at count d base level → Declares bs es₀ es ends₂ at count d base level f
  declares s st st₁ st₂ ends₁ ends₂ f es₀ es dr sr l n₁ n₂ room p₁ p₂ put =
      record {
        shows = λ b fs encl h depth within shown. show b fs encl h depth within shown;
        leads = λ b fs h within. lead b fs h within;
        above = put.above;
        below = put.below;
        near = p₁.near;
        noted = p₂.noted;
      }
    where
      show : (b : Block) (fs : List Formal) (encl : Enclosure) → BlockHere bs at count top b fs level → suc (length encl) ≡ level → start + 2 * length (block_fields b) ≤ 8192 → Shown encl (drop top es₀) → Shown (enclosed fs b ∷ encl) (drop base es)
      show (block o ds ss) fs encl h depth within shown =
          shown-here o ds ss fs h within s dr sr st₁ st₂ (omega arith) (omega arith) f p₁.started p₂.started p₂.below encl depth es₀ es shown room put

      lead : (b : Block) (fs : List Formal) → BlockHere bs at count top b fs level → start + 2 * length (block_fields b) ≤ 8192 → (f ≤ 8192) × (f / 2 ≡ stmt_place b 1)
      lead (block o ds ss) fs h within = (
        first-near o ds ss fs h within s dr sr st₁ st₂ (omega arith) (omega arith) f p₁.started p₂.started p₂.below,
        first-leads o ds ss fs h within s dr sr st₁ st₂ (omega arith) (omega arith) f p₁.started p₂.started p₂.below,
      )
