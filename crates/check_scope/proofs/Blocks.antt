-- A block with its formals: its names in the array, and its records judged among them.
-- Assumes nothing.
use Rattle.std.specs.Prelude.{Ok, Err}
use mathlib.Core.Path.{◌≡◌, refl, sym, ◌∙◌, ap, subst}
use mathlib.Core.Bool.{Bool, true, false}
use mathlib.Core.List.{List, [], ◌∷◌, ◌++◌, map}
use Prim.Native.Nat.{ℕ, ◌+◌, ◌*◌, ◌-◌, ◌<◌, ◌≤◌}
use native.Mathlib.Omega.{arith}
use lib.Dec.{leb}
use lib.ListN.{length, take, drop, length-append, length-map, take-append-drop}
use lib.Seq.{drop-drop}
use borrow.Author.Tests.{leb-true, leb-false}
use Rattle.language.specs.Text.{Formal, Block, block, Decls, no-decl, decl, Stmts, no-stmt, stmt, decls, stmts}
use Rattle.language.specs.Encoding.{block_fields, decl_fields, stmt_fields, decls_fields, BK-mark}
use Rattle.language.specs.Scope.{Scope, fine, wrong, ◌then◌, inside, judge_block, judge_decls, judge_stmts}
use Rattle.language.specs.Scope as definitions
use Rattle.language.specs.Faults.{Progress}
use Rattle.grammar.specs.Rules.{FormedBlock, FormedDecls, FormedStmts}
use Rattle.laws.specs.Fields.{field_at, FieldsStand, field-inside, fields-first, fields-after, fields-third}
use Rattle.check_uses.specs.Meanings.{scope_of}
use Rattle.check_extents.specs.Items.{Item, formal, declared, stated, item_fields, items_fields, in_block, block_head, entries_of}
use Rattle.check_scope.specs.Walking.{progress_of, judge_item, judge_items, FormedItem, FormedItems, Ahead, Kept, BlockHere, ItemsHere, BlockJudged, ItemsJudged}
use Rattle.check_symbols.specs.Chains.{Chained, Rechained}
use Rattle.check_symbols.proofs.Chains.{kept_from, pushed-chained}
use Rattle.check_extents.specs.Passing.{Placed}
use Rattle.check_extents.proofs.Inside.{items-append, block-opens, formal-items, decl-items}
use Rattle.check_scope.proofs.Names.{formals-mean, decls-mean}
use Rattle.check_scope.proofs.Marked.{block-mark}

pub word-within : (bs : List ℕ) (at : ℕ) → 0 < field_at bs at → at < length bs
word-within bs at p = go (leb (length bs) at) refl
  where
    go : (b : Bool) → leb (length bs) at ≡ b → at < length bs
    go true e = absurd (field-inside bs at p (leb-true (length bs) at e))
    go false e = leb-false (length bs) at e

pub ahead-from : (at o n : ℕ) (r : Progress) → at ≤ o → Ahead o n r → Ahead at n r
ahead-from at o n (Ok e) h a = (omega arith, a.1)
ahead-from at o n (Err e) h a = tt

-- declarations and statements as records
then-assoc : (u v w : definitions.Judgement) → ◌then◌ (◌then◌ u v) w ≡ ◌then◌ u (◌then◌ v w)
unfolding ◌then◌
then-assoc fine v w = refl
then-assoc (wrong c o) v w = refl

stmts-judged : (ss : Stmts) (sc : Scope) → judge_stmts ss sc ≡ judge_items (map stated (stmts ss)) sc
unfolding judge_stmts judge_items judge_item stmts
stmts-judged no-stmt sc = refl
stmts-judged (stmt x ss) sc = rw (stmts-judged ss sc)

decls-judged : (ds : Decls) (xs : List Item) (sc : Scope) → ◌then◌ (judge_decls ds sc) (judge_items xs sc) ≡ judge_items (map declared (decls ds) ++ xs) sc
unfolding judge_decls judge_items judge_item decls ◌then◌
decls-judged no-decl xs sc = refl
decls-judged (decl d ds) xs sc = then-assoc (definitions.judge_decl d sc) (judge_decls ds sc) (judge_items xs sc) ∙ rw (decls-judged ds xs sc)

formed-stmts : (ss : Stmts) (level s here : ℕ) → FormedStmts ss level here → FormedItems (map stated (stmts ss)) level s here
unfolding FormedStmts FormedItems FormedItem stmts item_fields
formed-stmts no-stmt level s here h = tt
formed-stmts (stmt x ss) level s here h = (h.0, formed-stmts ss level s (here + 2 * length (stmt_fields x)) h.1)

formed-decls : (ds : Decls) (xs : List Item) (level s here : ℕ) → FormedDecls ds level s here → FormedItems xs level s (here + 2 * length (decls_fields ds)) → FormedItems (map declared (decls ds) ++ xs) level s here
unfolding FormedDecls FormedItems FormedItem decls item_fields decls_fields
formed-decls no-decl xs level s here h g = subst (λ (o : ℕ). FormedItems xs level s o) none g
  where
    none : here + 2 * 0 ≡ here
    none = omega arith
formed-decls (decl d ds) xs level s here h g =
    (h.0, formed-decls ds xs level s (here + 2 * length (decl_fields d)) h.1 (subst (λ (o : ℕ). FormedItems xs level s o) more g))
  where
    more : here + 2 * length (decl_fields d ++ decls_fields ds) ≡ here + 2 * length (decl_fields d) + 2 * length (decls_fields ds)
    more = omega (arith, length-append (decl_fields d) (decls_fields ds))

-- what was put, read back as a whole
module _ (es₀ es₁ es₂ : List ℕ) (base count d top : ℕ) (whole : base + (count + d) ≡ top) where
  front : (l : List ℕ) (b n : ℕ) → drop b l ≡ take n (drop b l) ++ drop (b + n) l
  front l b n = sym (ap (λ (r : List ℕ). take n (drop b l) ++ r) (sym (drop-drop n b l)) ∙ take-append-drop n (drop b l))

  regroup : base + (count + d) ≡ base + count + d
  regroup = omega arith

  end_is : base + count + d ≡ top
  end_is = omega arith

  module _ (kept : drop (base + count) es₂ ≡ drop (base + count) es₁) (before : drop (base + count + d) es₁ ≡ drop (base + count + d) es₀) where
    pub stacked : drop base es₂ ≡ take count (drop base es₂) ++ (take d (drop (base + count) es₁) ++ drop top es₀)
    stacked =
        front es₂ base count
        ∙ ap (λ (r : List ℕ). take count (drop base es₂) ++ r)
        (kept ∙ front es₁ (base + count) d
        ∙ ap (λ (r : List ℕ). take d (drop (base + count) es₁) ++ r) (before ∙ ap (λ (k : ℕ). drop k es₀) end_is))

    pub kept-below : (es₃ : List ℕ) → drop base es₃ ≡ drop base es₂ → drop top es₃ ≡ drop top es₀
    kept-below es₃ e =
        ap (λ (k : ℕ). drop k es₃) (sym whole) ∙ sym (drop-drop (count + d) base es₃) ∙ ap (drop (count + d)) e
        ∙ drop-drop (count + d) base es₂ ∙ ap (λ (k : ℕ). drop k es₂) regroup
        ∙ sym (drop-drop d (base + count) es₂) ∙ ap (drop d) kept ∙ drop-drop d (base + count) es₁ ∙ before
        ∙ ap (λ (k : ℕ). drop k es₀) end_is

scope-append : (bs xs ys : List ℕ) → scope_of bs (xs ++ ys) ≡ scope_of bs xs ++ scope_of bs ys
unfolding scope_of
scope-append bs [] ys = refl
scope-append bs (x ∷ xs) ys = rw (scope-append bs xs ys)

module _ (bs : List ℕ) (at count top : ℕ) where
  abbrev start : ℕ
  start = at + 6 * count

  pub block_room : (b : Block) (fs : List Formal) (level : ℕ) → BlockHere bs at count top b fs level → 768 + (count + field_at bs (start + 2)) ≤ top
  unfolding block_fields FormedBlock
  block_room (block o ds ss) fs level h = omega (arith, h.stand.1.0, h.number, h.formed.few, h.formed.nesting, h.room)

  -- the block's records stand after its head
  module _ (o : ℕ) (ds : Decls) (ss : Stmts) (fs : List Formal) (level : ℕ) (h : BlockHere bs at count top (block o ds ss) fs level) where
    opened : FieldsStand bs start (block_head (block o ds ss) ++ items_fields (in_block (block o ds ss)))
    opened = subst (FieldsStand bs start) (block-opens (block o ds ss)) h.stand

    body-stands : FieldsStand bs (start + 6) (items_fields (in_block (block o ds ss)))
    unfolding block_head
    body-stands = fields-after bs start (block_head (block o ds ss)) (items_fields (in_block (block o ds ss))) opened

    decls-stand : FieldsStand bs (start + 6) (items_fields (map declared (decls ds)))
    unfolding in_block
    decls-stand =
        fields-first bs (start + 6) (items_fields (map declared (decls ds))) (items_fields (map stated (stmts ss)))
        (subst (FieldsStand bs (start + 6)) (items-append (map declared (decls ds)) (map stated (stmts ss))) body-stands)

    d-is : field_at bs (start + 2) ≡ length (decls ds)
    unfolding block_head
    d-is = opened.1.0

    s-is : field_at bs (start + 4) ≡ length (stmts ss)
    unfolding block_head
    s-is = fields-third bs start BK-mark (length (decls ds)) (length (stmts ss)) (items_fields (in_block (block o ds ss))) opened

    counted : length (in_block (block o ds ss)) ≡ length (decls ds) + length (stmts ss)
    unfolding in_block
    counted = simp (length-append, length-map)

    all-formed : FormedItems (in_block (block o ds ss)) level (length (stmts ss)) (start + 6)
    unfolding FormedBlock in_block
    all-formed =
        formed-decls ds (map stated (stmts ss)) level (length (stmts ss)) (start + 6) h.formed.declarations
        (formed-stmts ss level (length (stmts ss)) (start + 6 + 2 * length (decls_fields ds)) h.formed.statements)

    few : count + length (decls ds) ≤ 32
    unfolding FormedBlock
    few = omega (arith, h.number, h.formed.few)

    formed-in-place : FormedDecls ds level (length (stmts ss)) (start + 6)
    unfolding FormedBlock
    formed-in-place = h.formed.declarations

    pub reaches : start + 6 + 2 * length (items_fields (in_block (block o ds ss))) ≡ start + 2 * length (block_fields (block o ds ss))
    unfolding block_head
    reaches = omega (arith, ap length (block-opens (block o ds ss)))

    judged-block : (sc : Scope) → judge_items (in_block (block o ds ss)) (inside fs ds sc) ≡ judge_block (block o ds ss) fs sc
    unfolding judge_block in_block
    judged-block sc =
        sym (ap (◌then◌ (judge_decls ds (inside fs ds sc))) (stmts-judged ss (inside fs ds sc)) ∙ decls-judged ds (map stated (stmts ss)) (inside fs ds sc))

    formals-stand : FieldsStand bs at (items_fields (map formal fs))
    formals-stand = subst (FieldsStand bs at) (formal-items fs) h.formals

    names-mean : (rest : List ℕ) → scope_of bs (entries_of bs (map formal fs) at ++ (entries_of bs (map declared (decls ds)) (start + 6) ++ rest)) ≡ inside fs ds (scope_of bs rest)
    unfolding inside
    names-mean rest =
        scope-append bs (entries_of bs (map formal fs) at) (entries_of bs (map declared (decls ds)) (start + 6) ++ rest)
        ∙ rw (
          scope-append bs (entries_of bs (map declared (decls ds)) (start + 6)) rest,
          formals-mean bs at fs h.formals h.named,
          decls-mean bs (start + 6) level (length (stmts ss)) ds (subst (FieldsStand bs (start + 6)) (sym (decl-items ds)) decls-stand) formed-in-place,
        )

    module _ (d s base : ℕ) (d-read : d ≡ field_at bs (start + 2)) (s_read : s ≡ field_at bs (start + 4)) (whole : base + (count + d) ≡ top) where
      pub items-here : ItemsHere bs (start + 6) (d + s) base (in_block (block o ds ss)) level (length (stmts ss))
      items-here = record {
        number = omega (arith, counted, d-is, s-is);
        stand = body-stands;
        formed = all-formed;
        room = omega (arith, few, d-is, h.room);
      }

      module _ (es₀ es₁ es₂ : List ℕ) (kept : drop (base + count) es₂ ≡ drop (base + count) es₁) (before : drop (base + count + d) es₁ ≡ drop (base + count + d) es₀)
          (declared-there : (xs : List Item) → length xs ≡ d → FieldsStand bs (start + 6) (items_fields xs) → take d (drop (base + count) es₁) ≡ entries_of bs xs (start + 6))
          (formals-there : (xs : List Item) → length xs ≡ count → FieldsStand bs at (items_fields xs) → take count (drop base es₂) ≡ entries_of bs xs at) where
        scope-is : scope_of bs (drop base es₂) ≡ inside fs ds (scope_of bs (drop top es₀))
        scope-is =
            ap (scope_of bs) (stacked es₀ es₁ es₂ base count d top whole kept before)
            ∙ rw (
              formals-there (map formal fs) (length-map fs formal ∙ h.number) formals-stand,
              declared-there (map declared (decls ds)) (length-map (decls ds) declared ∙ sym (d-read ∙ d-is)) decls-stand,
            )
            (names-mean (drop top es₀))

        judged-here : (r : Progress) → ((xs : List Item) (k n : ℕ) → ItemsHere bs (start + 6) (d + s) base xs k n → r ≡ progress_of (judge_items xs (scope_of bs (drop base es₂))) (start + 6 + 2 * length (items_fields xs))) → r ≡ progress_of (judge_block (block o ds ss) fs (scope_of bs (drop top es₀))) (start + 2 * length (block_fields (block o ds ss)))
        judged-here r j =
            j (in_block (block o ds ss)) level (length (stmts ss)) items-here
            ∙ ap (progress_of (judge_items (in_block (block o ds ss)) (scope_of bs (drop base es₂)))) reaches
            ∙ ap (λ (v : definitions.Judgement). progress_of v (start + 2 * length (block_fields (block o ds ss))))
            (ap (judge_items (in_block (block o ds ss))) scope-is ∙ judged-block (scope_of bs (drop top es₀)))

-- A block as the code has it: its mark and its numbers read, room for its names from `base` on.

-- no block, or one with too many names, stands there
pub no_block : (bs es : List ℕ) (at count top w : ℕ) (r : Progress) → w ≡ field_at bs (at + 6 * count) → (w ≡ BK-mark → ⊥) → BlockJudged bs es at count top r
no_block bs es at count top w r e n b fs level h = absurd (n (e ∙ block-mark bs (at + 6 * count) b h.stand))

pub no_room_lem :
    (bs es : List ℕ) (at count top d : ℕ) (r : Progress) → d ≡ field_at bs (at + 6 * count + 2) → top < 768 + (count + d) → BlockJudged bs es at count top r
no_room_lem bs es at count top d r e l b fs level h = absurd (omega (arith, block_room bs at count top b fs level h))

-- its records begin inside the script, so that what is unread falls
module _ (bs : List ℕ) (at w : ℕ) (read : w ≡ field_at bs at) (marked : w ≡ BK-mark) where
  pub records-near : (k : ℕ) → 6 ≤ k → at + 6 ≤ length bs + k
  records-near k l = omega (arith, word-within bs at (omega arith))

  pub records-fall : (t : ℕ) → 3 * (length bs - at) ≡ t → 3 * (length bs - (at + 6)) + 2 < t
  records-fall t e = omega (arith, word-within bs at (omega arith))

pub ahead-body : (at n : ℕ) (r : Progress) → Ahead (at + 6) n r → Ahead at n r
ahead-body at n r a = ahead-from at (at + 6) n r (omega arith) a

-- its names are put below `top`: those declared, then the formals
module _ (bs es es₁ es₂ ends₁ ends₂ : List ℕ) (at count d top : ℕ) (formals-put : Placed bs es₁ es₂ ends₂ at count (top - (count + d)))
    (declared-put : Placed bs es es₁ ends₁ (at + 6 * count + 6) d (top - (count + d) + count)) (fits : 768 + (count + d) ≤ top)
  where
    abbrev base : ℕ
    base = top - (count + d)

    whole : base + (count + d) ≡ top
    whole = omega arith

    -- the chains are as they were
    pub names-chained : length es₁ ≡ length es → length es₂ ≡ length es₁ → Chained es top → Chained es₂ top
    names-chained n₁ n₂ h =
        pushed-chained es es₁ es₂ base count d top (omega arith) whole n₁ n₂ declared-put.below declared-put.above formals-put.below formals-put.above h

    -- in the chains, the records walked, out of the chains
    module _ (es₃ : List ℕ) (inserted : Rechained es₂ es₃ base) where
      hung-here : drop base es₃ ≡ drop base es₂
      hung-here = kept_from es₃ es₂ 768 base (omega arith) inserted.same

      block-judged :
          (s : ℕ) (r : Progress) → d ≡ field_at bs (at + 6 * count + 2) → s ≡ field_at bs (at + 6 * count + 4) →
          ItemsJudged bs es₃ (at + 6 * count + 6) (d + s) base r → BlockJudged bs es at count top r
      block-judged s r d-read s_read j (block o l ss) fs level h =
          judged-here bs at count top o l ss fs level h d s base d-read s_read whole es es₁ es₂ formals-put.above declared-put.above declared-put.pushed
          formals-put.pushed r
          (λ xs k n i. j xs k n i ∙ ap (λ (e : List ℕ). progress_of (judge_items xs (scope_of bs e)) (at + 6 * count + 6 + 2 * length (items_fields xs))) hung-here)

      block-kept : (es₄ es₅ ends : List ℕ) → Kept bs es₃ es₄ ends base → Rechained es₄ es₅ top → Kept bs es es₅ ends top
      block-kept es₄ es₅ ends k r =
          record {
            same =
                kept_from es₅ es₄ 768 top (omega arith) r.same
                ∙ kept-below es es₁ es₂ base count d top whole formals-put.above declared-put.above es₄ (k.same ∙ hung-here);
            chained = r.chained;
            noted = k.noted;
          }

      pub block_walked :
          (s : ℕ) (r : Progress) (es₄ es₅ ends : List ℕ) → d ≡ field_at bs (at + 6 * count + 2) → s ≡ field_at bs (at + 6 * count + 4) →
          ItemsJudged bs es₃ (at + 6 * count + 6) (d + s) base r × (Ahead (at + 6 * count + 6) (length bs) r × Kept bs es₃ es₄ ends base) →
          Rechained es₄ es₅ top → BlockJudged bs es at count top r × (Ahead at (length bs) r × Kept bs es es₅ ends top)
      block_walked s r es₄ es₅ ends d-read s_read walked out =
          let (judged, (ahead, k)) = walked in
          (block-judged s r d-read s_read judged, (ahead-from at (at + 6 * count + 6) (length bs) r (omega arith) ahead, block-kept es₄ es₅ ends k out))
