-- The records inside each record, and what a head says of them.
-- Assumes nothing.
use mathlib.Core.Path.{◌≡◌, refl, sym, ◌∙◌, ap}
use mathlib.Core.List.{List, [], ◌∷◌, ◌++◌, map, append-nil, append_assoc}
use Prim.Native.Nat.{ℕ, ◌+◌, ◌*◌, ◌<◌}
use native.Mathlib.Omega.{arith}
use lib.ListN.{length, length-append, length-map}
use Rattle.language.specs.Text.{Formal, Action, CL, GO, IF, KN, AR, AD, RM, QY, Block, block, VR, LB, PR, BK, DO, Decls, no-decl, decl, Stmts, no-stmt, stmt, decls, stmts}
use Rattle.language.specs.Encoding.{action_fields, formals_fields, block_fields, decl_fields, decls_fields, stmts_fields, BK-mark, PR-mark, CL-mark}
use Rattle.laws.specs.Fields.{field_at, FieldsStand, fields-third}
use Rattle.language.specs.Structure.{formal_marks, decl_marks, stmt_marks}
use Rattle.check_marks.specs.Marks.{fit_in, fit_at}
use Rattle.check_marks.specs.Counts.{field_count}
use Rattle.check_extents.specs.Items.{Item, formal, body, declared, stated, item_fields, items_fields, in_block, children, block_head, head_fields, head_size, child_count}

pub items-append : (xs ys : List Item) → items_fields (xs ++ ys) ≡ items_fields xs ++ items_fields ys
unfolding items_fields
items-append [] ys = refl
items-append (x ∷ xs) ys = ap (λ (l : List ℕ). item_fields x ++ l) (items-append xs ys) ∙ sym (append_assoc (item_fields x) (items_fields xs) (items_fields ys))

pub formal-items : (fs : List Formal) → formals_fields fs ≡ items_fields (map formal fs)
unfolding formals_fields items_fields item_fields
formal-items [] = refl
formal-items (f ∷ fs) = rw (formal-items fs)

pub decl-items : (ds : Decls) → decls_fields ds ≡ items_fields (map declared (decls ds))
unfolding decls_fields items_fields item_fields decls
decl-items no-decl = refl
decl-items (decl d ds) = rw (decl-items ds)

pub stmt-items : (ss : Stmts) → stmts_fields ss ≡ items_fields (map stated (stmts ss))
unfolding stmts_fields items_fields item_fields stmts
stmt-items no-stmt = refl
stmt-items (stmt s ss) = rw (stmt-items ss)

pub block-opens : (b : Block) → block_fields b ≡ block_head b ++ items_fields (in_block b)
unfolding block_fields block_head in_block
block-opens (block at ds ss) =
    rw (decl-items ds, stmt-items ss, items-append (map declared (decls ds)) (map stated (stmts ss)))

pub item-opens : (x : Item) → item_fields x ≡ head_fields x ++ items_fields (children x)
unfolding item_fields head_fields children formals_fields decl_fields items_fields
item-opens (formal f) = refl
item-opens (body b) = block-opens b
item-opens (declared (VR at n)) = refl
item-opens (declared (LB at n i)) = refl
item-opens (declared (PR at n fs b)) =
    rw (items-append (map formal fs) (body b ∷ []), ← formal-items fs, append-nil (block_fields b))
item-opens (stated (BK b)) = block-opens b
item-opens (stated (DO at a)) = sym (append-nil (action_fields a))

-- a record's head by its mark
module _ (bs : List ℕ) (at : ℕ) (rest : List ℕ) where
  action-size : (a : Action) → FieldsStand bs at (action_fields a ++ rest) → head_size (field_at bs at) (field_at bs (at + 4)) ≡ 2 * length (action_fields a)
  unfolding action_fields head_size field_count fit_at fit_in decl_marks stmt_marks formal_marks
  action-size (CL p xs) h = rw (h.0, fields-third bs at CL-mark p (length xs) (xs ++ rest) h) (omega arith)
  action-size (GO l) h = rw h.0
  action-size (IF v l) h = rw h.0
  action-size (KN t z) h = rw h.0
  action-size (AR t o l r) h = rw h.0
  action-size (AD g m) h = rw h.0
  action-size (RM g m) h = rw h.0
  action-size (QY t g m) h = rw h.0

  action-alone : (a : Action) → FieldsStand bs at (action_fields a ++ rest) → child_count (field_at bs at) (field_at bs (at + 2)) (field_at bs (at + 4)) ≡ 0
  unfolding action_fields child_count
  action-alone (CL p xs) h = rw h.0
  action-alone (GO l) h = rw h.0
  action-alone (IF v l) h = rw h.0
  action-alone (KN t z) h = rw h.0
  action-alone (AR t o l r) h = rw h.0
  action-alone (AD g m) h = rw h.0
  action-alone (RM g m) h = rw h.0
  action-alone (QY t g m) h = rw h.0

  pub action-marked : (a : Action) → FieldsStand bs at (action_fields a ++ rest) → 0 < field_at bs at
  unfolding action_fields
  action-marked (CL p xs) h = omega (arith, h.0)
  action-marked (GO l) h = omega (arith, h.0)
  action-marked (IF v l) h = omega (arith, h.0)
  action-marked (KN t z) h = omega (arith, h.0)
  action-marked (AR t o l r) h = omega (arith, h.0)
  action-marked (AD g m) h = omega (arith, h.0)
  action-marked (RM g m) h = omega (arith, h.0)
  action-marked (QY t g m) h = omega (arith, h.0)

  block_size : (b : Block) → FieldsStand bs at (block_head b ++ rest) → head_size (field_at bs at) (field_at bs (at + 4)) ≡ 2 * length (block_head b)
  unfolding block_head head_size field_count fit_at fit_in stmt_marks
  block_size (block o ds ss) h = rw h.0

  block-count : (b : Block) → FieldsStand bs at (block_head b ++ rest) → child_count (field_at bs at) (field_at bs (at + 2)) (field_at bs (at + 4)) ≡ length (in_block b)
  unfolding block_head child_count in_block
  block-count (block o ds ss) h =
      rw (h.0, h.1.0, fields-third bs at BK-mark (length (decls ds)) (length (stmts ss)) rest h)
      (simp (length-append, length-map))

  block-marked : (b : Block) → FieldsStand bs at (block_head b ++ rest) → 0 < field_at bs at
  unfolding block_head
  block-marked (block o ds ss) h = omega (arith, h.0)

  pub head-size : (x : Item) → FieldsStand bs at (head_fields x ++ rest) → head_size (field_at bs at) (field_at bs (at + 4)) ≡ 2 * length (head_fields x)
  unfolding head_fields formals_fields decl_fields head_size field_count fit_at fit_in decl_marks stmt_marks formal_marks
  head-size (formal f) h = rw h.0
  head-size (body b) h = block_size b h
  head-size (declared (VR o n)) h = rw h.0
  head-size (declared (LB o n i)) h = rw h.0
  head-size (declared (PR o n fs b)) h = rw h.0
  head-size (stated (BK b)) h = block_size b h
  head-size (stated (DO o a)) h = action-size a h

  pub child-count : (x : Item) → FieldsStand bs at (head_fields x ++ rest) → child_count (field_at bs at) (field_at bs (at + 2)) (field_at bs (at + 4)) ≡ length (children x)
  unfolding head_fields formals_fields decl_fields child_count children
  child-count (formal f) h = rw h.0
  child-count (body b) h = block-count b h
  child-count (declared (VR o n)) h = rw h.0
  child-count (declared (LB o n i)) h = rw h.0
  child-count (declared (PR o n fs b)) h =
      rw (h.0, fields-third bs at PR-mark n (length fs) rest h) (simp (length-append, length-map))
  child-count (stated (BK b)) h = block-count b h
  child-count (stated (DO o a)) h = action-alone a h

  pub head-marked : (x : Item) → FieldsStand bs at (head_fields x ++ rest) → 0 < field_at bs at
  unfolding head_fields formals_fields decl_fields
  head-marked (formal f) h = omega (arith, h.0)
  head-marked (body b) h = block-marked b h
  head-marked (declared (VR o n)) h = omega (arith, h.0)
  head-marked (declared (LB o n i)) h = omega (arith, h.0)
  head-marked (declared (PR o n fs b)) h = omega (arith, h.0)
  head-marked (stated (BK b)) h = block-marked b h
  head-marked (stated (DO o a)) h = action-marked a h
