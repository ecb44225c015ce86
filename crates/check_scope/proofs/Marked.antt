-- Which record stands at an offset, by its mark, for the walks that judge and that write.
-- Assumes nothing.
use mathlib.Core.Path.{◌≡◌, refl, sym, ◌∙◌, ap, subst}
use mathlib.Core.List.{List, [], ◌∷◌, ◌++◌, append-nil}
use Prim.Native.Nat.{ℕ, suc, ◌+◌, ◌*◌, ◌≤◌}
use native.Mathlib.Omega.{arith}
use lib.ListN.{length, length-append}
use Rattle.language.specs.Text.{Formal, Action, CL, GO, IF, KN, AR, AD, RM, QY, Block, block, VR, LB, PR, BK, DO}
use Rattle.language.specs.Encoding.{action_fields, formals_fields, block_fields, decl_fields, stmt_fields, BK-mark, VR-mark, LB-mark, PR-mark}
use Rattle.grammar.specs.Rules.{FormedBlock, FormedDecl, FormedStmt, FormedFormals}
use Rattle.laws.specs.Fields.{field_at, FieldsStand, field-inside, fields-first, fields-after, fields-third}
use Rattle.check_extents.specs.Items.{Item, formal, body, declared, stated, item_fields, items_fields, children, head_fields}
use Rattle.check_extents.specs.Passing.{Alone}
use Rattle.check_extents.proofs.Inside.{item-opens, head-size, head-marked}
use Rattle.check_scope.specs.Walking.{FormedItem, FormedItems, BlockHere, ItemsHere, ItemHere}

-- a statement other than BK has none of these marks
record Plain (w : ℕ) : Type 0 where
  no-PR : w ≡ PR-mark → ⊥
  no-BK : w ≡ BK-mark → ⊥
  no-VR : w ≡ VR-mark → ⊥
  no-LB : w ≡ LB-mark → ⊥

plain : (bs : List ℕ) (at : ℕ) (a : Action) → FieldsStand bs at (action_fields a) → Plain (field_at bs at)
unfolding action_fields
plain bs at (CL p xs) h = let e = h.0 in omega arith
plain bs at (GO l) h = let e = h.0 in omega arith
plain bs at (IF v l) h = let e = h.0 in omega arith
plain bs at (KN t z) h = let e = h.0 in omega arith
plain bs at (AR t o l r) h = let e = h.0 in omega arith
plain bs at (AD g m) h = let e = h.0 in omega arith
plain bs at (RM g m) h = let e = h.0 in omega arith
plain bs at (QY t g m) h = let e = h.0 in omega arith

pub block-mark : (bs : List ℕ) (at : ℕ) (b : Block) → FieldsStand bs at (block_fields b) → field_at bs at ≡ BK-mark
unfolding block_fields
block-mark bs at (block o ds ss) h = h.0

formals-length : (fs : List Formal) → length (formals_fields fs) ≡ 3 * length fs
unfolding formals_fields
formals-length [] = refl
formals-length (f ∷ fs) = let e = formals-length fs in omega arith

pub record Procedure (bs : List ℕ) (at top level count : ℕ) (x : Item) : Type 0 where
  pub offset : ℕ
  pub name : ℕ
  pub formals : List Formal
  pub text : Block
  pub is : x ≡ declared (PR offset name formals text)
  pub named : field_at bs (at + 2) ≡ name
  pub here : BlockHere bs (at + 6) count top text formals (suc level)
  pub size : at + 6 + 6 * count + 2 * length (block_fields text) ≡ at + 2 * length (item_fields x)

pub record Inner (bs : List ℕ) (at top level : ℕ) (x : Item) : Type 0 where
  pub text : Block
  pub is : x ≡ stated (BK text)
  pub here : BlockHere bs at 0 top text [] (suc level)
  pub size : at + 6 * 0 + 2 * length (block_fields text) ≡ at + 2 * length (item_fields x)

pub record Variable (bs : List ℕ) (at : ℕ) (x : Item) : Type 0 where
  pub offset : ℕ
  pub name : ℕ
  pub is : x ≡ declared (VR offset name)
  pub named : field_at bs (at + 2) ≡ name
  pub size : at + 4 ≡ at + 2 * length (item_fields x)

pub record Label (bs : List ℕ) (at : ℕ) (x : Item) : Type 0 where
  pub offset : ℕ
  pub name : ℕ
  pub index : ℕ
  pub is : x ≡ declared (LB offset name index)
  pub named : field_at bs (at + 2) ≡ name
  pub size : at + 6 ≡ at + 2 * length (item_fields x)

pub record Statement (bs : List ℕ) (at next : ℕ) (x : Item) : Type 0 where
  pub action : Action
  pub is : x ≡ stated (DO at action)
  pub stand : FieldsStand bs at (action_fields action)
  pub size : next ≡ at + 2 * length (item_fields x)

module _ (bs : List ℕ) (at top level s mark : ℕ) (read : mark ≡ field_at bs at) where
  pub procedure-here : (x : Item) (count : ℕ) → mark ≡ PR-mark → count ≡ field_at bs (at + 4) → ItemHere bs at top x level s → Procedure bs at top level count x
  unfolding item_fields decl_fields stmt_fields FormedItem FormedDecl
  procedure-here (formal f) count m e h = absurd h.formed
  procedure-here (body b) count m e h = absurd h.formed
  procedure-here (declared (VR o n)) count m e h = absurd (let q = h.stand.0 in omega arith)
  procedure-here (declared (LB o n i)) count m e h = absurd (let q = h.stand.0 in omega arith)
  procedure-here (declared (PR o n fs b)) count m e h =
      let third = fields-third bs at PR-mark n (length fs) (formals_fields fs ++ block_fields b) h.stand in
      let inner = fields-after bs at (PR-mark ∷ n ∷ length fs ∷ []) (formals_fields fs ++ block_fields b) h.stand in
      let long = formals-length fs in
      let start : at + 6 + 2 * length (formals_fields fs) ≡ at + 6 + 6 * count = omega arith in
      let whole = length-append (formals_fields fs) (block_fields b) in
      record {
        offset = o;
        name = n;
        formals = fs;
        text = b;
        is = refl;
        named = h.stand.1.0;
        here = record {
          number = sym (e ∙ third);
          formals = fields-first bs (at + 6) (formals_fields fs) (block_fields b) inner;
          named = h.formed.formals;
          stand = subst (λ (k : ℕ). FieldsStand bs k (block_fields b)) start (fields-after bs (at + 6) (formals_fields fs) (block_fields b) inner);
          formed = subst (λ (k : ℕ). FormedBlock b (suc level) fs k) start h.formed.body;
          room = omega (arith, h.room);
        };
        size = omega arith;
      }
  procedure-here (stated (BK b)) count m e h = absurd (let q = block-mark bs at b h.stand in omega arith)
  procedure-here (stated (DO o a)) count m e h = absurd ((plain bs at a h.stand).no-PR (sym read ∙ m))

  pub inner-here : (x : Item) → mark ≡ BK-mark → ItemHere bs at top x level s → Inner bs at top level x
  unfolding item_fields decl_fields stmt_fields FormedItem FormedStmt formals_fields FormedFormals
  inner-here (formal f) m h = absurd h.formed
  inner-here (body b) m h = absurd h.formed
  inner-here (declared (VR o n)) m h = absurd (let q = h.stand.0 in omega arith)
  inner-here (declared (LB o n i)) m h = absurd (let q = h.stand.0 in omega arith)
  inner-here (declared (PR o n fs b)) m h = absurd (let q = h.stand.0 in omega arith)
  inner-here (stated (BK b)) m h =
      let start : at ≡ at + 6 * 0 = omega arith in
      record {
        text = b;
        is = refl;
        here = record {
          number = refl;
          formals = tt;
          named = tt;
          stand = subst (λ (k : ℕ). FieldsStand bs k (block_fields b)) start h.stand;
          formed = subst (λ (k : ℕ). FormedBlock b (suc level) [] k) start h.formed;
          room = omega (arith, h.room);
        };
        size = omega arith;
      }
  inner-here (stated (DO o a)) m h = absurd ((plain bs at a h.stand).no-BK (sym read ∙ m))

  pub variable-here : (x : Item) → mark ≡ VR-mark → ItemHere bs at top x level s → Variable bs at x
  unfolding item_fields decl_fields stmt_fields FormedItem
  variable-here (formal f) m h = absurd h.formed
  variable-here (body b) m h = absurd h.formed
  variable-here (declared (VR o n)) m h = record { offset = o; name = n; is = refl; named = h.stand.1.0; size = refl }
  variable-here (declared (LB o n i)) m h = absurd (let q = h.stand.0 in omega arith)
  variable-here (declared (PR o n fs b)) m h = absurd (let q = h.stand.0 in omega arith)
  variable-here (stated (BK b)) m h = absurd (let q = block-mark bs at b h.stand in omega arith)
  variable-here (stated (DO o a)) m h = absurd ((plain bs at a h.stand).no-VR (sym read ∙ m))

  pub label-here : (x : Item) → mark ≡ LB-mark → ItemHere bs at top x level s → Label bs at x
  unfolding item_fields decl_fields stmt_fields FormedItem
  label-here (formal f) m h = absurd h.formed
  label-here (body b) m h = absurd h.formed
  label-here (declared (VR o n)) m h = absurd (let q = h.stand.0 in omega arith)
  label-here (declared (LB o n i)) m h = record { offset = o; name = n; index = i; is = refl; named = h.stand.1.0; size = refl }
  label-here (declared (PR o n fs b)) m h = absurd (let q = h.stand.0 in omega arith)
  label-here (stated (BK b)) m h = absurd (let q = block-mark bs at b h.stand in omega arith)
  label-here (stated (DO o a)) m h = absurd ((plain bs at a h.stand).no-LB (sym read ∙ m))

  -- where the next record begins, after one with nothing inside it
  alone : (next : ℕ) → Alone bs at next → (x : Item) → children x ≡ [] → FieldsStand bs at (item_fields x) → next ≡ at + 2 * length (item_fields x)
  unfolding items_fields
  alone next q x none h =
      let e : item_fields x ≡ head_fields x ++ [] = item-opens x ∙ ap (λ (l : List Item). head_fields x ++ items_fields l) none in
      q.next-is ∙ ap (λ (k : ℕ). at + k) (head-size bs at [] x (subst (FieldsStand bs at) e h) ∙ ap (λ (l : List ℕ). 2 * length l) (sym (e ∙ append-nil (head_fields x))))

  pub statement-here :
      (x : Item) (next : ℕ) → (mark ≡ PR-mark → ⊥) → (mark ≡ BK-mark → ⊥) → (mark ≡ VR-mark → ⊥) → (mark ≡ LB-mark → ⊥) → Alone bs at next →
      ItemHere bs at top x level s → Statement bs at next x
  unfolding item_fields decl_fields stmt_fields FormedItem FormedStmt children
  statement-here (formal f) next p b v l q h = absurd h.formed
  statement-here (body c) next p b v l q h = absurd h.formed
  statement-here (declared (VR o n)) next p b v l q h = absurd (v (read ∙ h.stand.0))
  statement-here (declared (LB o n i)) next p b v l q h = absurd (l (read ∙ h.stand.0))
  statement-here (declared (PR o n fs c)) next p b v l q h = absurd (p (read ∙ h.stand.0))
  statement-here (stated (BK c)) next p b v l q h = absurd (b (read ∙ block-mark bs at c h.stand))
  statement-here (stated (DO o a)) next p b v l q h =
      record {
        action = a;
        is = ap (λ (k : ℕ). stated (DO k a)) h.formed.stands;
        stand = h.stand;
        size = alone next q (stated (DO o a)) refl h.stand;
      }

-- the first of the records still to come, and those after it
module _ (bs : List ℕ) (here top level s : ℕ) (y : Item) (ys : List Item) (h : ItemsHere bs here (suc (length ys)) top (y ∷ ys) level s) where
  pub first-here : ItemHere bs here top y level s
  unfolding items_fields FormedItems
  first-here = record { stand = fields-first bs here (item_fields y) (items_fields ys) h.stand; formed = h.formed.0; room = h.room }

  pub first-inside : length bs ≤ here → ⊥
  first-inside out = field-inside bs here (head-marked bs here _ y (subst (FieldsStand bs here) (item-opens y) first-here.stand)) out

  pub others-here : (next : ℕ) → next ≡ here + 2 * length (item_fields y) → ItemsHere bs next (length ys) top ys level s
  unfolding items_fields FormedItems
  others-here next e =
      record {
        number = refl;
        stand = subst (λ (o : ℕ). FieldsStand bs o (items_fields ys)) (sym e) (fields-after bs here (item_fields y) (items_fields ys) h.stand);
        formed = subst (λ (o : ℕ). FormedItems ys level s o) (sym e) h.formed.1;
        room = h.room;
      }
