-- One declaration or statement, by its mark.
-- Assumes nothing.
use Rattle.std.specs.Prelude.{Ok, Err}
use mathlib.Core.Path.{◌≡◌, refl, sym, ◌∙◌, ap, subst}
use mathlib.Core.List.{List, [], ◌∷◌}
use Prim.Native.Nat.{ℕ, suc, ◌+◌, ◌*◌, ◌<◌}
use native.Mathlib.Omega.{arith}
use lib.ListN.{length}
use Rattle.language.specs.Text.{Action, CL, GO, IF, KN, AR, AD, RM, QY}
use Rattle.language.specs.Encoding.{action_fields, BK-mark, VR-mark, LB-mark, PR-mark, CL-mark, IF-mark, AR-mark, AD-mark, RM-mark, QY-mark, operation_field}
use Rattle.language.specs.Scope.{Scope, fine, wrong, judge_action, judge_block, judge_decl, judge_stmt}
use Rattle.language.specs.Scope as definitions
use Rattle.language.specs.Faults.{Progress, Verdict}
use Rattle.laws.specs.Fields.{field_at, FieldsStand, fields-after, fields-are, fields-third}
use Rattle.check_uses.specs.Meanings.{verdict_of, scope_from}
use Rattle.check_statements.specs.Shapes.{shape_of, judged_as}
use Rattle.check_extents.specs.Items.{Item, item_fields}
use Rattle.check_statements.specs.Walked.{progress_after, Walked}
use Rattle.check_scope.specs.Walking.{progress_of, Ahead, judge_item, BlockJudged, ItemJudged}
use Rattle.check_scope.proofs.Marked.{procedure-here, inner-here, variable-here, label-here, statement-here}

-- the fourth and the fifth field
fourth-is : (bs : List ℕ) (at a b c d : ℕ) (ws : List ℕ) → FieldsStand bs at (a ∷ b ∷ c ∷ d ∷ ws) → field_at bs (at + 6) ≡ d
fourth-is bs at a b c d ws h = subst (λ (o : ℕ). field_at bs o ≡ d) six h.1.1.1.0
  where
    six : at + 2 + 2 + 2 ≡ at + 6
    six = omega arith

fifth-is : (bs : List ℕ) (at a b c d e : ℕ) (ws : List ℕ) → FieldsStand bs at (a ∷ b ∷ c ∷ d ∷ e ∷ ws) → field_at bs (at + 8) ≡ e
fifth-is bs at a b c d e ws h = subst (λ (o : ℕ). field_at bs o ≡ e) eight h.1.1.1.1.0
  where
    eight : at + 2 + 2 + 2 + 2 ≡ at + 8
    eight = omega arith

judged-action : (bs : List ℕ) (sc : Scope) (at : ℕ) (a : Action) → FieldsStand bs at (action_fields a) → judged_as (shape_of (field_at bs at)) sc bs at ≡ judge_action sc at a
unfolding judge_action action_fields
judged-action bs sc at (CL p xs) h =
    rw h.0 (rw (h.1.0, fields-third bs at CL-mark p (length xs) xs h, fields-are bs (at + 6) xs (fields-after bs at (CL-mark ∷ p ∷ length xs ∷ []) xs h)))
judged-action bs sc at (GO l) h = rw h.0 (rw h.1.0)
judged-action bs sc at (IF v l) h = rw h.0 (rw (h.1.0, fields-third bs at IF-mark v l [] h))
judged-action bs sc at (KN t z) h = rw h.0 (rw h.1.0)
judged-action bs sc at (AR t o l r) h =
    rw h.0 (rw (h.1.0, fourth-is bs at AR-mark t (operation_field o) l (r ∷ []) h, fifth-is bs at AR-mark t (operation_field o) l r [] h))
judged-action bs sc at (AD g m) h = rw h.0 (rw (h.1.0, fields-third bs at AD-mark g m [] h))
judged-action bs sc at (RM g m) h = rw h.0 (rw (h.1.0, fields-third bs at RM-mark g m [] h))
judged-action bs sc at (QY t g m) h =
    rw h.0 (rw (h.1.0, fields-third bs at QY-mark t g (m ∷ []) h, fourth-is bs at QY-mark t g m [] h))

onward-progress : (v : definitions.Judgement) (next : ℕ) → progress_after (verdict_of v) next ≡ progress_of v next
onward-progress fine next = refl
onward-progress (wrong c o) next = refl

-- A record as the code has it: its mark read.
module _ (bs es : List ℕ) (at top mark : ℕ) (read : mark ≡ field_at bs at) where
  abbrev scope : Scope
  scope = scope_from bs es top

  -- the judgement of a record, from that of what it is
  judged-as : (x y : Item) (v : definitions.Judgement) (next : ℕ) (r : Progress) → x ≡ y → judge_item y scope ≡ v → next ≡ at + 2 * length (item_fields x) → r ≡ progress_of v next → r ≡ progress_of (judge_item x scope) (at + 2 * length (item_fields x))
  judged-as x y v next r e j n q = q ∙ ap (progress_of v) n ∙ ap (λ (w : definitions.Judgement). progress_of w (at + 2 * length (item_fields x))) (sym (ap (λ (z : Item). judge_item z scope) e ∙ j))

  pub procedure-judged :
      (count : ℕ) (r : Progress) → mark ≡ PR-mark → count ≡ field_at bs (at + 4) → BlockJudged bs es (at + 6) count top r → ItemJudged bs es at top r
  unfolding judge_item judge_decl
  procedure-judged count r m e j x level s h =
      let p = procedure-here bs at top level s mark read x count m e h in
      judged-as x _ _ _ r p.is refl p.size (j p.text p.formals (suc level) p.here)

  pub block-as-judged : (r : Progress) → mark ≡ BK-mark → BlockJudged bs es at 0 top r → ItemJudged bs es at top r
  unfolding judge_item judge_stmt
  block-as-judged r m j x level s h =
      let p = inner-here bs at top level s mark read x m h in
      judged-as x _ _ _ r p.is refl p.size (j p.text [] (suc level) p.here)

  pub variable-judged : mark ≡ VR-mark → ItemJudged bs es at top (Ok (at + 4))
  unfolding judge_item judge_decl
  variable-judged m x level s h =
      let p = variable-here bs at top level s mark read x m h in
      judged-as x _ _ _ (Ok (at + 4)) p.is refl p.size refl

  pub label-judged : mark ≡ LB-mark → ItemJudged bs es at top (Ok (at + 6))
  unfolding judge_item judge_decl
  label-judged m x level s h =
      let p = label-here bs at top level s mark read x m h in
      judged-as x _ _ _ (Ok (at + 6)) p.is refl p.size refl

  pub action-judged :
      (r : Progress) → (mark ≡ PR-mark → ⊥) → (mark ≡ BK-mark → ⊥) → (mark ≡ VR-mark → ⊥) → (mark ≡ LB-mark → ⊥) → Walked bs es top at r →
      ItemJudged bs es at top r
  unfolding judge_item judge_stmt
  action-judged r no-PR no-BK no-VR no-LB n x level s h =
      let p = statement-here bs at top level s mark read x n.next no-PR no-BK no-VR no-LB n.past h in
      judged-as x _ _ _ r p.is refl p.size
      (n.so ∙ ap (λ (w : Verdict). progress_after w n.next) (n.judged ∙ ap verdict_of (judged-action bs scope at p.action p.stand))
      ∙ onward-progress (judge_action scope at p.action) n.next)

pub ahead-action : (bs es : List ℕ) (top at : ℕ) (r : Progress) → at < length bs → Walked bs es top at r → Ahead at (length bs) r
ahead-action bs es top at r l n = subst (Ahead at (length bs)) (sym n.so) (go n.verdict)
  where
    go : (w : Verdict) → Ahead at (length bs) (progress_after w n.next)
    go (Ok u) = (omega (arith, n.past.on), omega (arith, n.past.near))
    go (Err e) = tt
