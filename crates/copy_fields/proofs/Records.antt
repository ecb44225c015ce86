-- The words of one record.
-- Assumes nothing.
use mathlib.Core.Path.{◌≡◌, refl, sym, ◌∙◌}
use mathlib.Core.List.{List, [], ◌∷◌, ◌++◌, map}
use Prim.Native.Nat.{ℕ, ◌+◌, ◌/◌, ◌<◌}
use native.Mathlib.Omega.{arith}
use lib.ListN.{length, replicate, length-map}
use Rattle.language.specs.Text.{Action, CL, GO, IF, KN, AR, AD, RM, QY, Block, block, VR, LB, PR, BK, DO}
use Rattle.language.specs.Encoding.{CL-mark, IF-mark, action_fields, formals_fields, block_fields}
use Rattle.coordinates.specs.Enclosure.{Enclosure}
use Rattle.resolved.specs.Resolved.{name_word, resolved_action, resolved_formals, resolved_block, Covers}
use Rattle.laws.specs.Fields.{field_at, FieldsStand, fields-third}
use Rattle.check_extents.specs.Items.{formal, body, declared, stated, block_head, head_fields}
use Rattle.resolve_words.specs.Growth.{Grown}
use Rattle.resolve_words.proofs.Growth.{grown-zero, grown-more}
use Rattle.resolve_fields.specs.Layouts.{resolved_layout}
use Rattle.resolve_fields.specs.Parts.{own_words}
use Rattle.resolve_fields.specs.Taking.{word_there, taken, leading, trailing}
use Rattle.resolve_fields.proofs.Taking.{covers-gives}
use Rattle.resolve_fields.proofs.Records as records
use Rattle.resolve_fields.specs.Walk.{formals_words, block_words, words_layout}
use Rattle.copy_fields.specs.NameFields.{named_action}
use Rattle.copy_fields.specs.Naming.{crossed, Noted}
use Rattle.copy_fields.proofs.Crossing.{cross-grows}

-- Any record but IF: k names are taken after the mark, m after the second field.
module _ (bs code c c1 c2 : List ℕ) (at k m : ℕ) (first : c1 ≡ taken (word_there code) c (at / 2 + 1) k) (second : c2 ≡ taken (word_there code) c1 (at / 2 + 3) m) (k-is : k ≡ leading (field_at bs at)) (m-is : m ≡ trailing (field_at bs at) (field_at bs (at + 4))) where
  few : (mark : ℕ) (ws : List ℕ) (n : ℕ) → field_at bs at ≡ mark → leading mark ≡ length ws → trailing mark (field_at bs (at + 4)) ≡ 0 → Covers code (at / 2 + 1) ws
      → Grown c c2 at (0 ∷ (ws ++ replicate n 0))
  few mark ws n q e z h = records.few bs (word_there code) c c1 c2 at k m first second k-is m-is mark ws n q e z (covers-gives code (at / 2 + 1) ws h)

  many : (mark w : ℕ) (ws : List ℕ) → field_at bs at ≡ mark → leading mark ≡ 1 → trailing mark (field_at bs (at + 4)) ≡ length ws → Covers code (at / 2 + 1) (w ∷ [])
      → Covers code (at / 2 + 1 + 1 + 1) ws → Grown c c2 at (0 ∷ w ∷ 0 ∷ ws)
  many mark w ws q e f g h = records.many bs (word_there code) c c1 c2 at k m first second k-is m-is mark w ws q e f g (covers-gives code (at / 2 + 1 + 1 + 1) ws h)

  block_noted : (b : Block) → FieldsStand bs at (block_head b) → Grown c c2 at (0 ∷ 0 ∷ 0 ∷ [])
  unfolding block_head leading trailing
  block_noted (block o ds ss) s = few _ [] 2 s.0 refl refl tt

  action-noted : (other : field_at bs at ≡ IF-mark → ⊥) (es : Enclosure) (a : Action) → FieldsStand bs at (action_fields a) → Covers code (at / 2) (resolved_action es a) → Grown c c2 at (named_action es a)
  unfolding action_fields resolved_action named_action leading trailing
  action-noted other es (CL p xs) s h =
      let a : field_at bs (at + 4) ≡ length (map (name_word es) xs) = fields-third bs at CL-mark p (length xs) xs s ∙ sym (length-map xs (name_word es)) in
      many _ (name_word es p) (map (name_word es) xs) s.0 refl a (h.1.0, tt) h.1.1.1
  action-noted other es (GO l) s h = few _ (name_word es l ∷ []) 0 s.0 refl refl h.1
  action-noted other es (IF v l) s h = absurd (other s.0)
  action-noted other es (KN t z) s h = few _ (name_word es t ∷ []) 2 s.0 refl refl (h.1.0, tt)
  action-noted other es (AR t o l r) s h = many _ (name_word es t) (name_word es l ∷ name_word es r ∷ []) s.0 refl refl (h.1.0, tt) h.1.1.1
  action-noted other es (AD g m) s h = few _ (name_word es g ∷ name_word es m ∷ []) 0 s.0 refl refl h.1
  action-noted other es (RM g m) s h = few _ (name_word es g ∷ name_word es m ∷ []) 0 s.0 refl refl h.1
  action-noted other es (QY t g m) s h = few _ (name_word es t ∷ name_word es g ∷ name_word es m ∷ []) 0 s.0 refl refl h.1

  pub other-noted : (field_at bs at ≡ IF-mark → ⊥) → Noted bs code at c c2
  unfolding head_fields own_words resolved_layout words_layout block_words formals_words resolved_block resolved_formals block_fields formals_fields leading trailing
  other-noted other name (formal f) fs es s h = few _ (0 ∷ []) 1 s.0 refl refl (h.1.0, tt)
  other-noted other name (body b) fs es s h = block_noted b s
  other-noted other name (declared (VR o n)) fs es s h = few _ (name_word es n ∷ []) 0 s.0 refl refl h.1
  other-noted other name (declared (LB o n i)) fs es s h = few _ (name_word es n ∷ []) 1 s.0 refl refl (h.1.0, tt)
  other-noted other name (declared (PR o n gs b)) fs es s h = few _ (name_word es n ∷ []) 1 s.0 refl refl (h.1.0, tt)
  other-noted other name (stated (BK b)) fs es s h = block_noted b s
  other-noted other name (stated (DO o a)) fs es s h = action-noted other es a s h

-- IF
module _ (bs code c c' : List ℕ) (at : ℕ) (long : length c ≡ 4096) (done : at / 2 + 1 + 1 < 4096 → c' ≡ crossed code c (at / 2 + 1)) (if : field_at bs at ≡ IF-mark) where
  no_block : (b : Block) → FieldsStand bs at (block_head b) → ⊥
  unfolding block_head
  no_block (block o ds ss) s = omega (arith, if, s.0)

  if-action : (es : Enclosure) (a : Action) → FieldsStand bs at (action_fields a) → Covers code (at / 2) (resolved_action es a) → Grown c c' at (named_action es a)
  unfolding action_fields resolved_action named_action
  if-action es (CL p xs) s h = absurd (omega (arith, if, s.0))
  if-action es (GO l) s h = absurd (omega (arith, if, s.0))
  if-action es (IF v l) s h = grown-more refl (grown-zero c at) (cross-grows code c c' (at + 2) (at / 2 + 1) (name_word es v) (name_word es l) long (omega arith) done h.1)
  if-action es (KN t z) s h = absurd (omega (arith, if, s.0))
  if-action es (AR t o l r) s h = absurd (omega (arith, if, s.0))
  if-action es (AD g m) s h = absurd (omega (arith, if, s.0))
  if-action es (RM g m) s h = absurd (omega (arith, if, s.0))
  if-action es (QY t g m) s h = absurd (omega (arith, if, s.0))

  pub if-noted : Noted bs code at c c'
  unfolding head_fields own_words resolved_layout words_layout block_words resolved_block block_fields formals_fields
  if-noted name (formal f) fs es s h = absurd (omega (arith, if, s.0))
  if-noted name (body b) fs es s h = absurd (no_block b s)
  if-noted name (declared (VR o n)) fs es s h = absurd (omega (arith, if, s.0))
  if-noted name (declared (LB o n i)) fs es s h = absurd (omega (arith, if, s.0))
  if-noted name (declared (PR o n gs b)) fs es s h = absurd (omega (arith, if, s.0))
  if-noted name (stated (BK b)) fs es s h = absurd (no_block b s)
  if-noted name (stated (DO o a)) fs es s h = if-action es a s h
