-- The numbers of one record: `block_noted`, where it begins a block, and `other-noted`.
-- Assumes nothing.
use mathlib.Core.Path.{◌≡◌, refl, sym, ◌∙◌, ap, subst}
use mathlib.Core.List.{List, [], ◌∷◌, ◌++◌, map}
use Prim.Native.Nat.{ℕ, suc, ◌+◌, ◌*◌, ◌/◌}
use native.Mathlib.Omega.{arith}
use lib.ListN.{length, get_or, replicate, set, length-map}
use Rattle.language.specs.Text.{Formal, Action, CL, GO, IF, KN, AR, AD, RM, QY, Block, block, VR, LB, PR, BK, DO}
use Rattle.language.specs.Encoding.{BK-mark, CL-mark, action_fields, formals_fields, block_fields}
use Rattle.laws.specs.Fields.{field_at, FieldsStand, fields-third}
use Rattle.grammar.specs.Rules.{FormedBlock}
use Rattle.coordinates.specs.Enclosure.{enclosed, Enclosure}
use Rattle.resolved.specs.Resolved.{level_in, name_word, resolved_action, header, resolved_formals, resolved_block, Covers}
use Rattle.resolved.proofs.Words.{level-in-head}
use Rattle.resolved.proofs.NameWords.{Narrow, narrow-inner}
use Rattle.f_search.specs.Numbers.{number_of}
use Rattle.check_extents.specs.Items.{formal, body, declared, stated, item_fields, in_block, block_head, head_fields}
use Rattle.resolve_words.specs.Growth.{Grown}
use Rattle.resolve_words.proofs.Growth.{grown-zero, grown-more}
use Rattle.resolve_fields.specs.Layouts.{resolved_layout}
use Rattle.resolve_fields.specs.Parts.{Part, placed, own_words, inside}
use Rattle.resolve_fields.specs.Taking.{taken, leading, trailing}
use Rattle.resolve_fields.proofs.Taking.{take-grows}
use Rattle.resolve_fields.proofs.Records as records
use Rattle.resolve_fields.specs.Walk.{formals_words, block_words, words_layout}
use Rattle.search_numbers.specs.NumberFields.{numbered_action}
use Rattle.search_numbers.specs.Around.{number_at, Around, Ahead}
use Rattle.search_numbers.specs.Numbering.{Noted}
use Rattle.search_numbers.proofs.Words.{number-nowhere, number-there, numbers-there}
use Rattle.search_numbers.proofs.Ahead.{Opened, past-formal, past-variable, past-label, past-action, past-procedure, past-block}

-- Any record but BK: k names are numbered after the mark, m after the second field.
module _ (bs code around c c1 c2 : List ℕ) (at k m : ℕ) (first : c1 ≡ taken (number_at code around) c (at / 2 + 1) k) (second : c2 ≡ taken (number_at code around) c1 (at / 2 + 3) m) (k-is : k ≡ leading (field_at bs at)) (m-is : m ≡ trailing (field_at bs at) (field_at bs (at + 4))) where
  module _ (es : Enclosure) (narrow : Narrow es) (noted : Around around es) where
    few : (mark : ℕ) (ns : List ℕ) (n : ℕ) → field_at bs at ≡ mark → leading mark ≡ length (map (number_of es) ns) → trailing mark (field_at bs (at + 4)) ≡ 0
        → Covers code (at / 2 + 1) (map (name_word es) ns) → Grown c c2 at (0 ∷ (map (number_of es) ns ++ replicate n 0))
    few mark ns n q e z h =
        records.few bs (number_at code around) c c1 c2 at k m first second k-is m-is mark (map (number_of es) ns) n q e z
        (numbers-there around code es narrow noted (at / 2 + 1) ns h)

    many : (mark n : ℕ) (ns : List ℕ) → field_at bs at ≡ mark → leading mark ≡ 1 → trailing mark (field_at bs (at + 4)) ≡ length (map (number_of es) ns)
        → Covers code (at / 2 + 1) (map (name_word es) (n ∷ [])) → Covers code (at / 2 + 1 + 1 + 1) (map (name_word es) ns)
        → Grown c c2 at (0 ∷ number_of es n ∷ 0 ∷ map (number_of es) ns)
    many mark n ns q e f g h =
        records.many bs (number_at code around) c c1 c2 at k m first second k-is m-is mark (number_of es n) (map (number_of es) ns) q e f
        (numbers-there around code es narrow noted (at / 2 + 1) (n ∷ []) g) (numbers-there around code es narrow noted (at / 2 + 1 + 1 + 1) ns h)

    action-noted : (a : Action) → FieldsStand bs at (action_fields a) → Covers code (at / 2) (resolved_action es a) → Grown c c2 at (numbered_action es a)
    unfolding action_fields resolved_action numbered_action leading trailing
    action-noted (CL p xs) s h =
        let a : field_at bs (at + 4) ≡ length (map (number_of es) xs) = fields-third bs at CL-mark p (length xs) xs s ∙ sym (length-map xs (number_of es)) in
        many _ p xs s.0 refl a (h.1.0, tt) h.1.1.1
    action-noted (GO l) s h = few _ (l ∷ []) 0 s.0 refl refl h.1
    action-noted (IF v l) s h = few _ (l ∷ v ∷ []) 0 s.0 refl refl h.1
    action-noted (KN t z) s h = few _ (t ∷ []) 2 s.0 refl refl (h.1.0, tt)
    action-noted (AR t o l r) s h = many _ t (l ∷ r ∷ []) s.0 refl refl (h.1.0, tt) h.1.1.1
    action-noted (AD g m) s h = few _ (g ∷ m ∷ []) 0 s.0 refl refl h.1
    action-noted (RM g m) s h = few _ (g ∷ m ∷ []) 0 s.0 refl refl h.1
    action-noted (QY t g m) s h = few _ (t ∷ g ∷ m ∷ []) 0 s.0 refl refl h.1

  no_block : (b : Block) → (field_at bs at ≡ BK-mark → ⊥) → FieldsStand bs at (block_head b) → ⊥
  unfolding block_head
  no_block (block o ds ss) other s = other s.0

  pub other-noted : (field_at bs at ≡ BK-mark → ⊥) → Noted bs code at around around c c2
  unfolding head_fields own_words resolved_layout words_layout block_words formals_words resolved_block resolved_formals block_fields formals_fields leading trailing
  other-noted other name (formal f) fs es ps a s h = (
    records.few bs (number_at code around) c c1 c2 at k m first second k-is m-is _ (0 ∷ []) 1 s.0 refl refl (number-nowhere around code es a.0.noted _ h.1.0, tt),
    past-formal around fs es at ps f a,
  )
  other-noted other name (body b) fs es ps a s h = absurd (no_block b other s)
  other-noted other name (declared (VR o n)) fs es ps a s h = (few es a.0.narrow a.0.noted _ (n ∷ []) 0 s.0 refl refl h.1, past-variable around fs es at ps o n a)
  other-noted other name (declared (LB o n i)) fs es ps a s h = (few es a.0.narrow a.0.noted _ (n ∷ []) 1 s.0 refl refl (h.1.0, tt), past-label around fs es at ps o n i a)
  other-noted other name (declared (PR o n gs b)) fs es ps a s h = (few es a.0.narrow a.0.noted _ (n ∷ []) 1 s.0 refl refl (h.1.0, tt), past-procedure around fs es at ps o n gs b a)
  other-noted other name (stated (BK b)) fs es ps a s h = absurd (no_block b other s)
  other-noted other name (stated (DO o x)) fs es ps a s h = (action-noted es a.0.narrow a.0.noted x s h, past-action around fs es at ps o x a)

-- BK: the block is noted, then the looked-up name is numbered.
module _ (bs code around around' c c' : List ℕ) (at : ℕ) (long : length around ≡ 256) (opens : around' ≡ set around (level_in (get_or code (at / 2) 0)) (at / 2)) (done : c' ≡ taken (number_at code around') c (at / 2 + 2) 1) (mark : field_at bs at ≡ BK-mark) where
  module _ (name : ℕ) (fs : List Formal) (b : Block) (es : Enclosure) (ps : List Part) (formed : FormedBlock b (suc (length es)) fs at) (narrow : Narrow es) (noted : Around around es) (ahead : Ahead around (length es) (at + 2 * length (block_fields b)) ps) (h : Covers code (at / 2) (header name (enclosed fs b) es)) where
    opened : Opened around' fs b es at ps
    unfolding header
    opened =
        let e = enclosed fs b in
        let deep = narrow-inner b fs es at narrow formed in
        let level : level_in (get_or code (at / 2) 0) ≡ suc (length es) = ap level_in h.0 ∙ level-in-head e (suc (length es)) deep.shallow in
        subst (λ (l : List ℕ). Opened l fs b es at ps) (sym (opens ∙ ap (λ (k : ℕ). set around k (at / 2)) level)) (past-block around fs b es at ps long formed narrow noted ahead)

    block-opened : Grown c c' at (0 ∷ 0 ∷ number_of (enclosed fs b ∷ es) name ∷ []) × Ahead around' 16 (at + 2 * length (block_head b)) (map (placed [] (enclosed fs b ∷ es)) (in_block b) ++ ps)
    unfolding header
    block-opened =
        let z : at / 2 + 1 + 1 ≡ at / 2 + 2 = omega arith in
        let word = subst (λ (p : ℕ). get_or code p 0 ≡ name_word (enclosed fs b ∷ es) name) z h.1.1.0 in
        let number = number-there around' code (enclosed fs b ∷ es) opened.narrow opened.noted (at / 2 + 2) name word in
        let last = take-grows (number_at code around') c c' (at + 2 + 2) (at / 2 + 2) 1 (number_of (enclosed fs b ∷ es) name ∷ []) (omega arith) refl done (number, tt) in
        (grown-more refl (grown-zero c at) (grown-more refl (grown-zero c (at + 2)) last), opened.ahead)

  no-action : (a : Action) → FieldsStand bs at (action_fields a) → ⊥
  unfolding action_fields
  no-action (CL p xs) s = omega (arith, s.0)
  no-action (GO l) s = omega (arith, s.0)
  no-action (IF v l) s = omega (arith, s.0)
  no-action (KN t z) s = omega (arith, s.0)
  no-action (AR t o l r) s = omega (arith, s.0)
  no-action (AD g m) s = omega (arith, s.0)
  no-action (RM g m) s = omega (arith, s.0)
  no-action (QY t g m) s = omega (arith, s.0)

  pub block_noted : Noted bs code at around around' c c'
  unfolding head_fields own_words inside item_fields resolved_layout words_layout block_words resolved_block block_fields formals_fields FormedBlock
  block_noted name (formal f) fs es ps a s h = absurd (omega (arith, s.0))
  block_noted name (body b) fs es ps a s h = block-opened name fs b es ps a.0.formed a.0.narrow a.0.noted a.1 h
  block_noted name (declared (VR o n)) fs es ps a s h = absurd (omega (arith, s.0))
  block_noted name (declared (LB o n i)) fs es ps a s h = absurd (omega (arith, s.0))
  block_noted name (declared (PR o n gs b)) fs es ps a s h = absurd (omega (arith, s.0))
  block_noted name (stated (BK b)) fs es ps a s h = block-opened name [] b es ps a.0.formed a.0.narrow a.0.noted a.1 h
  block_noted name (stated (DO o x)) fs es ps a s h = absurd (no-action x s)
