-- The next statement number of the innermost frame counts for no name: with another one each name designates what it did, and each
-- designator has the declaration, the kind and the word that it had. So a step finds its names in the frames as they stand
-- (`step-acts`), and then does the action with the number risen.
-- Read `pre ++ (f ∷ [])` as the frames before, `pre ++ (continue f i ∷ [])` as the same with next statement number i.
use Prim.Native.Nat.{ℕ, zero, suc}
use Rattle.std.specs.Prelude.{◌≡◌, refl, List, [], ◌∷◌, ◌++◌, length}
use Rattle.std.proofs.Math.Path.{sym}
use Rattle.std.proofs.Common.{ap, ◌∙◌}
use Rattle.std.proofs.Math.Option.{some, none-ne-some, some-injective}
use Rattle.std.proofs.Math.ListN.{get_elem?}
use Rattle.language.specs.Text.{Action, CL, GO, IF, KN, AR, AD, RM, QY, DO}
use Rattle.language.specs.Machine.{Limits}
use Rattle.laws.specs.Tests.{by-lookup}
use Rattle.frames.specs.Frame.{Frame, Stack, numbered, designates, continue, frame_number, decl_of, kind_of, word_at, map_action, with_frames, act, frame_stmt, frame_step}
use Rattle.laws.specs.Lists.{snoc-length}
use Rattle.frame_laws.specs.Parts.{with_frames-frames}
use Rattle.frame_laws.specs.Finding.{word_at-found, word_at-none}
use Rattle.frame_laws.specs.Actions.{does}
use Rattle.frame_laws.specs.Innermost.{step-does}
use Rattle.frame_laws.specs.Bounds.{OnLabel, JumpsToLabel}
use Rattle.frame_laws.specs.Likeness.{Like, LikeFrames, numbered-none, designates-like, decl_of-like, kind_of-like, map_action-like}

continued-at : (pre : List Frame) (f : Frame) (i k : ℕ) (g : Frame) → get_elem? (pre ++ (f ∷ [])) k ≡ some g → (j : ℕ) × (get_elem? (pre ++ (continue f i ∷ [])) k ≡ some (continue g j))
unfolding continue
continued-at [] f i zero g e = (i, ap (λ (x : Frame). some (continue x i)) (some-injective f g e))
continued-at [] f i (suc k) g e = absurd (none-ne-some g e)
continued-at (x ∷ pre) f i zero g e = (x.next, ap (λ (y : Frame). some (continue y x.next)) (some-injective x g e))
continued-at (x ∷ pre) f i (suc k) g e = continued-at pre f i k g e

like-continue : (f : Frame) (i : ℕ) → Like f (continue f i)
unfolding continue
like-continue f i = record { formals = refl; text = refl; link = refl; handed = λ j l. refl }

module _ (pre : List Frame) (f : Frame) (i : ℕ) where
  abbrev before : List Frame
  before = pre ++ (f ∷ [])

  abbrev after : List Frame
  after = pre ++ (continue f i ∷ [])

  pub like-continued : LikeFrames before after
  like-continued =
      record { count = snoc-length pre (continue f i) ∙ sym (snoc-length pre f); each = λ k g e. let q = continued-at pre f i k g e in (continue g q.0, q.1, like-continue g q.0) }

  pub designates-continued : (n : ℕ) → designates after n ≡ designates before n
  designates-continued = designates-like before after like-continued

  pub decl_of-continued : (x : ℕ) → decl_of after x ≡ decl_of before x
  decl_of-continued = decl_of-like before after like-continued

  pub kind_of-continued : (x : ℕ) → kind_of after x ≡ kind_of before x
  kind_of-continued = kind_of-like before after like-continued

  numbered-continued : (k : ℕ) (g : Frame) → numbered before k ≡ some g → (j : ℕ) × (numbered after k ≡ some (continue g j))
  unfolding numbered
  numbered-continued zero g e = absurd (none-ne-some g e)
  numbered-continued (suc k) g e = continued-at pre f i k g e

  pub word_at-continued : (x : ℕ) → word_at after x ≡ word_at before x
  unfolding continue
  word_at-continued x =
      by-lookup (numbered before (frame_number x)) (λ e. word_at-none after x (numbered-none before after like-continued (frame_number x) e) ∙ sym (word_at-none before x e))
      (λ g e. let q = numbered-continued (frame_number x) g e in word_at-found after x (continue g q.0) q.1 ∙ sym (word_at-found before x g e))

  -- where an action with its names found jumps
  on_label-continued : (n : ℕ) → OnLabel before (designates before n) → OnLabel after (designates after n)
  on_label-continued n h d e = h d (ap (decl_of before) (sym (designates-continued n)) ∙ sym (decl_of-continued (designates after n)) ∙ e)

  pub jumps-continued : (a : Action) → JumpsToLabel before (map_action (designates before) a) → JumpsToLabel after (map_action (designates after) a)
  unfolding map_action
  jumps-continued (CL p xs) h = tt
  jumps-continued (GO x) h = on_label-continued x h
  jumps-continued (IF v x) h = on_label-continued x h
  jumps-continued (KN t z) h = tt
  jumps-continued (AR t o a b) h = tt
  jumps-continued (AD g m) h = tt
  jumps-continued (RM g m) h = tt
  jumps-continued (QY t g m) h = tt

-- One step of the innermost frame f, whose next statement is an action

module _ (s : Stack) (pre : List Frame) (f : Frame) (i : ℕ) (e : s.frames ≡ pre ++ (f ∷ [])) where
  -- the stack with the innermost frame's next statement number set
  abbrev on : Stack
  on = with_frames s (pre ++ (continue f i ∷ []))

  pub length-advanced : length on.frames ≡ length s.frames
  length-advanced = ap length (with_frames-frames s (pre ++ (continue f i ∷ []))) ∙ (like-continued pre f i).count ∙ ap length (sym e)

  pub decl_of-advanced : (x : ℕ) → decl_of on.frames x ≡ decl_of s.frames x
  decl_of-advanced x = ap (λ (fs : List Frame). decl_of fs x) (with_frames-frames s (pre ++ (continue f i ∷ []))) ∙ decl_of-continued pre f i x ∙ ap (λ (fs : List Frame). decl_of fs x) (sym e)

  pub kind_of-advanced : (x : ℕ) → kind_of on.frames x ≡ kind_of s.frames x
  kind_of-advanced x = ap (λ (fs : List Frame). kind_of fs x) (with_frames-frames s (pre ++ (continue f i ∷ []))) ∙ kind_of-continued pre f i x ∙ ap (λ (fs : List Frame). kind_of fs x) (sym e)

  pub word_at-advanced : (x : ℕ) → word_at on.frames x ≡ word_at s.frames x
  word_at-advanced x = ap (λ (fs : List Frame). word_at fs x) (with_frames-frames s (pre ++ (continue f i ∷ []))) ∙ word_at-continued pre f i x ∙ ap (λ (fs : List Frame). word_at fs x) (sym e)

pub step-acts : (l : Limits) (s : Stack) (pre : List Frame) (f : Frame) (at : ℕ) (a : Action) → s.frames ≡ pre ++ (f ∷ []) → frame_stmt f ≡ some (DO at a)
    → frame_step l s ≡ act l (with_frames s (pre ++ (continue f (suc f.next) ∷ []))) (map_action (designates s.frames) a)
step-acts l s pre f at a e n =
    let fs = pre ++ (continue f (suc f.next) ∷ []) in
    step-does l s pre f (DO at a) e n ∙ does l (with_frames s fs) at a
    ∙ ap (act l (with_frames s fs)) (ap (λ (gs : List Frame). map_action (designates gs) a) (with_frames-frames s fs) ∙ map_action-like (pre ++ (f ∷ [])) fs (like-continued pre f (suc f.next)) a ∙ ap (λ (gs : List Frame). map_action (designates gs) a) (sym e))
