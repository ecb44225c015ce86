-- `Bounded l s`: the bounds that the frames of a stack keep. The start has them (`start-bounded`), and a step that lands keeps them
-- (`step-bounded`); they are a part of the invariant of whole runs (`Sound`, in crate coordinates).
-- Frames are numbered from 1: the frame at index k of the list is number k + 1, and the frames below it are numbers 1 to k.
use Rattle.std.specs.Prelude.{ℕ, suc, ◌+◌, ◌/◌, ◌%◌, ◌≤◌, ◌<◌, ◌≡◌, ◌⊎◌, List, [], ◌∷◌, ◌++◌, pos, length, get_or}
use Rattle.std.proofs.Math.Option.{some}
use Rattle.std.proofs.Math.ListN.{get_elem?}
use Rattle.std.specs.Int.Signed.{mag}
use Rattle.language.specs.Text.{label, Action, CL, GO, IF, KN, AR, AD, RM, QY, Decl, DO, block_decls, block_stmts, decl_kind}
use Rattle.language.specs.Machine.{Limits}
use Rattle.frames.specs.Frame.{Frame, Stack, numbered, designates, decl_of, map_action, frame_stmt}
use Rattle.frame_laws.specs.Formed.{InForm}

-- x is the designator of a declared name, no formal, of one of the first k frames
pub record Points (fs : List Frame) (k x : ℕ) : Type 0 where
  pub home : Frame
  pub stands : numbered fs (x / 64) ≡ some home
  pub first : 1 ≤ x / 64
  pub last : x / 64 ≤ k
  pub past : length home.formals < x % 64
  pub within : x % 64 ≤ length home.formals + length (block_decls home.text)

-- the frame f at index k of fs: its text is in form, its next statement number is that of a statement or one past the last, its
-- link is the number of a frame below, 0 for the first frame alone, it has a word for each name, each within signed 32 bits, and
-- a formal's word is the designator of a declared name below.
pub record FrameBounded (fs : List Frame) (k : ℕ) (f : Frame) : Type 0 where
  pub in-form : InForm f.text f.formals
  pub next-first : 1 ≤ f.next
  pub next_last : f.next ≤ suc (length (block_stmts f.text))
  pub link-last : f.link ≤ k
  pub link-first : 1 ≤ k → 1 ≤ f.link
  pub count : length f.words ≡ length f.formals + length (block_decls f.text)
  pub few : length f.words ≤ 32
  pub small : (i : ℕ) → mag (get_or f.words i (pos 0)) < 2147483648
  pub handed : (i : ℕ) → i < length f.formals → (x : ℕ) × (get_or f.words i (pos 0) ≡ pos x) × Points fs k x

abbrev pub BoundedFrames : List Frame → Type 0
BoundedFrames fs = (k : ℕ) (f : Frame) → get_elem? fs k ≡ some f → FrameBounded fs k f

pub record Bounded (l : Limits) (s : Stack) : Type 0 where
  pub live : length s.frames ≤ l.activations
  pub each : BoundedFrames s.frames

-- what a name designates: nothing, or a declared name of a live frame
abbrev pub Target : List Frame → ℕ → Type 0
Target fs x = (x ≡ 0) ⊎ Points fs (length fs) x

-- The one fact of scope that a step needs: where the next statement is a goto, the declaration that it goes to is a label. It is a
-- hypothesis of `step-bounded`; the scope rules see to it (`landing`, in crate coordinates).
abbrev pub OnLabel : List Frame → ℕ → Type 0
OnLabel fs x = (d : Decl) → decl_of fs x ≡ some d → decl_kind d ≡ label

abbrev pub JumpsToLabel : List Frame → Action → Type 0
JumpsToLabel fs (CL p xs) = Unit {0}
JumpsToLabel fs (GO x) = OnLabel fs x
JumpsToLabel fs (IF v x) = OnLabel fs x
JumpsToLabel fs (KN t z) = Unit {0}
JumpsToLabel fs (AR t o a b) = Unit {0}
JumpsToLabel fs (AD g m) = Unit {0}
JumpsToLabel fs (RM g m) = Unit {0}
JumpsToLabel fs (QY t g m) = Unit {0}

abbrev pub Lands : Stack → Type 0
Lands s =
    (pre : List Frame) (f : Frame) (at : ℕ) (a : Action) → s.frames ≡ pre ++ (f ∷ []) → frame_stmt f ≡ some (DO at a)
    → JumpsToLabel s.frames (map_action (designates s.frames) a)
