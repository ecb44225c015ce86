-- Activations and frames from one step to the next: the same up to a depth (`SameActivations`, and `SameOutlines` of the frames), or one more on
-- top (`OneMore`).
use Rattle.std.specs.Prelude.{ℕ, suc, ◌+◌, ◌≤◌, ◌<◌, List, ◌≡◌, ltb, length}
use Rattle.std.proofs.Common.{arith, sym, ◌∙◌, ltb-true, ltb-false}
use Rattle.std.proofs.Math.Option.{some}
use Rattle.std.proofs.Math.ListN.{get_elem?}
use Rattle.language.specs.Machine.{Activation}
use Rattle.laws.specs.Tests.{split}
use Rattle.laws.specs.Lists.{get_elem-in, get_elem-bound}
use Rattle.frames.specs.Frame.{Frame}
use Rattle.frames.specs.Numbered.{numbered-suc}
use Rattle.coordinates.specs.Chain.{outline, SameOutlines}
use Rattle.coordinates.proofs.Along.{alike-some}

-- the first n activations differ in nothing but where they go on
abbrev pub SameActivations : ℕ → List Activation → List Activation → Type 0
SameActivations n as' as'' =
    (k : ℕ) (b c : Activation) → k < n → get_elem? as' k ≡ some b → get_elem? as'' k ≡ some c → (b.text ≡ c.text) × (b.arguments ≡ c.arguments) × (b.reads ≡ c.reads)

-- `live` is the innermost activation before, counted from 0
pub record OneMore (live : ℕ) (as' as'' : List Activation) (fs fs'' : List Frame) (new : Activation) (f : Frame) : Type 0 where
  pub deep : length as' ≡ live + 1
  pub deeper : length as'' ≡ live + 2
  pub frames-deeper : length fs'' ≡ live + 2
  pub same-activations : SameActivations (live + 1) as' as''
  pub same-frames : SameOutlines (live + 1) fs fs''
  pub top : get_elem? as'' (live + 1) ≡ some new
  pub top_frame : get_elem? fs'' (live + 1) ≡ some f

-- where an activation, and a frame, comes from
module _ (n k : ℕ) (l : k < n) where
  pub activation-before : (as' as'' : List Activation) → SameActivations n as' as'' → n ≤ length as' → (a : Activation) → get_elem? as'' k ≡ some a
      → (b : Activation) × (get_elem? as' k ≡ some b) × (b.reads ≡ a.reads)
  activation-before as' as'' same h a q =
      let b = get_elem-in as' k (omega arith) in
      (b.0, b.1, (same k b.0 a l b.1 q).2)

  pub frame-before : (fs fs'' : List Frame) → SameOutlines n fs fs'' → (f : Frame) → get_elem? fs'' k ≡ some f
      → (g : Frame) × (get_elem? fs k ≡ some g) × (outline g ≡ outline f)
  frame-before fs fs'' same f q =
      let g = alike-some fs'' fs n (λ i h. sym (same i h)) (suc k) f (omega arith) (numbered-suc fs'' k ∙ q) in
      (g.0, sym (numbered-suc fs k) ∙ g.1, g.2)

-- an index below the top, or the top's
pub by_index : {X A : Type 0} (l : List A) (live k : ℕ) (a : A) → length l ≡ live + 2 → get_elem? l k ≡ some a → (k < live + 1 → X) → (k ≡ live + 1 → X) → X
by_index l live k a h q old top =
    split (ltb k (live + 1)) (λ t. old (ltb-true k (live + 1) t))
    (λ t. top (omega (arith, ltb-false k (live + 1) t, get_elem-bound l k a q)))
