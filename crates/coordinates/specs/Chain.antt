-- Static chains and displays of the frame machine. The chain of a frame is its number, its link's, and so on, innermost first; its
-- enclosure is the blocks of those frames. The display has the same numbers by level: its entry j is the enclosing frame of level j.
-- `Chained t` is what a run of the script t keeps true of its frames.
use Rattle.std.specs.Prelude.{ℕ, zero, suc, ◌≤◌, ◌<◌, List, [], ◌∷◌, reverse, ◌≡◌, length}
use Rattle.std.proofs.Math.Option.{none, some, map}
use Rattle.language.specs.Text.{Block}
use Rattle.frames.specs.Frame.{Frame, numbered}
use Rattle.coordinates.specs.Enclosure.{Enclosing, Enclosure, StandsIn, whole}

unfoldable pub enclosing : Frame → Enclosing
enclosing f = record { formals = f.formals; text = f.text }

-- what `a` makes of each frame along the links from frame k, innermost first, m frames at most
unfoldable pub along : {A : Type 0} → (ℕ → Enclosing → A) → ℕ → List Frame → ℕ → List A
along a zero fs k = []
along a (suc m) fs k = elim (numbered fs k) [ none ↦ [] | some f ↦ a k (enclosing f) ∷ along a m fs f.link ]

-- links go down, so that from frame k there are at most k frames
unfoldable pub chain_of : List Frame → ℕ → List ℕ
chain_of fs k = along (λ i e. i) k fs k

unfoldable pub enclosure_of : List Frame → ℕ → Enclosure
enclosure_of fs k = along (λ i e. e) k fs k

unfoldable pub level_of : List Frame → ℕ → ℕ
level_of fs k = length (chain_of fs k)

-- the number of the frame so many links up from frame k
unfoldable pub climb : List Frame → ℕ → ℕ → ℕ
climb fs k zero = k
climb fs k (suc j) = elim (numbered fs k) [ none ↦ 0 | some f ↦ climb fs f.link j ]

-- outermost first
unfoldable pub display_from : List Frame → ℕ → List ℕ
display_from fs k = reverse (chain_of fs k)

-- the display of a running machine is that of its innermost frame
unfoldable pub display_of : List Frame → List ℕ
display_of fs = display_from fs (length fs)

-- every link goes to a frame further out, or is 0
abbrev pub Downward : List Frame → Type 0
Downward fs = (k : ℕ) (f : Frame) → numbered fs k ≡ some f → f.link < k

-- Frame k is the program's, or its link is a frame in whose block its own block stands.
pub data Linked (t : Block) (fs : List Frame) (k : ℕ) (f : Frame) : Type 0 where
  outermost : k ≡ 1 → f.link ≡ 0 → enclosing f ≡ whole t → Linked t fs k f
  within : (g : Frame) → f.link < k → numbered fs f.link ≡ some g → StandsIn (enclosing f) g.text → Linked t fs k f

abbrev pub Chained : Block → List Frame → Type 0
Chained t fs = (k : ℕ) (f : Frame) → numbered fs k ≡ some f → Linked t fs k f

-- Two stacks are alike up to number k where their frames have the same blocks and links so far.
unfoldable pub outline : Frame → Enclosing × ℕ
outline f = (enclosing f, f.link)

abbrev pub SameOutlines : ℕ → List Frame → List Frame → Type 0
SameOutlines k fs gs = (i : ℕ) → i ≤ k → map outline (numbered fs i) ≡ map outline (numbered gs i)
