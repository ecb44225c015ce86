-- What an engine makes of a name's word w, once it has the first cell of the activation that declares the name, whichever way it found that:
-- the cell of the declared name that the name finally stands for (`cell_by`), the activation there (`home_by`), what it leads to (`target_by`),
-- and what a call hands on of it (`handed_by`). `finds`: these are what the frame machine has of what the name designates; in a run,
-- `found-by-display` and `found-by-links`.
use Rattle.std.specs.Prelude.{ℕ, pred, ◌+◌, ◌-◌, List, ◌≡◌, ℤ, get_or}
use Rattle.std.proofs.Math.Bool.{true, false}
use Rattle.std.proofs.Math.IntN.{pos}
use Rattle.frames.specs.Frame.{Frame, designator_in, designates, frame_number}
use Rattle.resolved.specs.Resolved.{position_in, target_in, direct}
use Rattle.resolved.specs.Layout.{activation_in, held_from, cell_in, lead_in}
use Rattle.arrays.specs.Holds.{cell_of, target_of, formal_word}

-- what a formal's word holds
unfoldable pub held_by : List ℤ → ℕ → ℕ → ℕ
held_by cells first w = designator_in (get_or cells (first + position_in w) (pos 0))

unfoldable pub cell_by : List ℤ → ℕ → ℕ → ℕ
cell_by cells first w = elim (direct w) [ true ↦ first + position_in w | false ↦ cell_in (held_by cells first w) ]

unfoldable pub home_by : List ℤ → ℕ → ℕ → ℕ
home_by cells first w = elim (direct w) [ true ↦ activation_in first | false ↦ activation_in (cell_in (held_by cells first w)) ]

unfoldable pub target_by : List ℤ → ℕ → ℕ → ℕ
target_by cells first w = elim (direct w) [ true ↦ target_in w | false ↦ lead_in (held_by cells first w) ]

unfoldable pub handed_by : List ℤ → ℕ → ℕ → ℤ
handed_by cells first w =
    elim (direct w) [ true ↦ pos (held_from (first + position_in w) (target_in w)) | false ↦ get_or cells (first + position_in w) (pos 0) ]

pub record Finds (fs : List Frame) (cells : List ℤ) (n w first : ℕ) : Type 0 where
  pub cell : cell_by cells first w ≡ cell_of (designates fs n)
  pub home : home_by cells first w ≡ pred (frame_number (designates fs n))
  pub target : target_by cells first w ≡ target_of fs (designates fs n)
  pub handed : handed_by cells first w ≡ pos (formal_word fs (designates fs n))
