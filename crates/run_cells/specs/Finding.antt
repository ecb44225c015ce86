-- A name by its word, once the first cell of the activation that declares it is found: what may be read of such a name.
use Rattle.std.specs.Prelude.{ℕ, ◌+◌, ◌<◌, true, false, List, ◌≡◌, ℤ, pos, get_or}
use Rattle.std.specs.Int.Signed.{lt_z}
use Rattle.resolved.specs.Resolved.{position_in, direct}
use Rattle.arrays.specs.Found.{cell_by}

-- its own cell is one of the words, what a formal holds is not negative, and the cell that it finally stands for is one of the words
pub record Reachable (cells : List ℤ) (first w : ℕ) : Type 0 where
  pub own : first + position_in w < 8192
  pub whole : direct w ≡ false → lt_z (get_or cells (first + position_in w) (pos 0)) (pos 0) ≡ false
  pub cell : cell_by cells first w < 8192

-- and it is no formal
pub record Direct (cells : List ℤ) (first w : ℕ) : Type 0 where
  pub reachable : Reachable cells first w
  pub is : direct w ≡ true

-- and it is a formal
pub record ThroughFormal (cells : List ℤ) (first w : ℕ) : Type 0 where
  pub reachable : Reachable cells first w
  pub is : direct w ≡ false
