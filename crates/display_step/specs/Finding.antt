-- How the display engine finds a name: the first cell of the declaring activation stands in the display at the name's level.
use Rattle.std.specs.Prelude.{ℕ, ◌+◌, ◌≤◌, ◌<◌, true, false, List, ◌≡◌, ℤ, pos, get_or}
use Rattle.std.specs.Int.Signed.{lt_z}
use Rattle.resolved.specs.Resolved.{level_in, position_in, direct}
use Rattle.arrays.specs.Found.{cell_by, home_by, target_by, handed_by}
use Rattle.resolved.specs.Layout.{cell_from}
use Rattle.run_moves.specs.Acting.{Finding}

abbrev pub first_cell : List ℕ → ℕ → ℕ
first_cell display w = get_or display (level_in w) 0

abbrev pub own_cell : List ℕ → ℕ → ℕ
own_cell display w = first_cell display w + position_in w

-- the first cell of the activation after the innermost one
abbrev pub next_first : ℕ → ℕ
next_first live = cell_from live 32

abbrev pub by_display : List ℤ → List ℕ → Finding
by_display cells display =
    record {
      cell = λ w. cell_by cells (first_cell display w) w;
      home = λ w. home_by cells (first_cell display w) w;
      target = λ w. target_by cells (first_cell display w) w;
      handed = λ w. handed_by cells (first_cell display w) w;
    }

-- the name with a word can be reached: its own cell is one of the words, what a formal holds is not negative, and the cell that it finally
-- stands for is one of the words
pub record Reachable (cells : List ℤ) (display : List ℕ) (w : ℕ) : Type 0 where
  pub own : own_cell display w < 8192
  pub whole : direct w ≡ false → lt_z (get_or cells (own_cell display w) (pos 0)) (pos 0) ≡ false
  pub cell : cell_by cells (first_cell display w) w < 8192

-- and it is no formal
pub record Direct (cells : List ℤ) (display : List ℕ) (w : ℕ) : Type 0 where
  pub reachable : Reachable cells display w
  pub is : direct w ≡ true

pub record ThroughFormal (cells : List ℤ) (display : List ℕ) (w : ℕ) : Type 0 where
  pub reachable : Reachable cells display w
  pub is : direct w ≡ false

-- so many arguments from a place on have their own cells below the next activation's
pub record ArgumentsReachable (code : List ℕ) (display : List ℕ) (live from count : ℕ) : Type 0 where
  pub few : count ≤ 32
  pub there : from + count ≤ 4096
  pub below : (i : ℕ) → i < count → own_cell display (get_or code (from + i) 0) < next_first live

-- What a statement asks: its words stand in the script, and its names are such as P says

module _ (P : ℕ → Type 0) (code : List ℕ) (at : ℕ) where
  -- of a label and the name that is tested, or of a group and a member
  pub record TwoNames : Type 0 where
    pub within : at + 3 ≤ 4096
    pub first : P (get_or code (at + 1) 0)
    pub second : P (get_or code (at + 2) 0)

  -- of a target, a group and a member
  pub record ThreeNames : Type 0 where
    pub within : at + 4 ≤ 4096
    pub first : P (get_or code (at + 1) 0)
    pub second : P (get_or code (at + 2) 0)
    pub third : P (get_or code (at + 3) 0)

  -- of an AR
  pub record Operands : Type 0 where
    pub within : at + 5 ≤ 4096
    pub target : P (get_or code (at + 1) 0)
    pub left : P (get_or code (at + 3) 0)
    pub right : P (get_or code (at + 4) 0)

-- a call, whichever way its procedure is found
pub record Callable (code : List ℕ) (display : List ℕ) (activations live at : ℕ) : Type 0 where
  pub activations-few : activations ≤ 256
  pub live-few : live ≤ 255
  pub within : at + 3 ≤ 4096
  pub arguments : ArgumentsReachable code display live (at + 3) (get_or code (at + 2) 0)
