-- The display engine between two steps: `Running` says that the arrays hold a sound stack and that the display is that of its innermost frame,
-- `Succeeds` that another state of the arrays is the one a step later. The others are what its functions ask.
use Rattle.std.specs.Prelude.{ℕ, suc, ◌+◌, ◌≤◌, ◌<◌, List, ◌≡◌, ℤ, length, get_or}
use Rattle.std.proofs.Math.Option.{some}
use Rattle.frames.specs.Frame.{Frame, numbered}
use Rattle.coordinates.specs.Chain.{level_of, Downward}
use Rattle.arrays.specs.Holds.{Shows}
use Rattle.arrays.specs.Displays.{ShowsFrom, LinksOf}
use Rattle.steps.specs.Standing.{Standing}
use Rattle.steps.specs.Means.{Follows, JumpsTo, EntersAt}
use Rattle.run_state.specs.declared.Registers.{Registers}
use Rattle.run_state.specs.Limits.{limits_by, goes_to}

pub record Running (code : List ℕ) (activations limit : ℕ) (cells : List ℤ) (blocks nexts links display : List ℕ) (table : List ℤ) (here : Registers) : Type 0 where
  pub standing : Standing code (limits_by activations limit) cells blocks nexts links table here.pairs here.live here.at here.end
  pub shows : Shows standing.stack.frames display
  pub display-long : length display ≡ 256

-- what the statement at a place asks: an engine that runs stands there, before the end of its text
pub record Doing (code : List ℕ) (cells : List ℤ) (display : List ℕ) (activations live at : ℕ) : Type 0 where
  pub limit : ℕ
  pub table : List ℤ
  pub pairs : ℕ
  pub blocks : List ℕ
  pub nexts : List ℕ
  pub links : List ℕ
  pub here : Registers
  pub end : ℕ
  pub running : Running code activations limit cells blocks nexts links display table (goes_to here live at end pairs)
  pub before : at ≡ end → ⊥

-- the state of the arrays one step later
pub record Succeeds {code : List ℕ} {activations limit : ℕ} {cells : List ℤ} {blocks nexts links display : List ℕ} {table : List ℤ} {here : Registers}
    (w : Running code activations limit cells blocks nexts links display table here)
    (cells' : List ℤ) (blocks' nexts' links' display' : List ℕ) (table' : List ℤ) (here' : Registers) : Type 0 where
  pub running : Running code activations limit cells' blocks' nexts' links' display' table' here'
  pub follows : Follows w.standing running.standing.stack running.standing.program running.standing.name

-- the engine's numbers are in range
pub record Placed (here : Registers) : Type 0 where
  pub live : here.live < 256
  pub at : here.at ≤ 4096
  pub end : here.end ≤ 4096

-- the first word of an activation's block can be read, and the second
pub record HeadThere (blocks : List ℕ) (activation : ℕ) : Type 0 where
  pub few : activation < 256
  pub within : get_or blocks activation 0 < 4096

pub record BoundsThere (blocks : List ℕ) (activation : ℕ) : Type 0 where
  pub few : activation < 256
  pub within : get_or blocks activation 0 + 1 < 4096

-- the looked-up name can be found in the innermost activation
pub record Looking (code : List ℕ) (cells : List ℤ) (blocks display : List ℕ) (live : ℕ) : Type 0 where
  pub nexts : List ℕ
  pub links : List ℕ
  pub activations : ℕ
  pub limit : ℕ
  pub table : List ℤ
  pub here : Registers
  pub running : Running code activations limit cells blocks nexts links display table (goes_to here live here.at here.end here.pairs)

-- Putting the display right: it is that of frame `old` of some frames, and the entries up to `sure` are its own
pub record Restorable (links display : List ℕ) (activation level sure : ℕ) : Type 0 where
  pub frames : List Frame
  pub old : ℕ
  pub down : Downward frames
  pub few : length frames ≤ 256
  pub links-are : LinksOf frames links
  pub frame : Frame
  pub there : numbered frames (suc activation) ≡ some frame
  pub level-is : level ≡ level_of frames (suc activation)
  pub level-high : level < 256
  pub sure-is : sure ≡ level_of frames old
  pub shows : ShowsFrom frames old display
  pub display-long : length display ≡ 256

-- What leaving, jumping and entering ask of arrays that they are not lent

pub record LeaveReady (code blocks nexts links display : List ℕ) (here : Registers) : Type 0 where
  pub activations : ℕ
  pub limit : ℕ
  pub cells : List ℤ
  pub table : List ℤ
  pub running : Running code activations limit cells blocks nexts links display table here
  pub ended : here.at ≡ here.end
  pub above : 1 ≤ here.live

pub record JumpReady (code blocks links display : List ℕ) (here : Registers) (home at : ℕ) : Type 0 where
  pub nexts : List ℕ
  pub activations : ℕ
  pub limit : ℕ
  pub cells : List ℤ
  pub table : List ℤ
  pub running : Running code activations limit cells blocks nexts links display table here
  pub jumps : JumpsTo running.standing home at

-- a new activation can be linked to one that is live
pub record Linkable (code blocks links display : List ℕ) (live link : ℕ) : Type 0 where
  pub nexts : List ℕ
  pub activations : ℕ
  pub limit : ℕ
  pub cells : List ℤ
  pub table : List ℤ
  pub here : Registers
  pub running : Running code activations limit cells blocks nexts links display table (goes_to here live here.at here.end here.pairs)
  pub high : link ≤ live

pub record EnterReady (code : List ℕ) (cells : List ℤ) (blocks nexts links display : List ℕ) (here : Registers) (body link back : ℕ) : Type 0 where
  pub activations : ℕ
  pub limit : ℕ
  pub before : List ℤ
  pub table : List ℤ
  pub running : Running code activations limit before blocks nexts links display table here
  pub enters : EntersAt running.standing body link back cells
