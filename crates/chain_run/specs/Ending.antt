-- The loop of a run and its end, from any state in which the engine can stand. `Going`: so far a run has come, with words and records as they are and so
-- many steps left. `Last`: what the last step came to ends it; `Ending`: what is asked at the end.
-- `begun`: a run begins so; `went-as`: a step keeps it; `over-as`: a step ends it; `out-of-steps`: no step is left. `finished-end`, `halted-end`: what a run
-- then ends with. `starts`: the engine can stand where a program begins, and `program-run`: what a run from there is to the program.
use Rattle.std.specs.Prelude.{ℕ, ◌-◌, ◌≤◌, ◌≡◌, refl, ℤ, get_or, set}
use mathlib.Core.List.{List}
use Rattle.frames.specs.Frame.{halted, frame_step, frame_run}
use Rattle.resolved.specs.Resolved.{level_in}
use Rattle.steps.specs.Underway as steps
use Rattle.resolved.specs.Layout.{end_in, first_in}
use Rattle.chain_records.specs.declared.Activation.{Activation}
use Rattle.chain_records.specs.Records.{at as record-at}
use Rattle.run_state.specs.declared.Registers.{Registers}
use Rattle.run_state.specs.declared.Turn.{Turn}
use Rattle.run_state.specs.declared.Turn.TheVariants.{Went, Finished, Stopped}
use Rattle.run_state.specs.declared.Halt.{Halt}
use Rattle.run_state.specs.Limits.{limits_by}
use Rattle.run_state.specs.Halts.{spent_after, stopped_after, named_by}
use Rattle.run_state.specs.Ended as state
use Rattle.chain_links.specs.declared.Found.{Found}
use Rattle.chain_links.specs.Records.{with_next}
use Rattle.chain_links.specs.Running.{Running}

-- What the code makes

abbrev pub start_by : List ℕ → ℕ → Registers
start_by code pairs =
    record { live = 0; at = first_in (get_or code 1 0); end = end_in (get_or code 1 0); pairs = pairs; level = level_in (get_or code 0 0); fresh = 0 }

unfoldable pub halt_by : Registers → Turn → Found → ℕ → ℕ → Halt
halt_by here (Went n) found allowance left = named_by (spent_after here (allowance - left)) found.designator found.links
halt_by here Finished found allowance left = named_by (spent_after here (allowance - left)) found.designator found.links
halt_by here (Stopped c) found allowance left = named_by (stopped_after here c (allowance - left)) found.designator found.links

pub halted-pairs : (here : Registers) (turn : Turn) (found : Found) (allowance left : ℕ) → (halt_by here turn found allowance left).pairs ≡ here.pairs
unfolding halt_by
halted-pairs here (Went n) found allowance left = refl
halted-pairs here Finished found allowance left = refl
halted-pairs here (Stopped c) found allowance left = refl

-- the records once the place of the innermost activation's next statement is put with the others'
abbrev pub settled : List Activation → Registers → List Activation
settled records here = set records here.live (with_next (record-at records here.live) here.at)

-- The loop

-- what ends it; where the program is left, nothing is said of the records
module _ {code : List ℕ} {activations limit : ℕ} {cells : List ℤ} {records : List Activation} {table : List ℤ} {here : Registers}
    (w : Running code activations limit cells records table here) where
  abbrev pub Ends : List Activation → Turn → ℕ → Type 0
  Ends records' (Went n) left = (left ≡ 0) × (records' ≡ records)
  Ends records' Finished left = (here.at ≡ here.end) × (here.live ≡ 0) × (1 ≤ left)
  Ends records' (Stopped c) left = (frame_step (limits_by activations limit) w.standing.stack ≡ halted c) × (1 ≤ left) × (records' ≡ records)

module _ {code : List ℕ} {activations limit : ℕ} {cells : List ℤ} {records : List Activation} {table : List ℤ} {start : Registers}
    (w : Running code activations limit cells records table start) (allowance : ℕ) where
  pub record Going (cells' : List ℤ) (records' : List Activation) (table' : List ℤ) (here : Registers) (left : ℕ) : Type 0 where
    pub running : Running code activations limit cells' records' table' here
    pub underway : steps.UnderwayFrom w.standing.stack.steps w.standing.program w.standing.name allowance
        (frame_run (limits_by activations limit) allowance w.standing.stack) running.standing left

  -- what the last step came to, with the records as it found them
  pub record Last (cells' : List ℤ) (records' : List Activation) (table' : List ℤ) (here : Registers) (turn : Turn) (left : ℕ) : Type 0 where
    pub before : List Activation
    pub going : Going cells' before table' here left
    pub ends : Ends going.running records' turn left

  pub begun : Going cells records table start allowance
  begun = record { running = w; underway = steps.begun-from w.standing allowance }

pub record Ending (code : List ℕ) (cells : List ℤ) (records : List Activation) (here : Registers) (turn : Turn) (allowance left : ℕ) : Type 0 where
  pub activations : ℕ
  pub limit : ℕ
  pub cells₀ : List ℤ
  pub records₀ : List Activation
  pub table₀ : List ℤ
  pub start : Registers
  pub from : Running code activations limit cells₀ records₀ table₀ start
  pub table : List ℤ
  pub last : Last from allowance cells records table here turn left

-- A step more, and the last one
