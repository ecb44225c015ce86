-- What a step asks (`Ready`) and comes to (`Turned`), and what a run ends with (`Ended`, and from where the engine stands, `RunFrom`): the frame machine's
-- result, with the arrays that hold its stack. Of the area only the length is known then.
use Rattle.std.specs.Prelude.{ℕ, ◌+◌, ◌*◌, ◌≤◌, List, ℤ}
use Rattle.language.specs.Text.{Block}
use Rattle.frames.specs.Frame.{Result, frame_run}
use Rattle.run_state.specs.declared.Registers.{Registers}
use Rattle.run_state.specs.declared.Turn.{Turn}
use Rattle.run_state.specs.declared.Turn.TheVariants.{Went, Finished, Stopped}
use Rattle.run_state.specs.declared.Halt.{Halt}
use Rattle.run_state.specs.Limits.{limits_by}
use Rattle.run_state.specs.Turns.{LeavesProgram, Stops}
use Rattle.run_state.specs.Ended as state
use Rattle.copy_moves.specs.Running.{Running, Succeeds}

-- what a step may write
pub record Arrays : Type 0 where
  pub cells : List ℤ
  pub area : List ℕ
  pub blocks : List ℕ
  pub nexts : List ℕ
  pub links : List ℕ
  pub firsts : List ℕ
  pub starts : List ℕ
  pub targets : List ℕ
  pub looked : List ℕ
  pub table : List ℤ

abbrev pub arrays_of : List ℤ → List ℕ → List ℕ → List ℕ → List ℕ → List ℕ → List ℕ → List ℕ → List ℕ → List ℤ → Arrays
arrays_of cells area blocks nexts links firsts starts targets looked table =
    record {
      cells = cells;
      area = area;
      blocks = blocks;
      nexts = nexts;
      links = links;
      firsts = firsts;
      starts = starts;
      targets = targets;
      looked = looked;
      table = table;
    }

-- the engine runs, and there are new names for so many steps
pub record Ready (code names : List ℕ) (activations limit : ℕ) (cells : List ℤ) (area : List ℕ) (width : ℕ) (blocks nexts links firsts starts targets looked : List ℕ)
    (table : List ℤ) (here : Registers) (steps : ℕ) : Type 0 where
  pub running : Running code names activations limit cells area width blocks nexts links firsts starts targets looked table here
  pub names-left : here.fresh + 32 * steps + 32 ≤ 4294967296

module _ {code names : List ℕ} {activations limit : ℕ} {cells : List ℤ} {area : List ℕ} {width : ℕ} {blocks nexts links firsts starts targets looked : List ℕ} {table : List ℤ} {here : Registers}
    (w : Running code names activations limit cells area width blocks nexts links firsts starts targets looked table here) where
  abbrev pub Turned : Turn → List ℤ → List ℕ → List ℕ → List ℕ → List ℕ → List ℕ → List ℕ → List ℕ → List ℕ → List ℤ → Type 0
  Turned (Went here') cells' area' blocks' nexts' links' firsts' starts' targets' looked' table' = Succeeds w cells' area' blocks' nexts' links' firsts' starts' targets' looked' table' here'
  Turned Finished cells' area' blocks' nexts' links' firsts' starts' targets' looked' table' = LeavesProgram here cells table cells' table'
  Turned (Stopped c) cells' area' blocks' nexts' links' firsts' starts' targets' looked' table' =
      Stops (limits_by activations limit) w.standing.stack c (arrays_of cells area blocks nexts links firsts starts targets looked table)
      (arrays_of cells' area' blocks' nexts' links' firsts' starts' targets' looked' table')

-- from a stack at which so many steps are done
abbrev pub EndedFrom : ℕ → Block → ℕ → ℕ → ℕ → Result → Halt → List ℤ → List ℕ → List ℕ → List ℕ → List ℤ → Type 0
EndedFrom done program name activations limit = state.EndedFrom done program name (limits_by activations limit)

abbrev pub Ended : Block → ℕ → ℕ → ℕ → Result → Halt → List ℤ → List ℕ → List ℕ → List ℕ → List ℤ → Type 0
Ended = EndedFrom 0

abbrev pub RunFrom : {code names : List ℕ} {activations limit : ℕ} {cells : List ℤ} {area : List ℕ} {width : ℕ} {blocks nexts links firsts starts targets looked : List ℕ}
    {table : List ℤ} {here : Registers} → Running code names activations limit cells area width blocks nexts links firsts starts targets looked table here
    → ℕ → Halt → List ℤ → List ℕ → List ℕ → List ℕ → List ℤ → Type 0
RunFrom {activations = activations} {limit = limit} w allowance r cells' blocks' nexts' links' table' =
    let s = w.standing in
    EndedFrom s.stack.steps s.program s.name activations limit (frame_run (limits_by activations limit) allowance s.stack) r cells' blocks' nexts' links' table'
