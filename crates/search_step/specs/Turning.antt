-- What a step comes to, by the arrays that it may write: `Turned`.
use Rattle.std.specs.Prelude.{ℕ, List, ℤ}
use Rattle.run_state.specs.declared.Registers.{Registers}
use Rattle.run_state.specs.declared.Turn.{Turn}
use Rattle.run_state.specs.declared.Turn.TheVariants.{Went, Finished, Stopped}
use Rattle.run_state.specs.Limits.{limits_by}
use Rattle.run_state.specs.Turns.{LeavesProgram, Stops}
use Rattle.search_moves.specs.Running.{Running, Succeeds}

-- what a step may write
pub record Arrays : Type 0 where
  pub cells : List ℤ
  pub passers : List ℕ
  pub blocks : List ℕ
  pub nexts : List ℕ
  pub froms : List ℕ
  pub table : List ℤ

abbrev pub arrays_of : List ℤ → List ℕ → List ℕ → List ℕ → List ℕ → List ℤ → Arrays
arrays_of cells passers blocks nexts froms table =
    record { cells = cells; passers = passers; blocks = blocks; nexts = nexts; froms = froms; table = table }

module _ {code numbers : List ℕ} {activations limit : ℕ} {cells : List ℤ} {passers blocks nexts froms : List ℕ} {table : List ℤ} {here : Registers}
    (w : Running code numbers activations limit cells passers blocks nexts froms table here) where
  abbrev pub Turned : Turn → Arrays → Type 0
  Turned (Went here') a = Succeeds w a.cells a.passers a.blocks a.nexts a.froms a.table here'
  Turned Finished a = LeavesProgram here cells table a.cells a.table
  Turned (Stopped c) a = Stops (limits_by activations limit) w.standing.stack c (arrays_of cells passers blocks nexts froms table) a

-- from whichever state in which the engine can stand
pub record TurnsTo (code numbers : List ℕ) (activations limit : ℕ) (before : Arrays) (here : Registers) (t : Turn) (after : Arrays) : Type 0 where
  pub turned : (w : Running code numbers activations limit before.cells before.passers before.blocks before.nexts before.froms before.table here) → Turned w t after
