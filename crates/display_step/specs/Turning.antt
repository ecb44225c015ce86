-- What a step comes to, by the arrays that it may write: `Turned`.
use Rattle.std.specs.Prelude.{ℕ, List, ℤ}
use Rattle.run_state.specs.declared.Registers.{Registers}
use Rattle.run_state.specs.declared.Turn.{Turn}
use Rattle.run_state.specs.declared.Turn.TheVariants.{Went, Finished, Stopped}
use Rattle.run_state.specs.Limits.{limits_by}
use Rattle.run_state.specs.Turns.{LeavesProgram, Stops}
use Rattle.display_moves.specs.Running.{Running, Succeeds}

-- what a step may write
pub record Arrays : Type 0 where
  pub cells : List ℤ
  pub blocks : List ℕ
  pub nexts : List ℕ
  pub links : List ℕ
  pub display : List ℕ
  pub table : List ℤ

abbrev pub arrays_of : List ℤ → List ℕ → List ℕ → List ℕ → List ℕ → List ℤ → Arrays
arrays_of cells blocks nexts links display table =
    record { cells = cells; blocks = blocks; nexts = nexts; links = links; display = display; table = table }

module _ {code : List ℕ} {activations limit : ℕ} {cells : List ℤ} {blocks nexts links display : List ℕ} {table : List ℤ} {here : Registers}
    (w : Running code activations limit cells blocks nexts links display table here) where
  abbrev pub Turned : Turn → List ℤ → List ℕ → List ℕ → List ℕ → List ℕ → List ℤ → Type 0
  Turned (Went here') cells' blocks' nexts' links' display' table' = Succeeds w cells' blocks' nexts' links' display' table' here'
  Turned Finished cells' blocks' nexts' links' display' table' = LeavesProgram here cells table cells' table'
  Turned (Stopped c) cells' blocks' nexts' links' display' table' =
      Stops (limits_by activations limit) w.standing.stack c (arrays_of cells blocks nexts links display table) (arrays_of cells' blocks' nexts' links' display' table')

-- from whichever state in which the engine can stand
pub record TurnsTo (code : List ℕ) (activations limit : ℕ) (cells : List ℤ) (blocks nexts links display : List ℕ) (table : List ℤ) (here : Registers)
    (t : Turn) (cells' : List ℤ) (blocks' nexts' links' display' : List ℕ) (table' : List ℤ) : Type 0 where
  pub turned : (w : Running code activations limit cells blocks nexts links display table here) → Turned w t cells' blocks' nexts' links' display' table'
