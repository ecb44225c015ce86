-- What a step comes to (`Turned`), and what leaving an activation asks (`LeaveReady`).
use Rattle.std.specs.Prelude.{ℕ, List, ◌≡◌, ℤ}
use Rattle.chain_records.specs.declared.Activation.{Activation}
use Rattle.run_state.specs.declared.Registers.{Registers}
use Rattle.run_state.specs.Limits.{limits_by}
use Rattle.run_state.specs.Turns.{LeavesProgram, Stops}
use Rattle.chain_links.specs.Running.{Running, Succeeds}
use Rattle.run_state.specs.declared.Turn.{Turn}
use Rattle.run_state.specs.declared.Turn.TheVariants.{Went, Finished, Stopped}

-- what a step may write
pub record Lists : Type 0 where
  pub cells : List ℤ
  pub records : List Activation
  pub table : List ℤ

abbrev pub lists_of : List ℤ → List Activation → List ℤ → Lists
lists_of cells records table = record { cells = cells; records = records; table = table }

module _ {code : List ℕ} {activations limit : ℕ} {cells : List ℤ} {records : List Activation} {table : List ℤ} {here : Registers}
    (w : Running code activations limit cells records table here) where
  abbrev pub Turned : Turn → List ℤ → List Activation → List ℤ → Type 0
  Turned (Went here') cells' records' table' = Succeeds w cells' records' table' here'
  Turned Finished cells' records' table' = LeavesProgram here cells table cells' table'
  Turned (Stopped c) cells' records' table' =
      Stops (limits_by activations limit) w.standing.stack c (lists_of cells records table) (lists_of cells' records' table')

-- what leaving asks: the innermost activation is at the end of its text
pub record LeaveReady (code : List ℕ) (records : List Activation) (here : Registers) : Type 0 where
  pub activations : ℕ
  pub limit : ℕ
  pub cells : List ℤ
  pub table : List ℤ
  pub running : Running code activations limit cells records table here
  pub ended : here.at ≡ here.end
