-- The run of a program: the engine's state as it begins (`start_state`), what the run begins with (`Beginning`), and what it ends with (`Ended`), the frame
-- machine's result with the arrays that hold its stack. The stack's links are not kept, and are a field here.
use Rattle.std.specs.Prelude.{ℕ, List, ◌≡◌, ℤ, length, get_or, replicate}
use Rattle.language.specs.Text.{Block}
use Rattle.language.specs.Machine.{Limits}
use Rattle.frames.specs.Frame.{Result}
use Rattle.resolved.specs.Resolved.{Covers}
use Rattle.search_numbers.specs.NumberFields.{numbered_of}
use Rattle.resolved.specs.Layout.{end_in, first_in}
use Rattle.steps.specs.Begun.{Begun}
use Rattle.run_state.specs.declared.Registers.{Registers}
use Rattle.run_state.specs.declared.Halt.{Halt}
use Rattle.run_state.specs.Limits.{limits_by}
use Rattle.run_state.specs.Ended.{EndedFrom}
use Rattle.search_moves.specs.Running.{Froms}
use Rattle.search_run.specs.declared.state.State.{State}

-- all zeros
abbrev pub start_state : State
start_state = record { passers = replicate 8192 0; blocks = replicate 256 0; nexts = replicate 256 0; froms = replicate 256 0 }

-- what it begins with: what every engine's run does (`Begun`), the numbers of the program's names, and arrays of its own with zeros for the first activation
pub record Beginning (code numbers : List ℕ) (cells : List ℤ) (passers blocks nexts froms : List ℕ) (table : List ℤ) (pairs limit activations : ℕ) : Type 0 where
  pub begun : Begun code cells table pairs limit activations
  pub numbers-stand : Covers numbers 0 (numbered_of begun.name begun.program)
  pub passers-long : length passers ≡ 8192
  pub blocks-long : length blocks ≡ 256
  pub nexts-long : length nexts ≡ 256
  pub froms-long : length froms ≡ 256
  pub no_block : get_or blocks 0 0 ≡ 0
  pub no-from : get_or froms 0 0 ≡ 0

-- what a run ends with: the frame machine's result, the arrays hold its stack, and `froms` has where the search goes on after each frame of it
pub record EndedIn (done : ℕ) (program : Block) (name : ℕ) (l : Limits) (result : Result) (r : Halt) (cells : List ℤ) (blocks nexts froms : List ℕ) (table : List ℤ) : Type 0 where
  pub links : List ℕ
  pub ended : EndedFrom done program name l result r cells blocks nexts links table
  pub froms-are : Froms result.final.frames froms

abbrev pub Ended : Block → ℕ → ℕ → ℕ → Result → Halt → List ℤ → List ℕ → List ℕ → List ℕ → List ℤ → Type 0
Ended program name activations limit = EndedIn 0 program name (limits_by activations limit)
