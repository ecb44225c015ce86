-- The run of a program: the engine's state as it begins (`start_state`), what the run begins with (`Beginning`), and what it ends with (`Ended`), the frame
-- machine's result with the arrays that hold its stack.
use Rattle.std.specs.Prelude.{ℕ, List, ◌≡◌, ℤ, length, get_or, replicate}
use Rattle.language.specs.Text.{Block}
use Rattle.frames.specs.Frame.{Result}
use Rattle.resolved.specs.Layout.{end_in, first_in}
use Rattle.steps.specs.Begun.{Begun}
use Rattle.run_state.specs.declared.Registers.{Registers}
use Rattle.run_state.specs.declared.Halt.{Halt}
use Rattle.run_state.specs.Limits.{limits_by}
use Rattle.run_state.specs.Ended.{EndedFrom}
use Rattle.display_run.specs.declared.state.State.{State}

-- all zeros
abbrev pub start_state : State
start_state = record { blocks = replicate 256 0; nexts = replicate 256 0; links = replicate 256 0; display = replicate 256 0 }

-- what it begins with: what every engine's run does (`Begun`), and arrays of its own with zeros for the first activation
pub record Beginning (code : List ℕ) (cells : List ℤ) (blocks nexts links display : List ℕ) (table : List ℤ) (pairs limit activations : ℕ) : Type 0 where
  pub begun : Begun code cells table pairs limit activations
  pub blocks-long : length blocks ≡ 256
  pub nexts-long : length nexts ≡ 256
  pub links-long : length links ≡ 256
  pub display-long : length display ≡ 256
  pub no_block : get_or blocks 0 0 ≡ 0
  pub no-link : get_or links 0 0 ≡ 0
  pub no-entry : get_or display 1 0 ≡ 0

-- what it ends with: the frame machine's result, and the arrays hold its stack
abbrev pub Ended : Block → ℕ → ℕ → ℕ → Result → Halt → List ℤ → List ℕ → List ℕ → List ℕ → List ℤ → Type 0
Ended program name activations limit = EndedFrom 0 program name (limits_by activations limit)
