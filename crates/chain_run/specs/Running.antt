-- What a run begins with (`Beginning`), and what it ends with (`Ended`, and from where the engine stands, `RunFrom`): the frame machine's result, with
-- the records and words that hold its stack.
use Rattle.std.specs.Prelude.{ℕ, ◌≤◌, List, ◌≡◌, ℤ, length}
use Rattle.language.specs.Text.{Block}
use Rattle.frames.specs.Frame.{Result, links_followed, frame_run}
use Rattle.steps.specs.Begun.{Begun}
use Rattle.chain_records.specs.declared.Activation.{Activation}
use Rattle.run_state.specs.declared.Registers.{Registers}
use Rattle.run_state.specs.declared.Halt.{Halt}
use Rattle.run_state.specs.Limits.{limits_by}
use Rattle.run_state.specs.Ended as state
use Rattle.chain_links.specs.Records.{blocks_in, nexts_in, links_in}
use Rattle.chain_links.specs.Running.{Running}

-- what a run begins with: what every engine's run does (`Begun`), and records for as many activations as may be live, whatever they hold
pub record Beginning (code : List ℕ) (cells : List ℤ) (records : List Activation) (table : List ℤ) (pairs limit activations : ℕ) : Type 0 where
  pub begun : Begun code cells table pairs limit activations
  pub room : activations ≤ length records

-- what it ends with, from a stack at which so many steps are done: the frame machine's result, and the links followed for the looked-up name
pub record EndedFrom (done : ℕ) (program : Block) (name activations limit : ℕ) (result : Result) (r : Halt) (cells : List ℤ) (records : List Activation)
    (table : List ℤ) : Type 0 where
  pub ended : state.EndedFrom done program name (limits_by activations limit) result r cells (blocks_in records) (nexts_in records) (links_in records) table
  pub links-are : r.links ≡ links_followed result.final.frames name

abbrev pub Ended : Block → ℕ → ℕ → ℕ → Result → Halt → List ℤ → List Activation → List ℤ → Type 0
Ended = EndedFrom 0

abbrev pub RunFrom : {code : List ℕ} {activations limit : ℕ} {cells : List ℤ} {records : List Activation} {table : List ℤ} {here : Registers}
    → Running code activations limit cells records table here → ℕ → Halt → List ℤ → List Activation → List ℤ → Type 0
RunFrom {activations = activations} {limit = limit} w allowance r cells' records' table' =
    let s = w.standing in
    EndedFrom s.stack.steps s.program s.name activations limit (frame_run (limits_by activations limit) allowance s.stack) r cells' records' table'
