-- The search engine between two steps: `Running` says that its arrays hold a sound stack of frames, that `froms` has where the search goes on after each
-- frame, and `passers` the first passer of what each formal of kind procedure stands for. The engine keeps no links: those of the stack are a field here.
-- `Succeeds` says that another state of the arrays is the one a step later.
use Rattle.std.specs.Prelude.{ℕ, suc, pred, ◌+◌, ◌*◌, List, ◌≡◌, ℤ, length, get_or}
use Rattle.std.proofs.Math.Option.{some}
use Rattle.std.proofs.Math.ListN.{get_elem?}
use Rattle.language.specs.Text.{procedure, Formal}
use Rattle.frames.specs.Frame.{Frame}
use Rattle.f_search.specs.Passers.{FormalAt, passer}
use Rattle.f_search.specs.Search.{onward}
use Rattle.resolved.specs.Resolved.{Covers}
use Rattle.steps.specs.Standing.{Standing}
use Rattle.steps.specs.Means.{Follows}
use Rattle.run_state.specs.declared.Registers.{Registers}
use Rattle.run_state.specs.Limits.{limits_by}
use Rattle.search_numbers.specs.NumberFields.{numbered_of}

-- activations are counted from 0, frames and positions from 1
abbrev pub formal_in : ℕ → ℕ → FormalAt
formal_in k i = record { frame = suc k; position = suc i }

abbrev pub Froms : List Frame → List ℕ → Type 0
Froms fs froms = (k : ℕ) (f : Frame) → get_elem? fs k ≡ some f → get_or froms k 0 ≡ pred (onward fs (suc k))

abbrev pub Passers : List Frame → List ℕ → Type 0
Passers fs passers =
    (k i : ℕ) (f : Frame) (m : Formal) → get_elem? fs k ≡ some f → get_elem? f.formals i ≡ some m → m.kind ≡ procedure → get_or passers (32 * k + i) 0 ≡ pred (passer fs (formal_in k i))

pub record Running (code numbers : List ℕ) (activations limit : ℕ) (cells : List ℤ) (passers blocks nexts froms : List ℕ) (table : List ℤ) (here : Registers) : Type 0 where
  pub links : List ℕ
  pub standing : Standing code (limits_by activations limit) cells blocks nexts links table here.pairs here.live here.at here.end
  pub numbers-stand : Covers numbers 0 (numbered_of standing.name standing.program)
  pub froms-are : Froms standing.stack.frames froms
  pub passers-are : Passers standing.stack.frames passers
  pub froms-long : length froms ≡ 256
  pub passers-long : length passers ≡ 8192

-- the state of the arrays one step later
pub record Succeeds {code numbers : List ℕ} {activations limit : ℕ} {cells : List ℤ} {passers blocks nexts froms : List ℕ} {table : List ℤ} {here : Registers}
    (w : Running code numbers activations limit cells passers blocks nexts froms table here)
    (cells' : List ℤ) (passers' blocks' nexts' froms' : List ℕ) (table' : List ℤ) (here' : Registers) : Type 0 where
  pub running : Running code numbers activations limit cells' passers' blocks' nexts' froms' table' here'
  pub follows : Follows w.standing running.standing.stack running.standing.program running.standing.name
