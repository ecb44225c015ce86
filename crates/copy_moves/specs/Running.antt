-- The copying engine between two steps: `Running` says that its arrays hold a sound stack of frames and, beside it, the state of the copy-rule
-- machine that runs with it: the area its texts, `firsts`, `starts` its new names, `targets` what its labels and procedures lead to, `looked` what
-- the looked-up name reads as. `links` is kept for the sheet alone: no name is found by it. `Succeeds` says that another state of the arrays is the
-- one a step later.
use Rattle.std.specs.Prelude.{ℕ, ◌+◌, ◌*◌, ◌≤◌, ◌<◌, List, ◌≡◌, ℤ, length}
use Rattle.language.specs.Encoding.{block_fields}
use Rattle.language.specs.Machine.{State}
use Rattle.instances.proofs.Invariant.{Invariant}
use Rattle.frames.specs.Related.{Related}
use Rattle.resolved.specs.Resolved.{Covers}
use Rattle.steps.specs.Standing.{Standing}
use Rattle.steps.specs.Means.{Follows}
use Rattle.copy_fields.specs.NameFields.{named_of}
use Rattle.copy_names.specs.Owner.{NewNames}
use Rattle.copy_texts.specs.Texts.{Texts, Aims, Looks}
use Rattle.run_state.specs.declared.Registers.{Registers}
use Rattle.run_state.specs.Limits.{limits_by}

pub record Running (code names : List ℕ) (activations limit : ℕ) (cells : List ℤ) (area : List ℕ) (width : ℕ) (blocks nexts links firsts starts targets looked : List ℕ) (table : List ℤ) (here : Registers) : Type 0 where
  pub standing : Standing code (limits_by activations limit) cells blocks nexts links table here.pairs here.live here.at here.end
  pub copies : State
  pub related : Related copies standing.stack
  pub invariant : Invariant copies
  pub names_stand : Covers names 0 (named_of standing.program)
  pub texts : Texts area width names (block_fields standing.program) copies.live standing.stack.frames
  pub new-names : NewNames copies.live copies.fresh firsts starts
  pub aims : Aims targets standing.stack.frames
  pub looks : Looks looked copies.live standing.stack.frames standing.name
  pub name-small : standing.name < 65536
  pub fresh-is : here.fresh ≡ copies.fresh
  pub wide : length (block_fields standing.program) ≤ width
  pub small : width ≤ 4096
  pub room : activations * width ≤ length area
  pub firsts-long : length firsts ≡ 256
  pub starts-long : length starts ≡ 256
  pub targets-long : length targets ≡ 8224
  pub looked-long : length looked ≡ 256

-- the state of the arrays one step later
pub record Succeeds {code names : List ℕ} {activations limit : ℕ} {cells : List ℤ} {area : List ℕ} {width : ℕ} {blocks nexts links firsts starts targets looked : List ℕ} {table : List ℤ} {here : Registers}
    (w : Running code names activations limit cells area width blocks nexts links firsts starts targets looked table here)
    (cells' : List ℤ) (area' blocks' nexts' links' firsts' starts' targets' looked' : List ℕ) (table' : List ℤ) (here' : Registers) : Type 0 where
  pub running : Running code names activations limit cells' area' width blocks' nexts' links' firsts' starts' targets' looked' table' here'
  pub follows : Follows w.standing running.standing.stack running.standing.program running.standing.name
  pub few-more : here'.fresh ≤ here.fresh + 32
