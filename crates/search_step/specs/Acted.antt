-- What the next statement does in the search engine: what `acting` says with its names found along the stack's links, which the search comes to, and beside
-- it where the search goes on from an activation that is entered, and the passers of its formals.
use Rattle.std.specs.Prelude.{ℕ, ◌+◌, List, ◌≡◌, ℤ, get_or}
use Rattle.run_moves.specs.declared.Move.{Move}
use Rattle.run_moves.specs.declared.Move.TheVariants.{On, Table as Asks, Jump, Enter, Stop}
use Rattle.run_moves.specs.Acting.{Happened, scene_by, acting, Op, constant-op, add-op, subtract-op, compare-op, branch-op, goto-op, block-op, call-op, pair-op, unpair-op, query-op}
use Rattle.run_moves.specs.Acting.{constant-formal-op, arithmetic-formal-op, branch-formal-op, goto-formal-op, call-formal-op, op_of}
use Rattle.steps.specs.Finding.{by_first, first_by_links}
use Rattle.run_state.specs.declared.Registers.{Registers}
use Rattle.run_state.specs.Limits.{goes_to}
use Rattle.search_calls.specs.Passing.{field_own, handed_on, steered}
use Rattle.search_moves.specs.Running.{Running}
use Rattle.run_statements.specs.declared.moved.Moved.{Moved}
use Rattle.run_statements.specs.Moved.{moved_by}

-- what the statement at a place asks: an engine that runs stands there, before the end of its text
pub record Doing (code numbers : List ℕ) (cells : List ℤ) (passers blocks froms : List ℕ) (activations live at : ℕ) : Type 0 where
  pub limit : ℕ
  pub table : List ℤ
  pub pairs : ℕ
  pub nexts : List ℕ
  pub here : Registers
  pub end : ℕ
  pub running : Running code numbers activations limit cells passers blocks nexts froms table (goes_to here live at end pairs)
  pub before : at ≡ end → ⊥

module _ (code numbers : List ℕ) (passers blocks froms : List ℕ) (live at : ℕ) where
  -- where the search goes on from the activation that a statement enters: through a formal from that formal's passer, else from the innermost activation
  unfoldable pub from_by : Op → ℕ
  from_by constant-op = live
  from_by add-op = live
  from_by subtract-op = live
  from_by compare-op = live
  from_by branch-op = live
  from_by goto-op = live
  from_by block-op = live
  from_by call-op = live
  from_by pair-op = live
  from_by unpair-op = live
  from_by query-op = live
  from_by constant-formal-op = live
  from_by arithmetic-formal-op = live
  from_by branch-formal-op = live
  from_by goto-formal-op = live
  from_by call-formal-op = get_or passers (field_own code numbers blocks froms live (at + 1)) 0

  -- the passers after a statement that makes a move: those of a call's arguments are handed on where it enters
  unfoldable pub entered_passers : Op → List ℕ
  entered_passers constant-op = passers
  entered_passers add-op = passers
  entered_passers subtract-op = passers
  entered_passers compare-op = passers
  entered_passers branch-op = passers
  entered_passers goto-op = passers
  entered_passers block-op = passers
  entered_passers call-op = handed_on code numbers blocks froms live passers at
  entered_passers pair-op = passers
  entered_passers unpair-op = passers
  entered_passers query-op = passers
  entered_passers constant-formal-op = passers
  entered_passers arithmetic-formal-op = passers
  entered_passers branch-formal-op = passers
  entered_passers goto-formal-op = passers
  entered_passers call-formal-op = handed_on code numbers blocks froms live passers at

  unfoldable pub passers_after : Op → Move → List ℕ
  passers_after o (On p) = passers
  passers_after o (Asks p g m t a) = passers
  passers_after o (Jump h p) = passers
  passers_after o (Enter b h p) = entered_passers o
  passers_after o (Stop c) = passers

module _ {code numbers : List ℕ} {cells : List ℤ} {passers blocks froms : List ℕ} {activations live at : ℕ} (d : Doing code numbers cells passers blocks froms activations live at) where
  abbrev pub happening : Happened
  happening = acting (by_first cells (first_by_links d.running.standing)) (scene_by code cells activations live at)

  abbrev pub op : Op
  op = op_of (get_or code at 0)

  pub record Acts (r : Moved) (cells' : List ℤ) (passers' : List ℕ) : Type 0 where
    pub move-is : r ≡ moved_by (steered (from_by code numbers passers blocks froms live at op) happening.move)
    pub cells_are : cells' ≡ happening.cells
    pub passers-are : passers' ≡ passers_after code numbers passers blocks froms live at op happening.move
