-- A scene as far as a statement looks at it, and the pieces from which the statements' functions are made.
use Rattle.std.specs.Prelude.{ℕ, ◌+◌, ◌*◌, ◌≤◌, ◌<◌, true, false, List, ℤ, get_or, leb}
use Rattle.language.specs.declared.Stop.TheVariants.{NoActivationLeft}
use Rattle.run_moves.specs.Effects.{Effect}
use Rattle.std.specs.Prelude.{Ok, Err}
use Rattle.run_moves.specs.declared.Move.{Move}
use Rattle.run_moves.specs.declared.Move.TheVariants.{On, Enter, Stop}
use Rattle.run_moves.specs.Acting.{Finding, Scene, scene_by, Happened, field, moves, rewrites, no_room, arguments_from, set_all}
use Rattle.resolved.specs.Layout.{formals_in, end_in}

-- a scene as far as most statements look at it
abbrev pub only-cells : List ℕ → List ℤ → ℕ → Scene
only-cells code cells at = scene_by code cells 0 0 at

-- a procedure's body at a place stands after so many formals, and in the script
pub record FormalsBefore (code : List ℕ) (body : ℕ) : Type 0 where
  pub there : body < 4096
  pub before : 3 * formals_in (get_or code body 0) ≤ body

-- The pieces from which the statements' functions are made.

unfoldable pub move_after : Effect → ℕ → Move
move_after (Ok u) next = On next
move_after (Err c) next = Stop c

unfoldable pub block_move : List ℕ → ℕ → ℕ → ℕ → Move
block_move code activations live at =
    elim (leb activations (live + 1)) [ true ↦ Stop NoActivationLeft | false ↦ Enter at live (end_in (get_or code (at + 1) 0)) ]

-- a call of the procedure that activation `home` declares and whose body stands at a place
unfoldable pub entered_by : Finding → Scene → ℕ → ℕ → Happened
entered_by F s home body =
    elim (no_room F s) [
      | true ↦ moves s (Stop NoActivationLeft)
      | false ↦ rewrites s (Enter body home (s.at + 3 + field s 2))
          (set_all s.cells (32 * s.live + 32) (arguments_from F s (s.at + 3) (field s 2)))
    ]
