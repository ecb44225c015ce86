-- What entering a block asks, in numbers (`Enterable`), and what it makes of the arrays (`EnteredIn`).
use Rattle.std.specs.Prelude.{ℕ, ◌+◌, ◌≤◌, ◌<◌, List, ◌≡◌, ℤ, get_or, set}
use Rattle.resolved.specs.Layout.{formals_in, names_in, end_in, first_in, cell_from}
use Rattle.run_moves.specs.Effects.{Cleared}
use Rattle.run_state.specs.declared.Registers.{Registers}
use Rattle.run_state.specs.Limits.{goes_to}

pub record Enterable (code : List ℕ) (here : Registers) (body from back : ℕ) : Type 0 where
  pub body-within : body + 2 ≤ 4096
  pub back-within : back < 65536
  pub from-within : from < 65536
  pub room : here.live + 1 < 256
  pub formals-few : formals_in (get_or code body 0) ≤ 32
  pub names-few : names_in (get_or code body 0) ≤ 32

pub record EnteredIn (code : List ℕ) (here : Registers) (body from back : ℕ) (cells : List ℤ) (blocks nexts froms : List ℕ)
    (cells' : List ℤ) (blocks' nexts' froms' : List ℕ) (r : Registers) : Type 0 where
  pub blocks-are : blocks' ≡ set blocks (here.live + 1) body
  pub nexts-are : nexts' ≡ set nexts here.live back
  pub froms-are : froms' ≡ set froms (here.live + 1) from
  pub cleared : Cleared cells (cell_from (here.live + 1) (formals_in (get_or code body 0))) (cell_from (here.live + 1) (names_in (get_or code body 0))) cells'
  pub registers-are : r ≡ goes_to here (here.live + 1) (first_in (get_or code (body + 1) 0)) (end_in (get_or code (body + 1) 0)) here.pairs
