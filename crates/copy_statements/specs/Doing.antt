-- What a statement does, read from the innermost activation's copy: its mark and its fields are words of the area, and a name there is a new one
-- (`cell_in`). Beside the copy, the resolved script says only where a text ends, whether a called name is a formal as written, and of what kinds
-- formals and arguments are. The names are those of `Acting`.
use Rattle.std.specs.Prelude.{ℕ, zero, suc, ◌+◌, ◌*◌, ◌-◌, Bool, true, false, ◌&&◌, not, List, [], ◌∷◌, eqb, leb, ℤ, pos, get_or, set}
use Rattle.language.specs.Basics.{eq_z}
use Rattle.language.specs.Encoding.{signed, BK-mark, CL-mark, GO-mark, IF-mark, KN-mark, AR-mark, AD-mark, RM-mark}
use Rattle.language.specs.Machine.{compute}
use Rattle.language.specs.declared.Stop.TheVariants.{NoActivationLeft, ArgumentsDiffer}
use Rattle.run_moves.specs.declared.Ask.{Ask}
use Rattle.run_moves.specs.declared.Ask.TheVariants.{Add, Remove, Query}
use Rattle.run_moves.specs.declared.Move.TheVariants.{On, Table as Asks, Jump, Enter, Stop}
use Rattle.run_moves.specs.Effects.{effect_of, cells_of, same_kinds}
use Rattle.run_moves.specs.Acting.{Scene, Happened, moves, rewrites, operation_of, set_all}
use Rattle.resolved.specs.Layout.{operation_in, formals_in, cell_from, activation_in, held_from}
use Rattle.run_statements.specs.Pieces.{move_after, block_move}
use Rattle.copy_names.specs.Owner.{cell_in}

-- what a statement is read from
pub record Copy : Type 0 where
  pub area : List ℕ
  pub base : ℕ
  pub firsts : List ℕ
  pub starts : List ℕ
  pub targets : List ℕ

module _ (c : Copy) (s : Scene) where
  -- the word so many places after the mark, and the cell of the name there
  abbrev pub text : ℕ → ℕ
  text i = get_or c.area (c.base + s.at + i) 0

  abbrev pub cell : ℕ → ℕ
  cell i = cell_in c.firsts c.starts s.live (text i)

  abbrev pub target : ℕ → ℕ
  target i = get_or c.targets (cell i) 0

  abbrev pub value_at : ℕ → ℤ
  value_at i = get_or s.cells (cell i) (pos 0)

  unfoldable pub do_constant : Happened
  do_constant = rewrites s (On (s.at + 4)) (set s.cells (cell 1) (signed (text 2 + 65536 * text 3)))

  unfoldable pub do_arithmetic : Happened
  do_arithmetic =
      let z = compute (operation_of (text 2)) (value_at 3) (value_at 4) in
      rewrites s (move_after (effect_of z) (s.at + 5)) (cells_of s.cells (cell 1) z)

  -- to the label in a field
  unfoldable pub do_goto : ℕ → Happened
  do_goto i = moves s (Jump (activation_in (cell i)) (target i))

  unfoldable pub do_branch : Happened
  do_branch = elim (eq_z (value_at 1) (pos 0)) [ true ↦ moves s (On (s.at + 3)) | false ↦ do_goto 2 ]

  unfoldable pub do_block : Happened
  do_block = moves s (block_move s.code s.activations s.live s.at)

  -- what the arguments from field i on hand on
  unfoldable pub arguments_from : ℕ → ℕ → List ℤ
  arguments_from i zero = []
  arguments_from i (suc n) = pos (held_from (cell i) (target i)) ∷ arguments_from (i + 1) n

  -- the called name is a formal as written, and the arguments are not as the procedure's formals: 26 goes before 22
  unfoldable pub differs : Bool
  differs =
      eqb (operation_in (get_or s.code s.at 0)) 15
      && not (eqb (formals_in (get_or s.code (target 1) 0)) (text 2) && same_kinds s.code (s.at + 3) (target 1 - 3 * text 2) (text 2))

  unfoldable pub do_call : Happened
  do_call =
      elim differs [
        | true ↦ moves s (Stop ArgumentsDiffer)
        | false ↦ elim (leb s.activations (s.live + 1)) [
          | true ↦ moves s (Stop NoActivationLeft)
          | false ↦ rewrites s (Enter (target 1) (activation_in (cell 1)) (s.at + 3 + text 2)) (set_all s.cells (cell_from s.live 32) (arguments_from 3 (text 2)))
        ]
      ]

  -- AD and RM
  unfoldable pub do_change : Ask → Happened
  do_change a = moves s (Asks (s.at + 3) (cell 1) (cell 2) 0 a)

  unfoldable pub do_query : Happened
  do_query = moves s (Asks (s.at + 4) (cell 2) (cell 3) (cell 1) Query)

-- A statement's mark; QY's is the last.
pub data Mark : Type 0 where
  arithmetic branch constant call goto block pair unpair query : Mark

unfoldable pub mark_of : ℕ → Mark
mark_of m =
    elim (eqb m AR-mark) [
      | true ↦ arithmetic
      | false ↦ elim (eqb m IF-mark) [
        | true ↦ branch
        | false ↦ elim (eqb m KN-mark) [
          | true ↦ constant
          | false ↦ elim (eqb m CL-mark) [
            | true ↦ call
            | false ↦ elim (eqb m GO-mark) [
              | true ↦ goto
              | false ↦ elim (eqb m BK-mark) [
                | true ↦ block
                | false ↦ elim (eqb m AD-mark) [ true ↦ pair | false ↦ elim (eqb m RM-mark) [ true ↦ unpair | false ↦ query ] ]
              ]
            ]
          ]
        ]
      ]
    ]

unfoldable pub happens : Copy → Scene → Mark → Happened
happens c s arithmetic = do_arithmetic c s
happens c s branch = do_branch c s
happens c s constant = do_constant c s
happens c s call = do_call c s
happens c s goto = do_goto c s 1
happens c s block = do_block c s
happens c s pair = do_change c s Add
happens c s unpair = do_change c s Remove
happens c s query = do_query c s

unfoldable pub doing : Copy → Scene → Happened
doing c s = happens c s (mark_of (text c s 0))
