-- What the statement at a place of the resolved script does to an engine's arrays, as a function: the move that it makes, and the words after
-- it. `Finding` is how the engine finds a name from its word. A move that asks the membership table comes to what the table answers (`answer`).
-- Engines are held to `acting` and `answer`, and the frame machine's step is what they come to (the laws stand in crate `steps`).
use Rattle.std.specs.Prelude.{Ok, Err, ℕ, zero, suc, ◌+◌, ◌*◌, ◌-◌, ◌/◌, ◌%◌, Bool, true, false, ◌&&◌, List, [], ◌∷◌, eqb, leb, ℤ, pos, length, get_or, set}
use Rattle.language.specs.Basics.{eq_z}
use Rattle.language.specs.Text.{Operation, plus, minus, less}
use Rattle.language.specs.Encoding.{signed}
use Rattle.language.specs.Table.{Table, Effect, leaves, halts, Asked, gives, refuses, added, removed, queried}
use Rattle.language.specs.Machine.{compute}
use Rattle.language.specs.declared.Stop.{Stop}
use Rattle.language.specs.declared.Stop.TheVariants.{NoActivationLeft, ArgumentsDiffer}
use Rattle.resolved.specs.Layout.{formals_in, operation_in, end_in}
use Rattle.run_moves.specs.declared.Move.{Move}
use Rattle.run_moves.specs.declared.Ask.{Ask}
use Rattle.run_moves.specs.declared.Ask.TheVariants.{Add, Remove, Query}
use Rattle.run_moves.specs.declared.Move.TheVariants.{On, Table as Asks, Jump, Enter, Stop as Halt}
use Rattle.run_moves.specs.Effects.{Effect as Done-or-not, effect_of, cells_of, same_kinds}

-- By a name's word: the cell of the declared name that it finally stands for, the activation that declares that name, what it leads to, and
-- what a call hands on of it.
pub record Finding : Type 0 where
  pub cell : ℕ → ℕ
  pub home : ℕ → ℕ
  pub target : ℕ → ℕ
  pub handed : ℕ → ℤ

-- What is there as a statement is done.
pub record Scene : Type 0 where
  pub code : List ℕ
  pub cells : List ℤ
  pub activations : ℕ
  pub live : ℕ
  pub at : ℕ

abbrev pub scene_by : List ℕ → List ℤ → ℕ → ℕ → ℕ → Scene
scene_by code cells activations live at = record { code = code; cells = cells; activations = activations; live = live; at = at }

pub record Happened : Type 0 where
  pub move : Move
  pub cells : List ℤ

-- the word so many places after the operation
abbrev pub field : Scene → ℕ → ℕ
field s i = get_or s.code (s.at + i) 0

unfoldable pub moves : Scene → Move → Happened
moves s m = record { move = m; cells = s.cells }

unfoldable pub rewrites : Scene → Move → List ℤ → Happened
rewrites s m ws = record { move = m; cells = ws }

-- AR's operation by its field
unfoldable pub operation_of : ℕ → Operation
operation_of zero = plus
operation_of (suc zero) = minus
operation_of (suc (suc n)) = less

unfoldable pub set_all : List ℤ → ℕ → List ℤ → List ℤ
set_all ws first [] = ws
set_all ws first (z ∷ zs) = set_all (set ws first z) (first + 1) zs

module _ (F : Finding) (s : Scene) where
  -- the value of a variable by its word
  abbrev pub value_of : ℕ → ℤ
  value_of w = get_or s.cells (F.cell w) (pos 0)

  unfoldable pub do_constant : Happened
  do_constant = rewrites s (On (s.at + 4)) (set s.cells (F.cell (field s 1)) (signed (field s 2)))

  unfoldable pub arithmetic_move : Done-or-not → Move
  arithmetic_move (Ok u) = On (s.at + 5)
  arithmetic_move (Err c) = Halt c

  unfoldable pub do_arithmetic : Operation → Happened
  do_arithmetic o =
      let z = compute o (value_of (field s 3)) (value_of (field s 4)) in
      rewrites s (arithmetic_move (effect_of z)) (cells_of s.cells (F.cell (field s 1)) z)

  unfoldable pub do_goto : Happened
  do_goto = moves s (Jump (F.home (field s 1)) (F.target (field s 1)))

  unfoldable pub do_branch : Happened
  do_branch = elim (eq_z (value_of (field s 2)) (pos 0)) [ true ↦ moves s (On (s.at + 3)) | false ↦ do_goto ]

  -- D activations are live: 22
  unfoldable pub no_room : Bool
  no_room = leb s.activations (s.live + 1)

  unfoldable pub do_block : Happened
  do_block = elim no_room [ true ↦ moves s (Halt NoActivationLeft) | false ↦ moves s (Enter s.at s.live (end_in (field s 1))) ]

  -- so many arguments from a place on
  unfoldable pub arguments_from : ℕ → ℕ → List ℤ
  arguments_from from zero = []
  arguments_from from (suc n) = F.handed (get_or s.code from 0) ∷ arguments_from (from + 1) n

  -- the arguments go to the first cells of the next activation
  unfoldable pub do_call : Happened
  do_call =
      elim no_room [
        | true ↦ moves s (Halt NoActivationLeft)
        | false ↦ rewrites s (Enter (F.target (field s 1)) (F.home (field s 1)) (s.at + 3 + field s 2)) (set_all s.cells (32 * s.live + 32) (arguments_from (s.at + 3) (field s 2)))
      ]

  -- 26 goes before 22: number and kinds of the arguments are those of the formals before the body
  unfoldable pub arguments_agree : ℕ → Bool
  arguments_agree body =
      eqb (formals_in (get_or s.code body 0)) (field s 2) && same_kinds s.code (s.at + 3) (body - 3 * field s 2) (field s 2)

  unfoldable pub do_call_formal : Happened
  do_call_formal = elim (arguments_agree (F.target (field s 1))) [ true ↦ do_call | false ↦ moves s (Halt ArgumentsDiffer) ]

  -- AD and RM
  unfoldable pub do_change : Ask → Happened
  do_change a = moves s (Asks (s.at + 3) (F.cell (field s 1)) (F.cell (field s 2)) 0 a)

  unfoldable pub do_query : Happened
  do_query = moves s (Asks (s.at + 4) (F.cell (field s 2)) (F.cell (field s 3)) (F.cell (field s 1)) Query)

-- The operations in the order of their numbers.
pub data Op : Type 0 where
  constant-op add-op subtract-op compare-op branch-op goto-op block-op call-op pair-op unpair-op query-op : Op
  constant-formal-op arithmetic-formal-op branch-formal-op goto-formal-op call-formal-op : Op

unfoldable pub operations : List Op
operations =
    constant-op ∷ add-op ∷ subtract-op ∷ compare-op ∷ branch-op ∷ goto-op ∷ block-op ∷ call-op ∷ pair-op ∷ unpair-op ∷ query-op ∷
    constant-formal-op ∷ arithmetic-formal-op ∷ branch-formal-op ∷ goto-formal-op ∷ call-formal-op ∷ []

unfoldable pub op_of : ℕ → Op
op_of w = get_or operations (operation_in w) constant-op

unfoldable pub happens : Finding → Scene → Op → Happened
happens F s constant-op = do_constant F s
happens F s add-op = do_arithmetic F s plus
happens F s subtract-op = do_arithmetic F s minus
happens F s compare-op = do_arithmetic F s less
happens F s branch-op = do_branch F s
happens F s goto-op = do_goto F s
happens F s block-op = do_block F s
happens F s call-op = do_call F s
happens F s pair-op = do_change F s Add
happens F s unpair-op = do_change F s Remove
happens F s query-op = do_query F s
happens F s constant-formal-op = do_constant F s
happens F s arithmetic-formal-op = do_arithmetic F s (operation_of (field s 2))
happens F s branch-formal-op = do_branch F s
happens F s goto-formal-op = do_goto F s
happens F s call-formal-op = do_call_formal F s

unfoldable pub acting : Finding → Scene → Happened
acting F s = happens F s (op_of (field s 0))

-- What the table answers: the table after it or the cause to stop, and the words after it.
pub record Answer : Type 0 where
  pub effect : Effect
  pub cells : List ℤ

module _ (limit : ℕ) (cells : List ℤ) (table : Table) (group member target : ℕ) where
  abbrev pub value_at : ℕ → ℤ
  value_at cell = get_or cells cell (pos 0)

  unfoldable pub stored : Asked → Answer
  stored (gives z) = record { effect = leaves table; cells = set cells target z }
  stored (refuses c) = record { effect = halts c; cells = cells }

  unfoldable pub answer : Ask → Answer
  answer Add = record { effect = added limit (value_at group) (value_at member) table; cells = cells }
  answer Remove = record { effect = removed (value_at group) (value_at member) table; cells = cells }
  answer Query = stored (queried (value_at group) (value_at member) table)
