-- What a call hands on beside the arguments' words: for a procedure the activation that first passed it (source 001, F20). `passers` has it at the cell of
-- each formal of kind procedure.
use Rattle.std.specs.Prelude.{ℕ, zero, suc, ◌+◌, ◌*◌, ◌<◌, true, false, List, ◌≡◌, eqb, leb, ℤ, get_or, set}
use Rattle.laws.specs.Tests.{split}
use Rattle.resolved.specs.Resolved.{position_in, kind_in, direct}
use Rattle.run_moves.specs.declared.Move.{Move}
use Rattle.run_moves.specs.declared.Move.TheVariants.{On, Table as Asks, Jump, Enter, Stop}
use Rattle.run_moves.specs.Acting.{scene_by, set_all, arguments_from, do_call_formal}
use Rattle.run_moves.specs.Effects.{handed_word}
use Rattle.run_statements.specs.Pieces.{only-cells, entered_by}
use Rattle.steps.specs.Finding.{by_first}
use Rattle.run_cells.specs.Calling.{word_after, call_move, Calling}
use Rattle.search_names.specs.Seeking.{first_at, Falls}

-- a formal's cell, whose word stands at a place, is the word's position after the first cell of its activation
abbrev pub field_own : List ℕ → List ℕ → List ℕ → List ℕ → ℕ → ℕ → ℕ
field_own code numbers blocks froms live place = first_at numbers blocks froms live place + position_in (get_or code place 0)

module _ (code numbers blocks froms : List ℕ) (live : ℕ) where
  -- the passer of the procedure whose word stands at a place: the activation that does the call where the name is a declared one, and the passer that came with it where it is a formal
  unfoldable pub passer_at : List ℕ → ℕ → ℕ
  passer_at passers place = elim (direct (get_or code place 0)) [ true ↦ live | false ↦ get_or passers (field_own code numbers blocks froms live place) 0 ]

  -- an argument is handed to a cell; variables and labels have no passer
  unfoldable pub passed : List ℕ → ℕ → ℕ → List ℕ
  passed passers place to = elim (eqb (kind_in (get_or code place 0)) 2) [ true ↦ set passers to (passer_at passers place) | false ↦ passers ]

  -- so many arguments from a place on, to the cells from one on
  unfoldable pub all_passed : List ℕ → ℕ → ℕ → ℕ → List ℕ
  all_passed passers place to zero = passers
  all_passed passers place to (suc n) = all_passed (passed passers place to) (place + 1) (to + 1) n

  -- all arguments of the call at a place
  abbrev pub handed_on : List ℕ → ℕ → List ℕ
  handed_on passers at = all_passed passers (at + 3) (32 * live + 32) (word_after code at 2)

  pub passer-declared : (passers : List ℕ) (place : ℕ) → direct (get_or code place 0) ≡ true → passer_at passers place ≡ live
  unfolding passer_at
  passer-declared passers place t = rw (passer_at, t)

  pub passer-formal : (passers : List ℕ) (place : ℕ) → direct (get_or code place 0) ≡ false → passer_at passers place ≡ get_or passers (field_own code numbers blocks froms live place) 0
  unfolding passer_at
  passer-formal passers place t = rw (passer_at, t)

  -- the names of so many arguments from a place on are those that a way of finding names by first cells finds
  abbrev pub Led : (ℕ → ℕ) → ℕ → ℕ → Type 0
  Led first_of place count = (i : ℕ) → i < count → first_at numbers blocks froms live (place + i) ≡ first_of (get_or code (place + i) 0)

-- the passers after a move: a call's arguments are handed on where it enters
unfoldable pub passers_by : Move → List ℕ → List ℕ → List ℕ
passers_by (On p) passers handed = passers
passers_by (Asks p g m t a) passers handed = passers
passers_by (Jump h p) passers handed = passers
passers_by (Enter b h p) passers handed = handed
passers_by (Stop c) passers handed = passers

-- an activation that is entered, with where the search goes on from it in the place of its link
unfoldable pub steered : ℕ → Move → Move
steered from (On p) = On p
steered from (Asks p g m t a) = Asks p g m t a
steered from (Jump h p) = Jump h p
steered from (Enter b h p) = Enter b from p
steered from (Stop c) = Stop c

pub steered-call : (code : List ℕ) (activations live at from home body : ℕ) → call_move code activations live at from body ≡ steered from (call_move code activations live at home body)
unfolding call_move steered
steered-call code activations live at from home body = split (leb activations (live + 1)) (λ t. rw (t, call_move)) (λ t. rw (t, call_move))

-- a call, whichever way its procedure is found
pub record Callable (code froms : List ℕ) (activations live at : ℕ) : Type 0 where
  pub calling : Calling code activations live at
  pub falls : Falls froms live

module _ (code numbers blocks froms : List ℕ) (live : ℕ) (cells : List ℤ) (passers : List ℕ) where
  -- the argument at a place is handed to a cell
  pub record Handed (place to : ℕ) (cells' : List ℤ) (passers' : List ℕ) : Type 0 where
    pub cells_are : cells' ≡ set cells to (handed_word cells (get_or code place 0) (field_own code numbers blocks froms live place))
    pub passers-are : passers' ≡ passed code numbers blocks froms live passers place to
    pub own-low : field_own code numbers blocks froms live place < 32 * live + 32

  -- so many arguments from a place on are handed to the next activation
  pub record AllHanded (at count : ℕ) (cells' : List ℤ) (passers' : List ℕ) : Type 0 where
    pub cells_are : (first_of : ℕ → ℕ) → Led code numbers blocks froms live first_of at count
        → cells' ≡ set_all cells (32 * live + 32) (arguments_from (by_first cells first_of) (only-cells code cells at) at count)
    pub passers-are : passers' ≡ all_passed code numbers blocks froms live passers at (32 * live + 32) count

  module _ (activations at : ℕ) where
    abbrev pub ArgumentsLed : (ℕ → ℕ) → Type 0
    ArgumentsLed first_of = Led code numbers blocks froms live first_of (at + 3) (word_after code at 2)

    -- a call of the procedure whose body stands at a place, with where the search goes on from its activation
    pub record Called (from body : ℕ) (r : Move) (cells' : List ℤ) (passers' : List ℕ) : Type 0 where
      pub move-is : r ≡ call_move code activations live at from body
      pub cells_are : (first_of : ℕ → ℕ) → ArgumentsLed first_of → (home : ℕ) → cells' ≡ (entered_by (by_first cells first_of) (scene_by code cells activations live at) home body).cells
      pub passers-are : passers' ≡ passers_by r passers (handed_on code numbers blocks froms live passers at)

    -- a call through a formal, from the formal's passer
    pub record CalledFormal (r : Move) (cells' : List ℤ) (passers' : List ℕ) : Type 0 where
      pub move-is : (first_of : ℕ → ℕ) → first_at numbers blocks froms live (at + 1) ≡ first_of (word_after code at 1)
          → r ≡ steered (get_or passers (field_own code numbers blocks froms live (at + 1)) 0) (do_call_formal (by_first cells first_of) (scene_by code cells activations live at)).move
      pub cells_are : (first_of : ℕ → ℕ) → first_at numbers blocks froms live (at + 1) ≡ first_of (word_after code at 1) → ArgumentsLed first_of
          → cells' ≡ (do_call_formal (by_first cells first_of) (scene_by code cells activations live at)).cells
      pub passers-are : passers' ≡ passers_by r passers (handed_on code numbers blocks froms live passers at)
