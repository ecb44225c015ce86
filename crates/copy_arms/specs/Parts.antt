-- The parts from which the statements' functions are made, by the place of a field in the area.
use Rattle.std.specs.Prelude.{ℕ, zero, suc, ◌+◌, ◌*◌, ◌-◌, ◌≤◌, ◌<◌, Bool, true, false, ◌&&◌, not, List, [], ◌∷◌, ◌≡◌, eqb, ℤ, pos, length, get_or}
use Rattle.language.specs.Basics.{eq_z}
use Rattle.language.specs.Machine.{compute}
use Rattle.language.specs.declared.Stop.TheVariants.{NoActivationLeft, ArgumentsDiffer}
use Rattle.run_moves.specs.declared.Move.{Move}
use Rattle.run_moves.specs.declared.Move.TheVariants.{On, Jump, Enter, Stop}
use Rattle.run_moves.specs.Effects.{same_kinds}
use Rattle.run_moves.specs.Acting.{operation_of, set_all}
use Rattle.resolved.specs.Layout.{operation_in, formals_in, cell_from, activation_in, held_from}
use Rattle.run_statements.specs.Pieces.{FormalsBefore}
use Rattle.copy_names.specs.Owner.{cell_in, Findable}

-- the cell of the name at a place, and what stands there
abbrev pub cell_at : List ℕ → List ℕ → List ℕ → ℕ → ℕ → ℕ
cell_at area firsts starts live place = cell_in firsts starts live (get_or area place 0)

abbrev pub variable_at : List ℤ → List ℕ → List ℕ → List ℕ → ℕ → ℕ → ℤ
variable_at cells area firsts starts live place = get_or cells (cell_at area firsts starts live place) (pos 0)

-- a new name stands at the place, and its cell can be found
pub record NameAt (area firsts starts : List ℕ) (live place : ℕ) : Type 0 where
  pub there : place < length area
  pub found : Findable firsts starts live (get_or area place 0)

-- AR, whose mark stands at the place
abbrev pub result_at : List ℤ → List ℕ → List ℕ → List ℕ → ℕ → ℕ → ℤ
result_at cells area firsts starts live place =
    compute (operation_of (get_or area (place + 2) 0)) (variable_at cells area firsts starts live (place + 3)) (variable_at cells area firsts starts live (place + 4))

-- to the label at the place
abbrev pub jump_at : List ℕ → List ℕ → List ℕ → List ℕ → ℕ → ℕ → Move
jump_at area firsts starts targets live place =
    Jump (activation_in (cell_at area firsts starts live place)) (get_or targets (cell_at area firsts starts live place) 0)

-- IF, by the variable's value
unfoldable pub branch_move : ℤ → ℕ → Move → Move
branch_move z next jump = elim (eq_z z (pos 0)) [ true ↦ On next | false ↦ jump ]

-- CL: what the argument at the place hands on, and so many from there on
abbrev pub handed_word : List ℕ → List ℕ → List ℕ → List ℕ → ℕ → ℕ → ℤ
handed_word area firsts starts targets live place =
    pos (held_from (cell_at area firsts starts live place) (get_or targets (cell_at area firsts starts live place) 0))

unfoldable pub handed_from : List ℕ → List ℕ → List ℕ → List ℕ → ℕ → ℕ → ℕ → List ℤ
handed_from area firsts starts targets live place zero = []
handed_from area firsts starts targets live place (suc n) =
    handed_word area firsts starts targets live place ∷ handed_from area firsts starts targets live (place + 1) n

-- so many new names stand from the place on
pub record ArgumentsAt (area firsts starts : List ℕ) (live place count : ℕ) : Type 0 where
  pub few : count ≤ 32
  pub there : place + count ≤ length area
  pub named : (i : ℕ) → i < count → NameAt area firsts starts live (place + i)

-- where the called name is a formal as written, its body stands after its formals
abbrev pub Callable : List ℕ → ℕ → ℕ → Type 0
Callable code at body = eqb (operation_in (get_or code at 0)) 15 ≡ true → FormalsBefore code body

-- cause 26: so it is, and the arguments are not as the formals
unfoldable pub refused_by : List ℕ → ℕ → ℕ → ℕ → Bool
refused_by code at body count =
    eqb (operation_in (get_or code at 0)) 15 && not (eqb (formals_in (get_or code body 0)) count && same_kinds code (at + 3) (body - 3 * count) count)

abbrev pub refused_at : List ℕ → List ℕ → List ℕ → List ℕ → List ℕ → ℕ → ℕ → ℕ → Bool
refused_at code area firsts starts targets live at place =
    refused_by code at (get_or targets (cell_at area firsts starts live (place + 1)) 0) (get_or area (place + 2) 0)

abbrev pub enter_at : List ℕ → List ℕ → List ℕ → List ℕ → ℕ → ℕ → ℕ → Move
enter_at area firsts starts targets live at place =
    Enter (get_or targets (cell_at area firsts starts live (place + 1)) 0) (activation_in (cell_at area firsts starts live (place + 1))) (at + 3 + get_or area (place + 2) 0)

abbrev pub handed_at : List ℤ → List ℕ → List ℕ → List ℕ → List ℕ → ℕ → ℕ → List ℤ
handed_at cells area firsts starts targets live place =
    set_all cells (cell_from live 32) (handed_from area firsts starts targets live (place + 3) (get_or area (place + 2) 0))

-- what a call comes to, by whether there is cause 26 and whether there is cause 22
unfoldable pub call_move : Bool → Bool → Move → Move
call_move refused full enter =
    elim refused [ true ↦ Stop ArgumentsDiffer | false ↦ elim full [ true ↦ Stop NoActivationLeft | false ↦ enter ] ]

unfoldable pub call_words : Bool → Bool → List ℤ → List ℤ → List ℤ
call_words refused full before after = elim refused [ true ↦ before | false ↦ elim full [ true ↦ before | false ↦ after ] ]

-- the call whose operation stands at a place of the script, and its mark at the place in the area
pub record CallAt (code area firsts starts targets : List ℕ) (activations live at place : ℕ) : Type 0 where
  pub within : at + 3 + get_or area (place + 2) 0 ≤ 4096
  pub procedure : NameAt area firsts starts live (place + 1)
  pub arguments : ArgumentsAt area firsts starts live (place + 3) (get_or area (place + 2) 0)
  pub bounded : activations ≤ 256
  pub body : Callable code at (get_or targets (cell_at area firsts starts live (place + 1)) 0)
