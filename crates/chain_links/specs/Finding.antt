-- How the static-chain engine finds a name: from the innermost activation, as many links as the innermost block's level is above the name's lead to
-- the activation that declares it.
use Rattle.std.specs.Prelude.{ℕ, ◌+◌, ◌*◌, ◌-◌, ◌≤◌, ◌<◌, true, false, List, eqb, ℤ, get_or}
use Rattle.chain_records.specs.declared.Activation.{Activation}
use Rattle.resolved.specs.Resolved.{level_in, position_in}
use Rattle.resolved.specs.Layout.{operation_in}
use Rattle.arrays.proofs.Names.{follow}
use Rattle.run_moves.specs.Acting.{Finding, set_all, arguments_from}
use Rattle.run_statements.specs.Pieces.{only-cells}
use Rattle.steps.specs.Finding.{by_first}
use Rattle.run_state.specs.declared.Registers.{Registers}
use Rattle.chain_links.specs.Records.{links_in, Linked}

-- the activation that declares the name with a word, and its first cell
abbrev pub home_of : List Activation → ℕ → ℕ → ℕ → ℕ
home_of records live level w = follow (links_in records) live (level - level_in w)

abbrev pub first_cell : List Activation → ℕ → ℕ → ℕ → ℕ
first_cell records live level w = 32 * home_of records live level w

abbrev pub by_chain : List ℤ → List Activation → ℕ → ℕ → Finding
by_chain cells records live level = by_first cells (first_cell records live level)

-- the links to the activation that declares the name with a word can be followed
pub record Seen (records : List Activation) (live level w : ℕ) : Type 0 where
  pub linked : Linked records live
  pub outer : level_in w ≤ level

-- the name that stands in a field of the next statement is one
pub record Named (code : List ℕ) (records : List Activation) (here : Registers) (field : ℕ) : Type 0 where
  pub there : here.at + field < 4096
  pub seen : Seen records here.live here.level (get_or code (here.at + field) 0)

-- A call's arguments

-- after which field of the statement at a place its arguments end; they begin at the third, and a BK has none
unfoldable pub arguments_end : List ℕ → ℕ → ℕ
arguments_end code at = elim (eqb (operation_in (get_or code at 0)) 6) [ true ↦ 3 | false ↦ 3 + get_or code (at + 2) 0 ]

-- the words once they are handed on
abbrev pub handed_on : List ℕ → List ℤ → List Activation → Registers → List ℤ
handed_on code cells records here = set_all cells (32 * here.live + 32)
    (arguments_from (by_chain cells records here.live here.level) (only-cells code cells here.at) (here.at + 3) (arguments_end code here.at - 3))

-- one of them can be handed on: its own cell is below the next activation's
pub record Passing (code : List ℕ) (here : Registers) (field first : ℕ) : Type 0 where
  pub low : 3 ≤ field
  pub few : field < 35
  pub there : here.at + field < 4096
  pub live-few : here.live ≤ 254
  pub below : first + position_in (get_or code (here.at + field) 0) < 32 * here.live + 32

-- all of them, up to a field
pub record Handing (code : List ℕ) (records : List Activation) (here : Registers) (last : ℕ) : Type 0 where
  pub low : 3 ≤ last
  pub few : last ≤ 35
  pub there : here.at + last ≤ 4096
  pub live-few : here.live ≤ 254
  pub named : (i : ℕ) → 3 ≤ i → i < last → Named code records here i
  pub below : (i : ℕ) → 3 ≤ i → i < last → first_cell records here.live here.level (get_or code (here.at + i) 0)
      + position_in (get_or code (here.at + i) 0) < 32 * here.live + 32
