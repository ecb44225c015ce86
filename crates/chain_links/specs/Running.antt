-- The static-chain engine between two steps: `Running` says that the records hold a sound stack, and that the level is that of the innermost block.
-- `Succeeds`: another state is the one a step later. The others are what its functions make and ask.
use Rattle.std.specs.Prelude.{ℕ, ◌+◌, ◌*◌, ◌-◌, ◌≤◌, ◌<◌, true, false, List, ◌≡◌, eqb, ℤ, length, get_or}
use Rattle.std.proofs.Common.{eq-eqb, ne_eqb}
use Rattle.chain_records.specs.declared.Activation.{Activation}
use Rattle.resolved.specs.Resolved.{level_in}
use Rattle.steps.specs.Standing.{Standing}
use Rattle.steps.specs.Means.{Follows, EntersAt}
use Rattle.resolved.specs.Layout.{end_in, first_in}
use Rattle.run_sheet.specs.Named.{looked_up_by, Nameable}
use Rattle.run_state.specs.declared.Registers.{Registers}
use Rattle.run_state.specs.Limits.{limits_by}
use Rattle.chain_links.specs.declared.Entry.{Entry}
use Rattle.chain_links.specs.declared.Found.{Found}
use Rattle.chain_links.specs.Records.{blocks_in, nexts_in, links_in}
use Rattle.chain_links.specs.Finding.{Handing, arguments_end, handed_on}

-- States

-- an activation becomes the innermost one, whose block's place is given
abbrev pub now_by : List ℕ → ℕ → ℕ → ℕ → ℕ → Registers
now_by code block home place pairs =
    record { live = home; at = place; end = end_in (get_or code (block + 1) 0); pairs = pairs; level = level_in (get_or code block 0); fresh = 0 }

abbrev pub entered_by : List ℕ → Registers → Activation → Registers
entered_by code here a = now_by code a.block (here.live + 1) a.next here.pairs

-- the record of a new activation of the block at a place
abbrev pub activation_of : List ℕ → ℕ → ℕ → Activation
activation_of code body link = record { block = body; next = first_in (get_or code (body + 1) 0); link = link }

-- what is read of an activation's block
abbrev pub level_at : List ℕ → List Activation → ℕ → ℕ
level_at code records k = level_in (get_or code (get_or (blocks_in records) k 0) 0)

abbrev pub end_at : List ℕ → List Activation → ℕ → ℕ
end_at code records k = end_in (get_or code (get_or (blocks_in records) k 0 + 1) 0)

abbrev pub now_at : List ℕ → List Activation → ℕ → ℕ → ℕ → Registers
now_at code records home place pairs = now_by code (get_or (blocks_in records) home 0) home place pairs

pub record Running (code : List ℕ) (activations limit : ℕ) (cells : List ℤ) (records : List Activation) (table : List ℤ) (here : Registers) : Type 0 where
  pub standing : Standing code (limits_by activations limit) cells (blocks_in records) (nexts_in records) (links_in records) table here.pairs here.live
      here.at here.end
  pub level-is : here.level ≡ level_at code records here.live
  pub room : activations ≤ length records

-- the state one step later
pub record Succeeds {code : List ℕ} {activations limit : ℕ} {cells : List ℤ} {records : List Activation} {table : List ℤ} {here : Registers}
    (w : Running code activations limit cells records table here)
    (cells' : List ℤ) (records' : List Activation) (table' : List ℤ) (here' : Registers) : Type 0 where
  pub running : Running code activations limit cells' records' table' here'
  pub follows : Follows w.standing running.standing.stack running.standing.program running.standing.name

-- What entering a block asks: where the run stands, and that this is the next step, once the arguments are handed on
pub record EnterReady (code : List ℕ) (cells : List ℤ) (records : List Activation) (here : Registers) (entry : Entry) : Type 0 where
  pub activations : ℕ
  pub limit : ℕ
  pub table : List ℤ
  pub running : Running code activations limit cells records table here
  pub handing : Handing code records here (arguments_end code here.at)
  pub enters : EntersAt running.standing entry.body entry.link entry.back (handed_on code cells records here)

-- The looked-up name

-- it can be found from the innermost activation
pub record Looking (code : List ℕ) (cells : List ℤ) (records : List Activation) (here : Registers) : Type 0 where
  pub activations : ℕ
  pub limit : ℕ
  pub table : List ℤ
  pub running : Running code activations limit cells records table here

-- the links that lead to it by its word; 0 where it has none
unfoldable pub links_to : ℕ → ℕ → ℕ
links_to level word = elim (eqb word 0) [ true ↦ 0 | false ↦ level - level_in word ]

pub links-none-to : (level word : ℕ) → word ≡ 0 → links_to level word ≡ 0
unfolding links_to
links-none-to level word e = rw (links_to, eq-eqb word 0 e)

pub links-some-to : (level word : ℕ) → (word ≡ 0 → ⊥) → links_to level word ≡ level - level_in word
unfolding links_to
links-some-to level word d = rw (links_to, ne_eqb word 0 d)

abbrev pub found_by : List ℤ → Registers → ℕ → ℕ → Found
found_by cells here word home = record { designator = looked_up_by cells (32 * home) word; links = links_to here.level word }

-- what is asked of its word and of the activation that declares it
pub record Reached (cells : List ℤ) (here : Registers) (word home : ℕ) : Type 0 where
  pub few : home < 256
  pub outer : level_in word ≤ here.level
  pub low : here.level < 65536
  pub nameable : (word ≡ 0 → ⊥) → Nameable cells (32 * home) word
