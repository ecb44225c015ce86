-- What every engine's run begins with (`Begun`): a program that keeps the rules, resolved; 1 to 256 activations; a table that is right by the limit of a
-- group; the cells of the program's own block at 0. `result_from`: what the frame machine comes to from there; `AtStart`: an engine that stands there.
use Rattle.std.specs.Prelude.{ℕ, ◌≤◌, ◌<◌, true, List, ◌≡◌, ℤ, pos, length, get_or}
use Rattle.language.specs.Text.{Block}
use Rattle.language.specs.Table.{right}
use Rattle.language.specs.Machine.{Limits}
use Rattle.grammar.specs.Rules.{Keeps}
use Rattle.frames.specs.Frame.{Result, frame_run, frame_start}
use Rattle.resolved.specs.Resolved.{resolved_of, Covers}
use Rattle.steps.specs.Standing.{Standing}

pub record Begun (code : List ℕ) (cells : List ℤ) (table : List ℤ) (pairs limit activations : ℕ) : Type 0 where
  pub program : Block
  pub name : ℕ
  pub keeps : Keeps program
  pub covers : Covers code 0 (resolved_of name program)
  pub some-live : 1 ≤ activations
  pub few-live : activations ≤ 256
  pub table-right : right limit (record { words = table; used = pairs }) ≡ true
  pub cells-long : length cells ≡ 8224
  pub zeros : (i : ℕ) → i < 32 → get_or cells i (pos 0) ≡ pos 0

module _ {code : List ℕ} {cells : List ℤ} {table : List ℤ} {pairs limit activations : ℕ} (b : Begun code cells table pairs limit activations) where
  abbrev pub result_from : ℕ → Result
  result_from allowance = frame_run (record { activations = activations; limit = limit }) allowance (frame_start b.program (record { words = table; used = pairs }))

  pub record AtStart {l : Limits} {blocks nexts links : List ℕ} {used live at end : ℕ} (w : Standing code l cells blocks nexts links table used live at end) : Type 0 where
    pub stack_is : w.stack ≡ frame_start b.program (record { words = table; used = pairs })
    pub program-is : w.program ≡ b.program
    pub name-is : w.name ≡ b.name
