-- An engine between two steps: its arrays hold a sound stack of frames of a script that keeps the rules. `live` is the innermost activation,
-- counted from 0, `at` the place of its next statement, which has no need to stand in `nexts`, and `end` where its text ends.
use Rattle.std.specs.Prelude.{ℕ, pred, List, [], ◌∷◌, ◌++◌, ◌≡◌, ℤ, pos, length, set}
use Rattle.language.specs.Text.{Block}
use Rattle.language.specs.Machine.{Limits}
use Rattle.grammar.specs.Rules.{Keeps}
use Rattle.frames.specs.Frame.{Frame, Stack, designates, frame_number}
use Rattle.coordinates.specs.Chain.{enclosure_of}
use Rattle.coordinates.proofs.Sound.{Sound}
use Rattle.coordinates.proofs.Next.{Resolved}
use Rattle.resolved.specs.Resolved.{end_place, name_word, resolved_of, Covers}
use Rattle.arrays.specs.Holds.{cell_of, target_of, formal_word, Holds}
use Rattle.run_moves.specs.Acting.{Finding}

pub record Standing (code : List ℕ) (l : Limits) (cells : List ℤ) (blocks nexts links : List ℕ) (table : List ℤ) (pairs live at end : ℕ) : Type 0 where
  pub name : ℕ
  pub program : Block
  pub keeps : Keeps program
  pub covers : Covers code 0 (resolved_of name program)
  pub stack : Stack
  pub sound : Sound l program stack
  pub below : List Frame
  pub frame : Frame
  pub frames-are : stack.frames ≡ below ++ (frame ∷ [])
  pub depth : length below ≡ live
  pub table_is : stack.table ≡ record { words = table; used = pairs }
  pub holds : Holds stack.frames blocks (set nexts live at) links cells
  pub end_is : end ≡ end_place frame.text
  pub cells-long : length cells ≡ 8224
  pub blocks-long : length blocks ≡ 256
  pub nexts-long : length nexts ≡ 256
  pub links-long : length links ≡ 256

-- a way of finding names is right for a name with a word
pub record FindsName (fs : List Frame) (F : Finding) (n w : ℕ) : Type 0 where
  pub cell-is : F.cell w ≡ cell_of (designates fs n)
  pub home-is : F.home w ≡ pred (frame_number (designates fs n))
  pub target_is : F.target w ≡ target_of fs (designates fs n)
  pub handed-is : F.handed w ≡ pos (formal_word fs (designates fs n))

-- it is right in the innermost frame
abbrev pub Finds : List Frame → Finding → Type 0
Finds fs F = (n : ℕ) → Resolved fs n → FindsName fs F n (name_word (enclosure_of fs (length fs)) n)
