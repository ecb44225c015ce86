-- A stack of frames in arrays. Activations are counted from 0 here, so the frame with number k is activation k - 1. For each activation: the place
-- of its block's BK, of its next statement and its link (the enclosing activation; 0 for the program), and 32 words, one for each name.
-- A variable's word is its value. A formal's word is the cell of the name that it finally stands for and what that name leads to.
use Rattle.std.specs.Prelude.{ℕ, pred, ◌+◌, ◌*◌, ◌%◌, ◌/◌, ◌≤◌, ◌<◌, List, ◌≡◌, ℤ, pos, length, get_or}
use Rattle.std.proofs.Math.Option.{none, some}
use Rattle.std.proofs.Math.ListN.{get_elem?}
use Rattle.language.specs.Text.{block_at}
use Rattle.frames.specs.Frame.{Frame, numbered, designator_in, frame_number, place, decl_of}
use Rattle.coordinates.specs.Chain.{display_of}
use Rattle.resolved.specs.Resolved.{place_of, stmt_place, decl_target, position_in}
use Rattle.resolved.specs.Layout.{cell_from, activation_in, held_from}

-- the cell of a declared name's word, by its designator
unfoldable pub cell_of : ℕ → ℕ
cell_of x = cell_from (pred (frame_number x)) (place x)

-- the designator of a cell
unfoldable pub designator_of : ℕ → ℕ
designator_of c = 64 * (activation_in c + 1) + (position_in c + 1)

-- what a declared name leads to, by its designator
unfoldable pub target_of : List Frame → ℕ → ℕ
target_of fs x =
    elim (numbered fs (frame_number x)) [ none ↦ 0 | some f ↦ elim (decl_of fs x) [ none ↦ 0 | some d ↦ decl_target f.text d ] ]

-- a formal's word, by the designator that it holds in the frame machine
unfoldable pub formal_word : List Frame → ℕ → ℕ
formal_word fs x = held_from (cell_of x) (target_of fs x)

-- activation k holds the frame f of the stack fs
pub record HoldsFrame (fs : List Frame) (cells : List ℤ) (block next link k : ℕ) (f : Frame) : Type 0 where
  pub block-is : block ≡ place_of (block_at f.text)
  pub next-is : next ≡ stmt_place f.text f.next
  pub link-is : link ≡ pred f.link
  pub formals-are : (i : ℕ) → i < length f.formals → get_or cells (32 * k + i) (pos 0) ≡ pos (formal_word fs (designator_in (get_or f.words i (pos 0))))
  pub others-are : (i : ℕ) → length f.formals ≤ i → i < length f.words → get_or cells (32 * k + i) (pos 0) ≡ get_or f.words i (pos 0)

abbrev pub Holds : List Frame → List ℕ → List ℕ → List ℕ → List ℤ → Type 0
Holds fs blocks nexts links cells =
    (k : ℕ) (f : Frame) → get_elem? fs k ≡ some f → HoldsFrame fs cells (get_or blocks k 0) (get_or nexts k 0) (get_or links k 0) k f

-- a display in an array: at each level up to the innermost one's stands the first cell of the enclosing activation of that level
abbrev pub Shows : List Frame → List ℕ → Type 0
Shows fs display = (j m : ℕ) → numbered (display_of fs) j ≡ some m → get_or display j 0 ≡ 32 * pred m
