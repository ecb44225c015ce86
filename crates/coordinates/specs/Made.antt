-- Each frame is what the statement that the frame below has passed last makes: a block's, or that of a called procedure's body. `Made fs`; what is read of
-- a frame is its block, its formals, its link and its formals' words (`wiring`), which no later step changes.
use Rattle.std.specs.Prelude.{ℕ, zero, suc, pred, ◌≤◌, List, [], map, ◌≡◌, ℤ, length, take}
use Rattle.std.proofs.Math.Option
use Rattle.std.proofs.Math.Option.{Option, none, some}
use Rattle.std.proofs.Math.ListN.{get_elem?}
use Rattle.language.specs.Basics.{last?}
use Rattle.language.specs.Text.{Action, CL, GO, IF, KN, AR, AD, RM, QY, Stmt, BK, DO, block_stmts, decl_formals, decl_body}
use Rattle.frames.specs.Frame.{Frame, numbered, designates, decl_of, frame_number, new_frame}
use Rattle.coordinates.specs.Enclosure.{Enclosing}
use Rattle.coordinates.specs.Chain.{outline}

-- block, link, and the words of its formals
unfoldable pub wiring : Frame → (Enclosing × ℕ) × List ℤ
wiring f = (outline f, take (length f.formals) f.words)

-- the statement that a frame has passed last; none where its first is still to come
unfoldable pub passed : Frame → Option Stmt
passed f = elim (pred f.next) [ zero ↦ none | suc i ↦ get_elem? (block_stmts f.text) i ]

-- a call's frame: the body, linked to the frame that declares the procedure, with what the arguments designate
unfoldable pub body_of : List Frame → ℕ → List ℕ → Option Frame
body_of fs p xs =
    elim (decl_of fs (designates fs p)) [
      | none ↦ none
      | some d ↦ some (new_frame (decl_formals d) (map (designates fs) xs) (decl_body d) (frame_number (designates fs p)))
    ]

unfoldable pub action_makes : List Frame → Action → Option Frame
action_makes fs (CL p xs) = body_of fs p xs
action_makes fs (GO l) = none
action_makes fs (IF v l) = none
action_makes fs (KN t z) = none
action_makes fs (AR t o a b) = none
action_makes fs (AD g m) = none
action_makes fs (RM g m) = none
action_makes fs (QY t g m) = none

unfoldable pub stmt_makes : List Frame → Stmt → Option Frame
stmt_makes fs (BK b) = some (new_frame [] [] b (length fs))
stmt_makes fs (DO at a) = action_makes fs a

-- the frame that the statement passed last in the innermost frame makes
unfoldable pub makes : List Frame → Option Frame
makes fs = elim (last? fs) [ none ↦ none | some g ↦ elim (passed g) [ none ↦ none | some x ↦ stmt_makes fs x ] ]

abbrev pub Made : List Frame → Type 0
Made fs = (k : ℕ) (f : Frame) → 1 ≤ k → numbered fs (suc k) ≡ some f → Option.map wiring (makes (take k fs)) ≡ some (wiring f)
