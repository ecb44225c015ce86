-- What a move means: which step the frame machine makes from the stack that the arrays hold, and what the arrays then hold. `Means w h` says it
-- of whatever a statement comes to (`acting`); where an activation is entered or left, the engine still has its records to put right.
use Rattle.std.specs.Prelude.{ℕ, suc, ◌+◌, ◌-◌, ◌*◌, ◌≤◌, ◌<◌, List, [], ◌∷◌, ◌++◌, ◌≡◌, ℤ, pos, length, get_or, take}
use Rattle.std.proofs.Math.Option.{some}
use Rattle.std.proofs.Math.ListN.{get_elem?}
use Rattle.language.specs.Text.{Kind, Formal, Block, block_at}
use Rattle.language.specs.Table.{Effect, leaves, halts}
use Rattle.language.specs.Machine.{Limits}
use Rattle.frames.specs.Frame.{Frame, Stack, acted, halted, numbered, continue, with_frames, new_frame, frame_cost, stepped, frame_step, frame_run}
use Rattle.coordinates.specs.Enclosure.{enclosed, Encloses}
use Rattle.coordinates.specs.Chain.{enclosure_of, display_of}
use Rattle.coordinates.proofs.Designated.{Designated}
use Rattle.resolved.specs.Resolved.{place_of, stmt_place}
use Rattle.arrays.specs.Holds.{formal_word}
use Rattle.run_moves.specs.declared.Move.{Move}
use Rattle.run_moves.specs.declared.Move.TheVariants.{On, Table as Asks, Jump, Enter, Stop}
use Rattle.run_moves.specs.Acting.{Happened, Answer, answer}
use Rattle.steps.specs.Standing.{Standing}

module _ {code : List ℕ} {l : Limits} {cells : List ℤ} {blocks nexts links : List ℕ} {table : List ℤ} {pairs live at end : ℕ} (w : Standing code l cells blocks nexts links table pairs live at end) where
  abbrev pub frames : List Frame
  frames = w.stack.frames

  -- an engine that stands after one step of this one, for the same script; `moved` is the stack after the step and before it is counted
  pub record Follows (v : Stack) (program : Block) (name : ℕ) : Type 0 where
    pub moved : Stack
    pub steps : frame_step l w.stack ≡ acted moved
    pub is-stepped : v ≡ stepped w.stack moved
    pub runs : (n : ℕ) → frame_cost w.stack moved ≤ n → frame_run l n w.stack ≡ frame_run l (n - frame_cost w.stack moved) v
    pub counts : v.steps ≡ w.stack.steps + frame_cost w.stack moved
    pub same-program : program ≡ w.program
    pub same_name : name ≡ w.name

  -- the innermost activation goes on, and the display is as it was
  pub record GoesOn (cells' table' : List ℤ) (pairs' at' : ℕ) : Type 0 where
    pub standing : Standing code l cells' blocks nexts links table' pairs' live at' end
    pub follows : Follows standing.stack standing.program standing.name
    pub same-display : display_of standing.stack.frames ≡ display_of frames

  -- activation `home` becomes the innermost one and goes on at a place
  pub record JumpsTo (home at' : ℕ) : Type 0 where
    pub frame : Frame
    pub index : ℕ
    pub stands : numbered frames (suc home) ≡ some frame
    pub place_is : at' ≡ stmt_place frame.text index
    pub steps : frame_step l w.stack ≡ acted (with_frames w.stack (take home frames ++ (continue frame index ∷ [])))

  -- a block is entered; the arguments stand in the first cells of the next activation
  pub record EntersAt (body link back : ℕ) (cells' : List ℤ) : Type 0 where
    pub formals : List Formal
    pub arguments : List ℕ
    pub text : Block
    pub room : suc (suc live) ≤ l.activations
    pub link-high : link ≤ live
    pub body_is : body ≡ place_of (block_at text)
    pub back_is : back ≡ stmt_place w.frame.text (suc w.frame.next)
    pub encloses : Encloses w.program (enclosed formals text ∷ enclosure_of frames (suc link))
    pub steps : frame_step l w.stack ≡ acted (with_frames w.stack ((w.below ++ (continue w.frame (suc w.frame.next) ∷ [])) ++ (new_frame formals arguments text (suc link) ∷ [])))
    pub count : length arguments ≡ length formals
    pub designate : (i x : ℕ) → get_elem? arguments i ≡ some x → (k : Kind) × Designated frames x k
    pub as_long : length cells' ≡ length cells
    pub kept : (i : ℕ) → i < 32 * suc live → get_or cells' i (pos 0) ≡ get_or cells i (pos 0)
    pub handed : (i x : ℕ) → get_elem? arguments i ≡ some x → get_or cells' (32 * suc live + i) (pos 0) ≡ pos (formal_word frames x)

  -- the table has answered a statement after which a place stands
  abbrev pub EffectMeans : ℕ → List ℤ → Effect → Type 0
  EffectMeans p cells' (leaves t) = GoesOn cells' t.words t.used p
  EffectMeans p cells' (halts c) = (frame_step l w.stack ≡ halted c) × (cells' ≡ cells)

  abbrev pub AnswerMeans : ℕ → Answer → Type 0
  AnswerMeans p x = EffectMeans p x.cells x.effect

  abbrev pub CellsThere : ℕ → ℕ → ℕ → Type 0
  CellsThere g m t = (g < 8192) × ((m < 8192) × (t < 8192))

  abbrev pub MoveMeans : Move → List ℤ → Type 0
  MoveMeans (On p) cells' = GoesOn cells' table pairs p
  MoveMeans (Asks p g m t a) cells' =
      AnswerMeans p (answer l.limit cells (record { words = table; used = pairs }) g m t a) × (cells' ≡ cells) × CellsThere g m t
  MoveMeans (Jump home p) cells' = JumpsTo home p × (cells' ≡ cells)
  MoveMeans (Enter body link back) cells' = EntersAt body link back cells'
  MoveMeans (Stop c) cells' = (frame_step l w.stack ≡ halted c) × (cells' ≡ cells)

  abbrev pub Means : Happened → Type 0
  Means h = MoveMeans h.move h.cells
