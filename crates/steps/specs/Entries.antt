-- BK: what the arrays come to is what the frame machine does (`block-means`). `room-none`, `room-left`: whether there is room for one activation
-- more is the same question on the arrays and in the frame machine.
use Rattle.std.specs.Prelude.{ℕ, suc, ◌+◌, ◌%◌, true, false, ◌≡◌, refl, leb, ltb, ℤ}
use Rattle.std.proofs.Common.{arith, ◌∙◌}
use mathlib.Core.List.{List, [], ◌∷◌, ◌++◌}
use Rattle.std.proofs.Math.Option.{some}
use Rattle.std.proofs.Math.Path.{sym, ap, subst}
use borrow.Author.Tests.{leb-true, leb-false, lt-ltb, le-ltb}
use Rattle.std.proofs.Math.ListN.{length, get_or}
use Rattle.language.specs.Text.{Block, block, BK, stmt_at}
use Rattle.language.specs.Encoding.{block_fields}
use Rattle.language.specs.Machine.{Limits}
use Rattle.language.specs.declared.Stop.TheVariants.{NoActivationLeft}
use Rattle.laws.specs.Tests.{split, none≢some}
use Rattle.frames.specs.Frame.{acted, new_frame, with_frames, frame_stmt}
use Rattle.frame_laws.specs.Actions.{enters, enters-full}
use Rattle.frame_laws.specs.Innermost.{step-does}
use Rattle.coordinates.specs.Enclosure.{enclosed, Enclosure, Encloses}
use Rattle.coordinates.specs.Chain.{enclosure_of}
use Rattle.coordinates.proofs.Next.{next-block}
use Rattle.resolved.specs.Resolved.{end_place, stmt_place, bounds_word, header, resolved_stmt, Covers}
use Rattle.resolved.proofs.Words.{bounds-end}
use Rattle.resolved.specs.Layout.{end_in}
use Rattle.run_moves.specs.declared.Move.TheVariants.{Enter, Stop}
use Rattle.run_moves.specs.Acting.{Finding, Scene, field, moves, no_room, do_block}
use Rattle.steps.specs.Standing.{Standing}
use Rattle.steps.specs.Means.{EntersAt, Means}
use Rattle.steps.specs.Here.{many, last-is, stands_at, covered, goes-on-at}
use Rattle.steps.specs.Going.{scene_of, ahead, ahead_stack, ahead-many}

blocks-full : (F : Finding) (s : Scene) → leb s.activations (s.live + 1) ≡ true → do_block F s ≡ moves s (Stop NoActivationLeft)
unfolding do_block no_room
blocks-full F s e = rw (do_block, e)

blocks-enter : (F : Finding) (s : Scene) → leb s.activations (s.live + 1) ≡ false → do_block F s ≡ moves s (Enter s.at s.live (end_in (field s 1)))
unfolding do_block no_room
blocks-enter F s e = rw (do_block, e)

-- the second word of a block
bounds_of : (code : List ℕ) (p name : ℕ) (b : Block) (es : Enclosure) → Covers code p (resolved_stmt name (BK b) es) → get_or code (p + 1) 0 ≡ bounds_word b
unfolding resolved_stmt header
bounds_of code p name (block at ds ss) es h = h.1.0

module _ {code : List ℕ} {l : Limits} {cells : List ℤ} {blocks nexts links : List ℕ} {table : List ℤ} {pairs live at end : ℕ} (w : Standing code l cells blocks nexts links table pairs live at end) where
  pub room-none : leb l.activations (live + 1) ≡ true → ltb (length (ahead w)) l.activations ≡ false
  room-none e = le-ltb (length (ahead w)) l.activations (omega (arith, ahead-many w, leb-true l.activations (live + 1) e))

  pub room-left : leb l.activations (live + 1) ≡ false → ltb (length (ahead w)) l.activations ≡ true
  room-left e = lt-ltb (length (ahead w)) l.activations (omega (arith, ahead-many w, leb-false l.activations (live + 1) e))

  module _ (F : Finding) (b : Block) (q : frame_stmt w.frame ≡ some (BK b)) where
    around : Enclosure
    around = enclosure_of w.stack.frames (length w.stack.frames)

    stands : Encloses w.program (enclosed [] b ∷ around)
    unfolding around
    stands = (next-block l w.program w.keeps w.stack w.sound w.frame (last-is w) b q).stands

    back : end_in (get_or code (at + 1) 0) ≡ stmt_place w.frame.text (suc w.frame.next)
    unfolding around end_place stmt_at block_fields
    back =
        let bounds : get_or code (at + 1) 0 ≡ bounds_word b = bounds_of code at w.name b around (covered w (BK b) q) in
        ap end_in bounds ∙ bounds-end w.program w.keeps (enclosed [] b) around stands ∙ ap (λ i. i + length (block_fields b)) (sym (stands_at w (BK b) q)) ∙ sym (goes-on-at w (BK b) q)

    entering : leb l.activations (live + 1) ≡ false → EntersAt w at live (end_in (get_or code (at + 1) 0)) cells
    unfolding around with_frames stmt_at
    entering e =
        record {
          formals = [];
          arguments = [];
          text = b;
          room = omega (arith, leb-false l.activations (live + 1) e);
          link-high = omega arith;
          body_is = stands_at w (BK b) q;
          back_is = back;
          encloses = subst (λ k. Encloses w.program (enclosed [] b ∷ enclosure_of w.stack.frames k)) (many w) stands;
          steps = step-does l w.stack w.below w.frame (BK b) w.frames-are q ∙ enters l (ahead_stack w) b (room-left e)
              ∙ ap (λ k. acted (with_frames w.stack (ahead w ++ (new_frame [] [] b k ∷ [])))) (ahead-many w);
          count = refl;
          designate = λ i x c. none≢some c;
          as_long = refl;
          kept = λ i h. refl;
          handed = λ i x c. none≢some c;
        }

    pub block-means : Means w (do_block F (scene_of w))
    unfolding moves with_frames
    block-means =
        split (leb l.activations (live + 1))
        (λ e. subst (Means w) (sym (blocks-full F (scene_of w) e))
        (step-does l w.stack w.below w.frame (BK b) w.frames-are q ∙ enters-full l (ahead_stack w) b (room-none e), refl))
        (λ e. subst (Means w) (sym (blocks-enter F (scene_of w) e)) (entering e))
