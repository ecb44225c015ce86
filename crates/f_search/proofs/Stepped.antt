-- A step that enters nothing leaves the frames that stay with the same F-chain: `step-calls`.
use Rattle.std.specs.Prelude.{ℕ, suc, pred, ◌≤◌, List, [], ◌∷◌, ◌++◌, ◌≡◌, refl, length}
use Rattle.std.proofs.Common.{arith, subst, length-take-le}
use Rattle.std.proofs.Math.Option.{some}
use Rattle.std.proofs.Math.ListN.{take}
use Rattle.language.specs.Basics.{last?, but_last}
use Rattle.language.specs.Text.{Action, label_index, decl_formals, decl_body}
use Rattle.language.specs.Machine.{Limits}
use Rattle.laws.specs.Lists.{replaced-length, snoc-length, but_last-take}
use Rattle.frames.specs.Frame.{Frame, Stack, acted, frame_number, continue, new_frame, put, put_word, with_frames, table_changed, advance_frame, frame_step}
use Rattle.frames.specs.Running.{After}
use Rattle.coordinates.proofs.Walk.{Moves, Steps, step_by}
use Rattle.coordinates.proofs.Moves.{cut-length}
use Rattle.f_search.proofs.Kept.{SameCalls, calls-take, calls-cut, calls-advanced, calls-put, calls-both}

pub calls-weaker : (b c : ℕ) (fs gs : List Frame) → b ≤ c → SameCalls c fs gs → SameCalls b fs gs
calls-weaker b c fs gs h same = record { outlines = λ i p. same.outlines i (omega arith); statements = λ i p. same.statements i (omega arith) }

-- where there are no more frames than before, all of them are as they were
abbrev KeepsCalls : List Frame → Stack → Type 0
KeepsCalls fs v = length v.frames ≤ length fs → SameCalls (length v.frames) fs v.frames

module _ (s : Stack) (f : Frame) (e : last? s.frames ≡ some f) where
  abbrev on : List Frame
  on = but_last s.frames ++ (continue f (suc f.next) ∷ [])

  as_many : length on ≡ length s.frames
  as_many = replaced-length s.frames f (continue f (suc f.next)) e

  as_called : SameCalls (length s.frames) s.frames on
  as_called = calls-advanced s.frames f (suc f.next) e

  action-keeps : (a : Action) → Moves (KeepsCalls s.frames) (advance_frame s f) a
  unfolding advance_frame with_frames table_changed put
  action-keeps a =
      record {
        stays = λ h. calls-weaker (length on) (length s.frames) s.frames on h as_called;
        tabled = λ t h. calls-weaker (length on) (length s.frames) s.frames on h as_called;
        stored = λ x z r h.
            let gs = put_word on x z in
            calls-both (length gs) s.frames on gs (calls-weaker (length gs) (length s.frames) s.frames on h as_called) (calls-put on x z (length gs));
        jumped = λ x g d n c h.
            let gs = take (pred (frame_number x)) on ++ (continue g (label_index d) ∷ []) in
            let deep = cut-length on (frame_number x) g (continue g (label_index d)) n in
            calls-both (length gs) s.frames on gs (calls-weaker (length gs) (length s.frames) s.frames on h as_called)
            (calls-weaker (length gs) (frame_number x) on gs (omega arith) (calls-cut on (frame_number x) g (label_index d) n));
        called = λ p xs d r n c h. absurd (omega (arith, as_many, snoc-length on (new_frame (decl_formals d) xs (decl_body d) (frame_number p))));
      }

left-calls : (s : Stack) → KeepsCalls s.frames (with_frames s (but_last s.frames))
unfolding with_frames
left-calls s h =
    let n = pred (length s.frames) in
    let l = length-take-le n s.frames (omega arith) in
    rw but_last-take (calls-weaker (length (take n s.frames)) n s.frames (take n s.frames) (omega arith) (calls-take n s.frames))

step_keeps : (s : Stack) → Steps (KeepsCalls s.frames) s
unfolding advance_frame with_frames
step_keeps s =
    record {
      over = λ e h. record { outlines = λ i p. refl; statements = λ i p. refl };
      returned = λ f e q. left-calls s;
      opened = λ f b e q h. absurd (omega (arith, as_many s f e, snoc-length (on s f e) (new_frame [] [] b (length (on s f e)))));
      done = λ f at a e q. action-keeps s f e _;
    }

pub step-calls : (l : Limits) (s s' : Stack) → frame_step l s ≡ acted s' → length s'.frames ≤ length s.frames → SameCalls (length s'.frames) s.frames s'.frames
step-calls l s s' e = subst (After (KeepsCalls s.frames)) e (step_by (KeepsCalls s.frames) s l (step_keeps s))
