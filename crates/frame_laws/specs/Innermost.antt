-- A step and an offset in terms of the innermost frame: read `s.frames ≡ pre ++ (f ∷ [])` as "f is innermost, pre the frames
-- below it". Then the sheet of frames put end to end.
use Rattle.std.specs.Prelude.{suc, ◌+◌, ◌≤◌, ◌≡◌, refl, List, [], ◌∷◌, ◌++◌, ℤ, length}
use Rattle.std.proofs.Common.{arith, sym, ap, ◌∙◌, append_assoc, append-nil, length-append}
use Rattle.std.proofs.Math.Option.{Option, none, some}
use Rattle.language.specs.Basics.{last?, but_last}
use Rattle.language.specs.Text.{Stmt, stmt_at}
use Rattle.language.specs.Machine.{Limits}
use Rattle.laws.specs.Lists.{last_snoc, but_last-snoc, last-split, some-last}
use Rattle.frames.specs.Frame.{Frame, Stack, Acted, acted, with_frames, continue, act_stmt, frame_stmt, advance_frame, act_in, frame_step, frame_offset, frame_words, frame_sheet}

-- One step

pub innermost : (s : Stack) → 1 ≤ length s.frames → (pre : List Frame) × (f : Frame) × (s.frames ≡ pre ++ (f ∷ []))
innermost s h = let q = some-last s.frames h in (but_last s.frames, q.0, last-split s.frames q.0 q.1)

pub last-innermost : (s : Stack) (pre : List Frame) (f : Frame) → s.frames ≡ pre ++ (f ∷ []) → last? s.frames ≡ some f
last-innermost s pre f e = ap last? e ∙ last_snoc pre f

pub but_last-innermost : (s : Stack) (pre : List Frame) (f : Frame) → s.frames ≡ pre ++ (f ∷ []) → but_last s.frames ≡ pre
but_last-innermost s pre f e = ap but_last e ∙ but_last-snoc pre f

pub advanced : (s : Stack) (pre : List Frame) (f : Frame) → s.frames ≡ pre ++ (f ∷ []) → advance_frame s f ≡ with_frames s (pre ++ (continue f (suc f.next) ∷ []))
unfolding advance_frame
advanced s pre f e = ap (λ (fs : List Frame). with_frames s (fs ++ (continue f (suc f.next) ∷ []))) (but_last-innermost s pre f e)

-- no statement is left: the innermost frame is left
pub step-leaves : (l : Limits) (s : Stack) (pre : List Frame) (f : Frame) → s.frames ≡ pre ++ (f ∷ []) → frame_stmt f ≡ none → frame_step l s ≡ acted (with_frames s pre)
unfolding frame_step act_in
step-leaves l s pre f e n = rw (frame_step, last-innermost s pre f e, act_in, n) (ap (λ (fs : List Frame). acted (with_frames s fs)) (but_last-innermost s pre f e))

-- the next statement, done with the next statement number risen by one
pub step-does : (l : Limits) (s : Stack) (pre : List Frame) (f : Frame) (x : Stmt) → s.frames ≡ pre ++ (f ∷ []) → frame_stmt f ≡ some x
    → frame_step l s ≡ act_stmt l (with_frames s (pre ++ (continue f (suc f.next) ∷ []))) x
unfolding frame_step act_in
step-does l s pre f x e n = rw (frame_step, last-innermost s pre f e, act_in, n) (ap (λ (t : Stack). act_stmt l t x) (advanced s pre f e))

pub step-none : (l : Limits) (s : Stack) → s.frames ≡ [] → frame_step l s ≡ acted s
unfolding frame_step last?
step-none l s e = ap (λ (o : Option Frame). elim o as (λ x. Acted) [ none ↦ acted s | some f ↦ act_in l s f ]) (ap last? e)

pub offset-none : (s : Stack) → s.frames ≡ [] → frame_offset s ≡ 0
unfolding frame_offset last?
offset-none s e = rw (frame_offset, e)

pub offset-leaves : (s : Stack) (pre : List Frame) (f : Frame) → s.frames ≡ pre ++ (f ∷ []) → frame_stmt f ≡ none → frame_offset s ≡ 0
unfolding frame_offset
offset-leaves s pre f e n = rw (frame_offset, last-innermost s pre f e, n)

pub offset-does : (s : Stack) (pre : List Frame) (f : Frame) (x : Stmt) → s.frames ≡ pre ++ (f ∷ []) → frame_stmt f ≡ some x → frame_offset s ≡ stmt_at x
unfolding frame_offset
offset-does s pre f x e n = rw (frame_offset, last-innermost s pre f e, n)

-- The sheet

pub frame_words-length : (f : Frame) → length (frame_words f) ≡ 3 + length f.words
unfolding frame_words
frame_words-length f = omega arith

pub sheet-append : (fs gs : List Frame) → frame_sheet (fs ++ gs) ≡ frame_sheet fs ++ frame_sheet gs
unfolding frame_sheet
sheet-append [] gs = refl
sheet-append (f ∷ fs) gs = ap (λ (ws : List ℤ). frame_words f ++ ws) (sheet-append fs gs) ∙ sym (append_assoc (frame_words f) (frame_sheet fs) (frame_sheet gs))

pub sheet-last : (pre : List Frame) (f : Frame) → frame_sheet (pre ++ (f ∷ [])) ≡ frame_sheet pre ++ frame_words f
unfolding frame_sheet
sheet-last pre f = sheet-append pre (f ∷ []) ∙ ap (λ (ws : List ℤ). frame_sheet pre ++ ws) (append-nil (frame_words f))

pub sheet-length : (fs gs : List Frame) → length (frame_sheet (fs ++ gs)) ≡ length (frame_sheet fs) + length (frame_sheet gs)
sheet-length fs gs = ap length (sheet-append fs gs) ∙ length-append (frame_sheet fs) (frame_sheet gs)
