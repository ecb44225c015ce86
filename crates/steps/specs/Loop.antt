-- The laws of an engine's loop. At the end of a text the innermost activation is left (`leaves`), or the run has finished where no other is live
-- (`finishes`); with no step left it is spent (`spent`), and where a statement has a cause to stop it stops there (`stops`). `jumped`: after
-- a jump the engine stands in the label's activation; `shows-by`: what the display must then be. `begins`: arrays of zeros are where a run
-- starts, and `shows-begun`: so is the display.
use Prim.Native.Nat.{ℕ, suc, pred, ◌+◌, ◌-◌, ◌*◌, ◌≤◌, ◌<◌}
use native.Mathlib.Omega.{arith}
use mathlib.Core.List.{List, [], ◌∷◌, ◌++◌}
use Rattle.std.proofs.Math.Option.{some}
use Rattle.std.specs.Prelude.{◌≡◌, ℤ, get_or, set}
use Rattle.std.proofs.Math.Path.{refl, ap, subst}
use Rattle.std.proofs.Common.{sym, ◌∙◌, get_or-set_same}
use Rattle.std.proofs.Math.ListN.{length, take, get_elem?}
use Rattle.std.proofs.lemmas.List.{set-get_or}
use Rattle.std.proofs.Math.Seq.{length-take-le}
use Rattle.language.specs.Basics.{but_last}
use Rattle.language.specs.Text.{Block}
use Rattle.language.specs.Table.{Table}
use Rattle.language.specs.Machine.{Limits}
use Rattle.language.specs.declared.Stop.{Stop}
use Rattle.language.specs.declared.End.TheVariants.{Finished, Spent, Stopped}
use Rattle.laws.specs.Tests.{by-lookup}
use Rattle.laws.specs.Lists.{some-last, last-split, snoc-length, get_elem-append, get_elem-seam, but_last-snoc}
use Rattle.frames.specs.Frame.{Frame, Stack, acted, halted, numbered, continue, with_frames, frame_cost, stepped, new_frame, frame_stmt, frame_step, results, frame_run, frame_start}
use Rattle.frames.specs.Numbered.{numbered-suc, numbered-low, numbered-high}
use Rattle.frames.specs.Running.{run-finished, run-spent, run-steps, run-stops}
use Rattle.frame_laws.specs.Innermost.{step-leaves, offset-does}
use Rattle.coordinates.specs.Chain.{along, chain_of, level_of, display_from, display_of, Downward}
use Rattle.coordinates.proofs.Display.{display-after-return, display-after-goto, display-length}
use Rattle.coordinates.proofs.Sound.{Sound, start-sound, step-sound}
use Rattle.resolved.specs.Resolved.{end_place, stmt_place}
use Rattle.resolved.proofs.Places.{block-place}
use Rattle.arrays.specs.Holds.{Holds, Shows}
use Rattle.arrays.proofs.Moves.{holds-started}
use Rattle.arrays.proofs.Running.{holds-back, holds-jumped}
use Rattle.arrays.specs.Displays.{ShowsFrom, shows-entered}
use Rattle.steps.specs.Standing.{Standing}
use Rattle.steps.specs.Means.{Follows, JumpsTo}
use Rattle.steps.specs.Counts.{costs-one, step_counts}
use Rattle.steps.specs.Here.{many, live-few, downward, ended, even-at}
use Rattle.steps.specs.Begun.{Begun, AtStart}

-- the display of one frame is that of other frames' innermost one
pub shows-by : (fs gs : List Frame) (k : ℕ) (display : List ℕ) → display_of gs ≡ display_from fs k → ShowsFrom fs k display → Shows gs display
shows-by fs gs k display e h j m q = h j m (ap (λ (ms : List ℕ). numbered ms j) (sym e) ∙ q)

module _ {code : List ℕ} {l : Limits} {cells : List ℤ} {blocks nexts links : List ℕ} {table : List ℤ} {pairs live at end : ℕ} (w : Standing code l cells blocks nexts links table pairs live at end) where
  some-live : 1 ≤ length w.stack.frames
  some-live = omega (arith, many w)

  -- No step left, or a cause to stop

  pub spent : frame_run l 0 w.stack ≡ results Spent 0 w.stack
  spent = run-spent l w.stack some-live

  pub leaving : at ≡ end → frame_step l w.stack ≡ acted (with_frames w.stack w.below)
  leaving e = step-leaves l w.stack w.below w.frame w.frames-are (ended w e)

  pub stops : (n : ℕ) (c : Stop) → frame_step l w.stack ≡ halted c → frame_run l (suc n) w.stack ≡ results (Stopped c) (2 * at) w.stack
  stops n c e =
      by-lookup (frame_stmt w.frame)
      (λ q. let z : ◌≡◌ {A = ℕ} 0 1 = cc (step-leaves l w.stack w.below w.frame w.frames-are q) in absurd (omega arith))
      (λ x q. run-stops l w.stack (suc n) c some-live (omega arith) e ∙ ap (λ i. results (Stopped c) i w.stack) (offset-does w.stack w.below w.frame x w.frames-are q ∙ sym (even-at w x q)))

  -- a step done
  pub follows-step : (v : Stack) → frame_step l w.stack ≡ acted v → Follows w (stepped w.stack v) w.program w.name
  unfolding stepped
  follows-step v e =
      record {
        moved = v;
        steps = e;
        is-stepped = refl;
        runs = λ n. run-steps l w.stack n v some-live e;
        counts = ap (λ n. n + frame_cost w.stack v) (step_counts l w.stack v some-live e);
        same-program = refl;
        same_name = refl;
      }

  pub sound-after : (v : Stack) → frame_step l w.stack ≡ acted v → Sound l w.program (stepped w.stack v)
  sound-after v e = step-sound w.program w.keeps l w.stack v w.sound e

  -- The end of the text

  pub finishes : at ≡ end → live ≡ 0 → (n : ℕ)
      → frame_run l (suc n) w.stack ≡ results Finished 0 (record { frames = []; table = record { words = table; used = pairs }; steps = suc w.stack.steps })
  unfolding stepped with_frames
  finishes e z n =
      let none_below : w.below ≡ [] = no_frames w.below (w.depth ∙ z) in
      let v = with_frames w.stack w.below in
      let one = costs-one w.stack v in
      let counted : w.stack.steps + frame_cost w.stack v ≡ suc w.stack.steps = omega arith in
      run-steps l w.stack (suc n) v some-live (leaving e) (omega arith)
      ∙ ap (frame_run l (suc n - frame_cost w.stack v)) (λ i. record { frames = none_below i; table = w.table_is i; steps = counted i })
      ∙ run-finished l _ (suc n - frame_cost w.stack v) refl
    where
      no_frames : (fs : List Frame) → length fs ≡ 0 → fs ≡ []
      no_frames [] h = refl
      no_frames (f ∷ fs) h = absurd (omega arith)

  -- the activation below becomes the innermost one
  pub record LeavesBlock : Type 0 where
    pub frame : Frame
    pub stands : numbered w.stack.frames live ≡ some frame
    pub standing : Standing code l cells blocks nexts links table pairs (live - 1) (get_or nexts (live - 1) 0) (end_place frame.text)
    pub follows : Follows w standing.stack standing.program standing.name
    pub display : display_of standing.stack.frames ≡ display_from w.stack.frames live

  pub leaves : at ≡ end → 1 ≤ live → LeavesBlock
  unfolding stepped with_frames
  leaves e h =
      let f = some-last w.below (omega (arith, w.depth)) in
      let v = with_frames w.stack w.below in
      let sound = sound-after v (leaving e) in
      let under : but_last w.stack.frames ≡ w.below = ap but_last w.frames-are ∙ but_last-snoc w.below w.frame in
      let parts : w.below ≡ but_last w.below ++ (f.0 ∷ []) = last-split w.below f.0 f.1 in
      let deep : length (but_last w.below) ≡ live - 1 = omega (arith, w.depth, ap length parts, snoc-length (but_last w.below) f.0) in
      let held : Holds (but_last w.stack.frames) blocks (set nexts (pred live) (get_or nexts (pred live) 0)) links cells = holds-back w.stack.frames blocks nexts links cells w.sound.bounded.each live at (many w) (omega (arith, w.nexts-long, live-few w)) w.holds in
      let one : pred live ≡ live - 1 = omega arith in
      record {
        frame = f.0;
        stands = numbered_below f.0 deep parts;
        standing = record {
          name = w.name;
          program = w.program;
          keeps = w.keeps;
          covers = w.covers;
          stack = stepped w.stack v;
          sound = sound;
          below = but_last w.below;
          frame = f.0;
          frames-are = parts;
          depth = deep;
          table_is = w.table_is;
          holds = subst (λ (fs : List Frame). Holds fs blocks (set nexts (live - 1) (get_or nexts (live - 1) 0)) links cells) under
              (subst (λ k. Holds (but_last w.stack.frames) blocks (set nexts k (get_or nexts k 0)) links cells) one held);
          end_is = refl;
          cells-long = w.cells-long;
          blocks-long = w.blocks-long;
          nexts-long = w.nexts-long;
          links-long = w.links-long;
        };
        follows = follows-step v (leaving e);
        display = ap display_of (sym under) ∙ display-after-return w.stack.frames (downward w) ∙ ap (display_from w.stack.frames) (ap pred (many w));
      }
    where
      numbered_below : (f : Frame) → length (but_last w.below) ≡ live - 1 → w.below ≡ but_last w.below ++ (f ∷ []) → numbered w.stack.frames live ≡ some f
      numbered_below f deep parts =
          let i : live ≡ suc (length (but_last w.below)) = omega arith in
          ap (numbered w.stack.frames) i ∙ numbered-suc w.stack.frames (length (but_last w.below))
          ∙ ap (λ (fs : List Frame). get_elem? fs (length (but_last w.below))) w.frames-are
          ∙ get_elem-append w.below (w.frame ∷ []) (length (but_last w.below)) (omega (arith, w.depth))
          ∙ ap (λ (fs : List Frame). get_elem? fs (length (but_last w.below))) parts ∙ get_elem-seam (but_last w.below) f []

  -- A jump

  pub record Jumped (home at' : ℕ) : Type 0 where
    pub frame : Frame
    pub stands : numbered w.stack.frames (suc home) ≡ some frame
    pub home-high : home ≤ live
    pub standing : Standing code l cells blocks nexts links table pairs home at' (end_place frame.text)
    pub follows : Follows w standing.stack standing.program standing.name
    pub display : display_of standing.stack.frames ≡ display_from w.stack.frames (suc home)

  pub jumped : (home at' : ℕ) → JumpsTo w home at' → Jumped home at'
  unfolding stepped with_frames continue
  jumped home at' j =
      let fs = w.stack.frames in
      let gs = take home fs ++ (continue j.frame j.index ∷ []) in
      let v = with_frames w.stack gs in
      let sound = sound-after v j.steps in
      let high : suc home ≤ length fs = numbered-high fs (suc home) j.frame j.stands in
      let deep : length (take home fs) ≡ home = length-take-le home fs (omega arith) in
      let held : Holds gs blocks (set nexts home (stmt_place j.frame.text j.index)) links cells = holds-jumped fs blocks nexts links cells w.sound.bounded.each live at (many w) (omega (arith, w.nexts-long, live-few w)) w.holds home j.frame j.stands j.index in
      record {
        frame = j.frame;
        stands = j.stands;
        home-high = omega (arith, many w);
        standing = record {
          name = w.name;
          program = w.program;
          keeps = w.keeps;
          covers = w.covers;
          stack = stepped w.stack v;
          sound = sound;
          below = take home fs;
          frame = continue j.frame j.index;
          frames-are = refl;
          depth = deep;
          table_is = w.table_is;
          holds = subst (λ i. Holds gs blocks (set nexts home i) links cells) (sym j.place_is) held;
          end_is = refl;
          cells-long = w.cells-long;
          blocks-long = w.blocks-long;
          nexts-long = w.nexts-long;
          links-long = w.links-long;
        };
        follows = follows-step v j.steps;
        display = display-after-goto fs (downward w) (suc home) j.frame j.index j.stands;
      }

-- The start

pub begins : {code : List ℕ} {cells : List ℤ} {table : List ℤ} {pairs limit activations : ℕ} (b : Begun code cells table pairs limit activations) (blocks nexts links : List ℕ)
    → length blocks ≡ 256 → length nexts ≡ 256 → length links ≡ 256 → get_or blocks 0 0 ≡ 0 → get_or links 0 0 ≡ 0
    → (w : Standing code (record { activations = activations; limit = limit }) cells blocks nexts links table pairs 0 (stmt_place b.program 1) (end_place b.program)) × AtStart b w
unfolding frame_start new_frame
begins {cells = cells} {table = table} {pairs = pairs} b blocks nexts links blocks-long nexts-long links-long no_block no-link =
    let t = b.program in
    let tab : Table = record { words = table; used = pairs } in
    let sound = start-sound _ t tab b.some-live b.few-live b.table-right b.keeps in
    let few = (sound.bounded.each 0 (new_frame [] [] t 0) refl).few in
    let count = (sound.bounded.each 0 (new_frame [] [] t 0) refl).count in (
      record {
        name = b.name;
        program = t;
        keeps = b.keeps;
        covers = b.covers;
        stack = frame_start t tab;
        sound = sound;
        below = [];
        frame = new_frame [] [] t 0;
        frames-are = refl;
        depth = refl;
        table_is = refl;
        holds = holds-started t blocks (set nexts 0 (stmt_place t 1)) links cells (no_block ∙ sym (block-place t 1 [] 0 b.keeps.formed))
            (get_or-set_same nexts 0 (stmt_place t 1) 0 (omega arith)) no-link (λ i h. b.zeros i (omega arith));
        end_is = refl;
        cells-long = b.cells-long;
        blocks-long = blocks-long;
        nexts-long = nexts-long;
        links-long = links-long;
      },
      record { stack_is = refl; program-is = refl; name-is = refl },
    )

none-level : level_of [] 0 ≡ 0
unfolding level_of chain_of along
none-level = refl

pub shows-begun : (t : Block) (tab : Table) (display : List ℕ) → 1 < length display → get_or display 1 0 ≡ 0 → Shows (frame_start t tab).frames display
unfolding frame_start
shows-begun t tab display h z =
    let one : suc (level_of [] 0) ≡ 1 = ap suc none-level in
    let down : Downward [] = λ k f e. absurd (omega (arith, numbered-high [] k f e, numbered-low [] k f e)) in
    let same : set display (suc (level_of [] 0)) (32 * 0) ≡ display = ap (λ i. set display i (32 * 0)) one ∙ ap (set display 1) (sym z) ∙ set-get_or display 1 0 in
    subst (Shows (new_frame [] [] t 0 ∷ [])) same (shows-entered [] down display [] [] t 0 (omega arith) (omega arith) (λ j m e. absurd (omega (arith, numbered-high (display_from [] 0) j m e, numbered-low (display_from [] 0) j m e, display-length [] 0, none-level))))
