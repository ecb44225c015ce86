-- The loop of a run, for any engine and from any sound stack. `UnderwayFrom`: so far a run has come, with the arrays as they are and so many steps
-- left; `begun-from`: it begins so; `went`: a step keeps it. `EndedFrom`: what an engine has of a run that has ended; `spent`, `stopped`, `finished`:
-- the three ends; `leaves-sound-from`: what a run leaves is sound. Steps are counted from the stack that the run begins with, at which `done` are
-- done; `Ended`: of a run from the program's start.
use Prim.Native.Nat.{ℕ, suc, ◌+◌, ◌-◌, ◌*◌, ◌≤◌}
use native.Mathlib.Omega.{arith}
use mathlib.Core.List.{List, []}
use Rattle.std.proofs.Math.Option.{some}
use Rattle.std.specs.Prelude.{◌≡◌, refl, ℤ, set}
use Rattle.std.proofs.Math.Path.{sym, ap, subst}
use Rattle.std.proofs.Common.{◌∙◌}
use Rattle.std.proofs.Math.ListN.{length, get_elem?}
use Rattle.language.specs.Text.{Block}
use Rattle.language.specs.Table.{Table}
use Rattle.language.specs.Machine.{Limits}
use Rattle.language.specs.declared.Stop.{Stop}
use Rattle.language.specs.declared.End.{End}
use Rattle.language.specs.declared.End.TheVariants.{Finished, Spent, Stopped}
use Rattle.laws.specs.Tests.{none≢some}
use Rattle.frames.specs.Frame.{Frame, Result, results, halted, designates, frame_step, frame_run}
use Rattle.coordinates.proofs.Sound.{Sound, run_sound}
use Rattle.arrays.specs.Holds.{Holds}
use Rattle.arrays.proofs.Names.{nothing-live}
use Rattle.steps.specs.Standing.{Standing}
use Rattle.steps.specs.Means.{Follows}
use Rattle.steps.specs.Counts.{costs-one}
use Rattle.steps.specs.Here.{many}
use Rattle.steps.specs.Loop as loop

pub record UnderwayFrom (done : ℕ) (program : Block) (name allowance : ℕ) (result : Result) {code : List ℕ} {l : Limits} {cells : List ℤ} {blocks nexts links : List ℕ} {table : List ℤ} {pairs live at end : ℕ}
    (w : Standing code l cells blocks nexts links table pairs live at end) (left : ℕ) : Type 0 where
  pub same-program : w.program ≡ program
  pub same_name : w.name ≡ name
  pub runs : result ≡ frame_run l left w.stack
  pub counts : w.stack.steps + left ≡ allowance + done
  pub few-left : left ≤ allowance

pub begun-from : {code : List ℕ} {l : Limits} {cells : List ℤ} {blocks nexts links : List ℕ} {table : List ℤ} {pairs live at end : ℕ}
    (w : Standing code l cells blocks nexts links table pairs live at end) (allowance : ℕ)
    → UnderwayFrom w.stack.steps w.program w.name allowance (frame_run l allowance w.stack) w allowance
begun-from w allowance = record { same-program = refl; same_name = refl; runs = refl; counts = omega arith; few-left = omega arith }

pub leaves-sound-from : {code : List ℕ} {l : Limits} {cells : List ℤ} {blocks nexts links : List ℕ} {table : List ℤ} {pairs live at end : ℕ}
    (w : Standing code l cells blocks nexts links table pairs live at end) (allowance : ℕ) → Sound l w.program (frame_run l allowance w.stack).final
leaves-sound-from {l = l} w allowance = run_sound w.program w.keeps l allowance w.stack w.sound

-- what an engine has of a run that has ended: the frame machine's result, and the arrays hold its stack
pub record EndedFrom (done : ℕ) (program : Block) (name : ℕ) (l : Limits) (result : Result) (end : End) (steps offset pairs live designator : ℕ) (cells : List ℤ) (blocks nexts links : List ℕ) (table : List ℤ) : Type 0 where
  pub end_is : end ≡ result.end
  pub steps-are : steps + done ≡ result.final.steps
  pub offset-is : offset ≡ result.offset
  pub pairs-are : pairs ≡ result.final.table.used
  pub table_is : table ≡ result.final.table.words
  pub live-is : live ≡ length result.final.frames
  pub designator-is : designator ≡ designates result.final.frames name
  pub sound : Sound l program result.final
  pub holds : Holds result.final.frames blocks nexts links cells
  pub cells-long : length cells ≡ 8224

abbrev pub Ended : (program : Block) (name : ℕ) (l : Limits) (result : Result) (end : End) (steps offset pairs live designator : ℕ) (cells : List ℤ) (blocks nexts links : List ℕ) (table : List ℤ) → Type 0
Ended = EndedFrom 0

module _ {done : ℕ} {program : Block} {name allowance : ℕ} {result : Result} {code : List ℕ} {l : Limits} {cells : List ℤ} {blocks nexts links : List ℕ} {table : List ℤ} {pairs live at end left : ℕ}
    (w : Standing code l cells blocks nexts links table pairs live at end) (u : UnderwayFrom done program name allowance result w left) where
  pub went : {cells' : List ℤ} {blocks' nexts' links' : List ℕ} {table' : List ℤ} {pairs' live' at' end' : ℕ} (v : Standing code l cells' blocks' nexts' links' table' pairs' live' at' end')
      → Follows w v.stack v.program v.name → 1 ≤ left → UnderwayFrom done program name allowance result v (left - 1)
  went v f h =
      let one = costs-one w.stack f.moved in
      record {
        same-program = f.same-program ∙ u.same-program;
        same_name = f.same_name ∙ u.same_name;
        runs = u.runs ∙ f.runs left (omega arith) ∙ ap (λ n. frame_run l (left - n) v.stack) one;
        counts = omega (arith, u.counts, f.counts);
        few-left = omega (arith, u.few-left);
      }

  -- a run that leaves activations live
  halts : (e : End) (offset steps : ℕ) → result ≡ results e offset w.stack → steps + done ≡ w.stack.steps → Sound l program result.final
      → (designator : ℕ) → designator ≡ designates w.stack.frames w.name
      → EndedFrom done program name l result e steps offset pairs (live + 1) designator cells blocks (set nexts live at) links table
  unfolding results
  halts e offset steps q n sound designator d =
      record {
        end_is = sym (ap (λ (v : Result). v.end) q);
        steps-are = n ∙ sym (ap (λ (v : Result). v.final.steps) q);
        offset-is = sym (ap (λ (v : Result). v.offset) q);
        pairs-are = sym (ap (λ (v : Result). v.final.table.used) q ∙ ap (λ (t : Table). t.used) w.table_is);
        table_is = sym (ap (λ (v : Result). v.final.table.words) q ∙ ap (λ (t : Table). t.words) w.table_is);
        live-is = sym (ap (λ (v : Result). length v.final.frames) q ∙ many w ∙ omega arith);
        designator-is = d ∙ ap (designates w.stack.frames) u.same_name ∙ sym (ap (λ (v : Result). designates v.final.frames name) q);
        sound = sound;
        holds = subst (λ (v : Result). Holds v.final.frames blocks (set nexts live at) links cells) (sym q) w.holds;
        cells-long = w.cells-long;
      }

  pub spent : left ≡ 0 → Sound l program result.final → (designator : ℕ) → designator ≡ designates w.stack.frames w.name
      → EndedFrom done program name l result Spent allowance 0 pairs (live + 1) designator cells blocks (set nexts live at) links table
  spent z sound = halts Spent 0 allowance (u.runs ∙ ap (λ n. frame_run l n w.stack) z ∙ loop.spent w) (omega (arith, u.counts, u.few-left)) sound

  pub stopped : (c : Stop) → frame_step l w.stack ≡ halted c → 1 ≤ left → Sound l program result.final → (designator : ℕ) → designator ≡ designates w.stack.frames w.name
      → EndedFrom done program name l result (Stopped c) (allowance - left) (2 * at) pairs (live + 1) designator cells blocks (set nexts live at) links table
  stopped c stop more sound =
      let one : left ≡ suc (left - 1) = omega arith in
      halts (Stopped c) (2 * at) (allowance - left) (u.runs ∙ ap (λ k. frame_run l k w.stack) one ∙ loop.stops w (left - 1) c stop) (omega (arith, u.counts, u.few-left)) sound

  pub finished : at ≡ end → live ≡ 0 → 1 ≤ left → Sound l program result.final → (cells' : List ℤ) (blocks' nexts' links' : List ℕ) (table' : List ℤ) → table' ≡ table → length cells' ≡ 8224
      → EndedFrom done program name l result Finished (allowance - left + 1) 0 pairs 0 0 cells' blocks' nexts' links' table'
  unfolding results
  finished ends none more sound cells' blocks' nexts' links' table' same long =
      let one : left ≡ suc (left - 1) = omega arith in
      let n : allowance - left + 1 + done ≡ suc w.stack.steps = omega (arith, u.counts, u.few-left) in
      let q = u.runs ∙ ap (λ k. frame_run l k w.stack) one ∙ loop.finishes w ends none (left - 1) in
      record {
        end_is = sym (ap (λ (v : Result). v.end) q);
        steps-are = n ∙ sym (ap (λ (v : Result). v.final.steps) q);
        offset-is = sym (ap (λ (v : Result). v.offset) q);
        pairs-are = sym (ap (λ (v : Result). v.final.table.used) q);
        table_is = same ∙ sym (ap (λ (v : Result). v.final.table.words) q);
        live-is = sym (ap (λ (v : Result). length v.final.frames) q);
        designator-is = sym (ap (λ (v : Result). designates v.final.frames name) q ∙ (nothing-live name).0);
        sound = sound;
        holds = λ k f e. absurd (none-there k f (sym (ap (λ (v : Result). get_elem? v.final.frames k) q) ∙ e));
        cells-long = long;
      }
    where
      none-there : (k : ℕ) (f : Frame) → get_elem? [] k ≡ some f → ⊥
      none-there k f e = none≢some e
