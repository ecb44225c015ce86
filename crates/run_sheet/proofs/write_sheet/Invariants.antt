-- The sheet so far is that of the first frames.
use Rattle.std.proofs.Common.{List, ◌≡◌, length, take}
use Rattle.language.specs.Call.{written}
use Rattle.frames.specs.Frame.{Frame, frame_sheet}
use Rattle.run_sheet.specs.Held.{Held}
use Rattle.run_sheet.proofs.write_sheet.Given as goal

abbrev pub invariant-loop-k : goal.invariant-loop-k
invariant-loop-k l = record {
  same_length : length l.sheet ≡ length l.fn.sheet;
  so_far :
      (fs : List Frame) → Held l.code l.cells l.blocks l.nexts l.links fs → length fs ≡ l.live
      → (l.sheet ≡ written (frame_sheet (take l.k fs)) l.fn.sheet) × (l.at ≡ length (frame_sheet (take l.k fs)));
}
