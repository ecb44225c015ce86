-- The sheet of the first k activations is written.
use Rattle.std.proofs.Common.{◌≡◌, ◌-◌, ◌≤◌, List, length, take}
use Rattle.language.specs.Call.{written}
use Rattle.frames.specs.Frame.{Frame, frame_sheet}
use Rattle.run_sheet.specs.Held.{Held}
use Rattle.chain_links.specs.Records.{blocks_in, nexts_in, links_in}
use Rattle.chain_run.proofs.sheet.write_sheet.Given as goal

abbrev pub invariant-loop-k : goal.invariant-loop-k
invariant-loop-k l = record {
  low : l.k ≤ l.live;
  as_long : length l.sheet ≡ length l.fn.sheet;
  shows : (fs : List Frame) → Held l.code l.cells (blocks_in l.records) (nexts_in l.records) (links_in l.records) fs → length fs ≡ l.live
      → (l.sheet ≡ written (frame_sheet (take l.k fs)) l.fn.sheet) × (l.at ≡ length (frame_sheet (take l.k fs)));
}
