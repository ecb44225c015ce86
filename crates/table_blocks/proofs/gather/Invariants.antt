-- The block has each group of the window as often as the pairs passed do.
use Rattle.std.proofs.Common.{◌≡◌, ◌-◌, ◌≤◌, length, take}
use Rattle.table_blocks.specs.Blocks.{Gathered}
use Rattle.table_blocks.proofs.gather.Given as goal

abbrev pub invariant-loop-i : goal.invariant-loop-i
invariant-loop-i l =
    record {
      few : l.n ≤ l.i - l.from;
      long : length l.block ≡ length l.fn.block;
      gathered : Gathered l.table l.from l.i l.first l.span (take l.n l.block);
    }
