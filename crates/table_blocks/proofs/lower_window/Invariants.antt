-- What is left and what the pairs passed have taken are the numbers.
use Rattle.std.proofs.Common.{◌≡◌, ◌-◌, ◌≤◌, length}
use Rattle.table_lefts.specs.Lefts.{LeftsAre}
use Rattle.table_blocks.proofs.lower_window.Given as goal

abbrev pub invariant-loop-i : goal.invariant-loop-i
invariant-loop-i l =
    record {
      within : l.i ≤ l.count;
      lefts_long : length l.lefts ≡ length l.fn.lefts;
      block_long : length l.block ≡ 1024;
      are : LeftsAre l.table l.i l.places l.lefts;
    }

abbrev pub decreases-loop-i : goal.decreases-loop-i
decreases-loop-i l = l.count - l.i
