use Rattle.std.proofs.Common.{◌≡◌, ℕ, ◌<◌, ◌≤◌, true, length}
use Rattle.table_keys.specs.Keys.{rank_at}
use Rattle.table_distinct.specs.Slots.{whole, Filled}
use Rattle.table_sieve.specs.Sieve.{marked}
use Rattle.table_sieve.proofs.settle.Given as goal

-- the pairs passed differ, and the slots hold those that are marked
abbrev pub invariant-loop-i : goal.invariant-loop-i
invariant-loop-i l =
    record {
      room : l.kept ≤ 28000;
      size : length l.slots ≡ 32768;
      filled : Filled whole l.table (marked l.table l.marks) l.i l.kept l.slots;
      few : (j : ℕ) → j < l.i → rank_at true j l.table ≤ 1;
    }
