use Rattle.std.proofs.Common.{◌≡◌, ℕ, ◌<◌, ◌≤◌, true, length}
use Rattle.table_keys.specs.Keys.{rank_at}
use Rattle.table_distinct.specs.Slots.{whole, Filled, every}
use Rattle.table_distinct.proofs.differ_in_slots.Given as goal

-- the pairs passed differ, and the slots hold them and no other
abbrev pub invariant-loop-i : goal.invariant-loop-i
invariant-loop-i g l =
    record {
      size : length l.slots ≡ g.row.SLOTS;
      filled : Filled whole l.table every l.i l.i l.slots;
      few : (j : ℕ) → j < l.i → rank_at true j l.table ≤ 1;
    }
