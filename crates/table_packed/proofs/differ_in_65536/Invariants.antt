use Rattle.std.proofs.Common.{◌≡◌, ℕ, ◌<◌, ◌≤◌, true, length}
use Rattle.table_keys.specs.Keys.{rank_at}
use Rattle.table_distinct.specs.Slots.{Filled, every}
use Rattle.table_packed.specs.Packed.{pair_in, Placed}
use Rattle.table_packed.proofs.differ_in_65536.Given as goal

-- the pairs passed differ, and the slots have their places and no other
abbrev pub invariant-loop-i : goal.invariant-loop-i
invariant-loop-i l =
    record {
      size : length l.slots ≡ 65536;
      filled : Filled (pair_in l.table) l.table every l.i l.i l.slots;
      placed : Placed l.table l.i l.slots;
      few : (j : ℕ) → j < l.i → rank_at true j l.table ≤ 1;
    }
