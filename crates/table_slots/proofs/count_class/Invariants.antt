use Rattle.std.proofs.Common.{◌≡◌, ℕ, ◌<◌, ◌≤◌, true}
use Rattle.table_keys.specs.Keys.{rank_at}
use Rattle.table_slots.specs.Slots.{Good, wanted}
use Rattle.table_slots.proofs.count_class.Given as goal

-- the slots are good, and the ranks passed are within the limit
abbrev pub invariant-loop-i : goal.invariant-loop-i
invariant-loop-i l =
    record {
      good : Good l.whole l.table (wanted l.whole l.table l.classes l.class l.marks) l.i l.slots;
      few : (j : ℕ) → j < l.i → wanted l.whole l.table l.classes l.class l.marks j ≡ true → rank_at l.whole j l.table ≤ l.limit;
    }
