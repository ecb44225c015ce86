use Rattle.std.proofs.Common.{ℕ, ◌<◌, ◌≤◌, true}
use Rattle.table_keys.specs.Keys.{rank_at}
use Rattle.table_once.proofs.differ_by_reading.Given as goal

-- the pairs passed differ
abbrev pub invariant-loop-i : goal.invariant-loop-i
invariant-loop-i l = (j : ℕ) → j < l.i → rank_at true j l.table ≤ 1
