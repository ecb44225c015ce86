-- The activation sought is not below `low`, and it is below `high` unless it is `low`.
use Rattle.std.proofs.Common.{◌-◌, ◌≤◌}
use Rattle.copy_names.specs.Search.{Narrowed}
use Rattle.copy_names.proofs.outer_owner.Given as goal

abbrev pub invariant-loop-high : goal.invariant-loop-high
invariant-loop-high l = record {
  apart : l.low ≤ l.high;
  within : l.high ≤ l.live;
  narrowed : Narrowed l.firsts l.live l.low l.high l.name;
}

abbrev pub decreases-loop-high : goal.decreases-loop-high
decreases-loop-high l = l.high - l.low
