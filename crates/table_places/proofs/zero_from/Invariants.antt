-- The blocks passed are 0.
use Rattle.std.proofs.Common.{◌≡◌, drop, length}
use Rattle.table_places.specs.Places.{all_zero}
use Rattle.table_places.proofs.zero_from.Given as goal

abbrev pub invariant-loop-block : goal.invariant-loop-block
invariant-loop-block l = all_zero (drop l.fn.from l.fn.list) ≡ all_zero l.rest

abbrev pub decreases-loop-block : goal.decreases-loop-block
decreases-loop-block l = length l.rest
