use Rattle.std.proofs.Common.{length, ◌-◌}
use Rattle.table_probes.specs.Probes.{Passed, steps}
use Rattle.table_distinct.specs.Slots.{whole}
use Rattle.table_distinct.proofs.store.Given as goal

-- the slots passed are in use by other keys
abbrev pub invariant-loop-q : goal.invariant-loop-q
invariant-loop-q l = Passed whole l.key l.home l.slots l.q

abbrev pub decreases-loop-q : goal.decreases-loop-q
decreases-loop-q l = length l.slots - steps l.slots l.home l.q
