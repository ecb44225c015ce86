use Rattle.std.proofs.Common.{length, ◌-◌}
use Rattle.table_probes.specs.Probes.{Passed, steps}
use Rattle.table_distinct.specs.Slots.{word_at, home_of}
use Rattle.table_packed.specs.Packed.{pair_in}
use Rattle.table_packed.proofs.store.Given as goal

-- the slots passed have the places of other pairs
abbrev pub invariant-loop-q : goal.invariant-loop-q
invariant-loop-q l = Passed (pair_in l.table) (word_at l.table l.i) (home_of (length l.slots) (word_at l.table l.i)) l.slots l.q

abbrev pub decreases-loop-q : goal.decreases-loop-q
decreases-loop-q l = length l.slots - steps l.slots (home_of (length l.slots) (word_at l.table l.i)) l.q
