-- The slots passed are in use by other groups.
use Rattle.std.proofs.Common.{◌-◌, length}
use Rattle.table_probes.specs.Probes.{steps, Passed}
use Rattle.table_index.specs.Index.{home_of, key_in}
use Rattle.table_index.proofs.seek.Given as goal

abbrev pub invariant-loop-group : goal.invariant-loop-group
invariant-loop-group l = Passed (key_in l.places) l.group (home_of (length l.slots) l.group) l.slots l.q

abbrev pub decreases-loop-group : goal.decreases-loop-group
decreases-loop-group l = length l.slots - steps l.slots (home_of (length l.slots) l.group) l.q
