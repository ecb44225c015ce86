-- The slots passed are in use.
use Rattle.std.proofs.Common.{◌-◌, length}
use Rattle.table_probes.specs.Probes.{steps, Reached}
use Rattle.table_index.specs.Index.{home_of}
use Rattle.table_index.proofs.vacant.Given as goal

abbrev pub invariant-loop-q : goal.invariant-loop-q
invariant-loop-q l = Reached (home_of (length l.slots) l.group) l.slots l.q

abbrev pub decreases-loop-q : goal.decreases-loop-q
decreases-loop-q l = length l.slots - steps l.slots (home_of (length l.slots) l.group) l.q
