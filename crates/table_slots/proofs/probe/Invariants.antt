use Rattle.table_keys.specs.Keys.{same_at}
use Rattle.table_slots.specs.Slots.{firsts, Passed}
use Rattle.table_slots.proofs.probe.Given as goal

-- the slots passed are in use by other keys
abbrev pub invariant-loop-t : goal.invariant-loop-t
invariant-loop-t l = Passed (same_at l.whole l.table l.i) l.slot (firsts l.slots) l.t
