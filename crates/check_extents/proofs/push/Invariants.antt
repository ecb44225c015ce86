use Rattle.check_extents.proofs.Pushing.{Pushing}
use Rattle.check_extents.proofs.push.Given as goal

abbrev pub invariant-loop-entry : goal.invariant-loop-entry
invariant-loop-entry l = Pushing l.script l.entry-items l.ends l.at l.here l.entry-index l.count
