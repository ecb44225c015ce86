-- The entries put so far with those still to come are those of the records.
use Rattle.std.proofs.Common.{arith}
use Rattle.check_extents.proofs.Pushing.{pushing_step, pushing-end}
use Rattle.check_extents.proofs.push.Goals as goal

pub loop-entry-preserved : goal.loop-entry-preserved
loop-entry-preserved c = pushing_step c.loop-entry.invariant _ _ _ _ (omega arith) (omega arith) c.word.ensures.0 c.entry_of.ensures c.skip-here.ensures.skipped c.skip-here.ensures.noted

pub returns : goal.returns
returns c = pushing-end c.loop-entry.invariant _ _ _ (omega arith) (omega arith) (omega arith) (omega arith)
