-- So far a run has come, whatever stack the beginning is said to hold, and the list of groups is beside the table still.
use Rattle.table_laws.specs.Listing.{KeepsList}
use Rattle.chain_links.specs.Running.{Running}
use Rattle.chain_run.specs.Ending.{Going}
use Rattle.chain_run.proofs.run.run.Given as goal

abbrev pub invariant-loop-left : goal.invariant-loop-left
invariant-loop-left l = record {
  goes : (w : Running l.code l.activations l.limit l.fn.cells l.fn.records l.fn.table l.fn.start)
      → Going w l.allowance l.cells l.records l.table l.here l.left;
  lists : KeepsList l.limit l.fn.table l.fn.start.pairs l.fn.groups l.table l.here.pairs l.groups;
}

abbrev pub decreases-loop-left : goal.decreases-loop-left
decreases-loop-left l = l.left
