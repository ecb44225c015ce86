-- So far a run has come, whatever stack the beginning is said to hold, and the list of groups is beside the table still.
use Rattle.table_laws.specs.Listing.{KeepsList}
use Rattle.copy_moves.specs.Running.{Running}
use Rattle.copy_run.specs.Turning.{arrays_of}
use Rattle.copy_run.specs.Ending.{Going}
use Rattle.copy_run.proofs.run.run.Given as goal

abbrev pub invariant-loop-left : goal.invariant-loop-left
invariant-loop-left l = record {
  goes : (w : Running l.code l.names l.activations l.limit l.fn.cells l.fn.area l.width l.fn.blocks l.fn.nexts l.fn.links l.fn.firsts l.fn.starts l.fn.targets l.fn.looked l.fn.table l.fn.start)
      → Going w l.allowance (arrays_of l.cells l.area l.blocks l.nexts l.links l.firsts l.starts l.targets l.looked l.table) l.here l.left;
  lists : KeepsList l.limit l.fn.table l.fn.start.pairs l.fn.groups l.table l.here.pairs l.groups;
}

abbrev pub decreases-loop-left : goal.decreases-loop-left
decreases-loop-left l = l.left
