-- So far a run has come, from whichever state it began, and the list of groups is beside the table still.
use Rattle.table_laws.specs.Listing.{KeepsList}
use Rattle.search_step.specs.Turning.{arrays_of}
use Rattle.search_run.specs.Ending.{Goes}
use Rattle.search_run.proofs.run.run.Given as goal

abbrev pub invariant-loop-left : goal.invariant-loop-left
invariant-loop-left l = record {
  goes : Goes l.code l.numbers l.activations l.limit (arrays_of l.fn.cells l.fn.passers l.fn.blocks l.fn.nexts l.fn.froms l.fn.table) l.fn.start l.allowance
      (arrays_of l.cells l.passers l.blocks l.nexts l.froms l.table) l.here l.left;
  lists : KeepsList l.limit l.fn.table l.fn.start.pairs l.fn.groups l.table l.here.pairs l.groups;
}

abbrev pub decreases-loop-left : goal.decreases-loop-left
decreases-loop-left l = l.left
