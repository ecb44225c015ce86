use mathlib.Core.Path.{◌≡◌}
use lib.ListN.{length}
use Rattle.table_laws.specs.Listing.{KeepsList}
use Rattle.display_run.specs.Ending.{Goes}
use Rattle.display_run.proofs.run.run.Given as goal

abbrev pub invariant-loop-left : goal.invariant-loop-left
invariant-loop-left l =
    Goes l.code l.activations l.limit l.initial.cells l.initial.blocks l.initial.nexts l.initial.links l.initial.display l.initial.table l.initial.here l.allowance l.cells l.blocks l.nexts l.links l.display l.table l.here l.left
    × ((length l.groups ≡ length l.initial.groups) × KeepsList l.limit l.initial.table l.initial.here.pairs l.initial.groups l.table l.here.pairs l.groups)

abbrev pub decreases-loop-left : goal.decreases-loop-left
decreases-loop-left l =
    l.left
