-- Hits were counted where the pair is among those passed.
use Rattle.std.proofs.Common.{◌≡◌, ◌≤◌}
use Rattle.std.proofs.Math.Dec.{ltb}
use Rattle.table_search.specs.Places.{among_pairs}
use Rattle.table_search.proofs.block_holds.Given as goal

abbrev pub invariant-loop-j : goal.invariant-loop-j
invariant-loop-j l = (l.hits ≤ l.j) × (ltb 0 l.hits ≡ among_pairs l.group l.member l.from l.j l.table)
