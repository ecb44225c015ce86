-- The pair is not found among those passed.
use Rattle.std.proofs.Common.{◌≡◌}
use Rattle.std.proofs.Math.Option.{none}
use Rattle.language.specs.Table.{find}
use Rattle.table_search.proofs.place_of.Given as goal

abbrev pub invariant-loop-i : goal.invariant-loop-i
invariant-loop-i l = find l.group l.member l.i l.table ≡ none
