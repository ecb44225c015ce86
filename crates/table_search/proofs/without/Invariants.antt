-- The pair is not in the blocks passed.
use Rattle.std.proofs.Common.{◌≡◌, ◌*◌}
use Rattle.std.proofs.Math.Option.{none}
use Rattle.language.specs.Table.{find}
use Rattle.table_search.proofs.without.Given as goal

abbrev pub invariant-loop-block : goal.invariant-loop-block
invariant-loop-block l = find l.group l.member (32 * l.block) l.table ≡ none
