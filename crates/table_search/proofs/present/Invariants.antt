-- The pair is among those left where it is among all.
use Rattle.std.proofs.Common.{◌≡◌, ◌+◌, ◌*◌}
use Rattle.language.specs.Table.{find, is_some}
use Rattle.table_search.proofs.present.Given as goal

abbrev pub invariant-loop-block : goal.invariant-loop-block
invariant-loop-block l = is_some (find l.group l.member (l.rest + 32 * l.block) l.table) ≡ is_some (find l.group l.member l.count l.table)
