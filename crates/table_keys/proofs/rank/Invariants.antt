-- The pairs with the key among those passed are counted.
use Rattle.std.proofs.Common.{◌≡◌}
use Rattle.laws.specs.Tables.{group_at, member_at}
use Rattle.table_keys.specs.Keys.{alike}
use Rattle.table_keys.proofs.rank.Given as goal

abbrev pub invariant-loop-j : goal.invariant-loop-j
invariant-loop-j l = l.found ≡ alike l.whole (group_at l.i l.table) (member_at l.i l.table) l.j l.table
