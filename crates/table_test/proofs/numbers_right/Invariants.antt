-- The pairs passed have numbers of at least 1.
use Rattle.std.proofs.Common.{◌≡◌, true}
use Rattle.table_keys.specs.Keys.{each}
use Rattle.table_test.proofs.Rules.{numbers_at}
use Rattle.table_test.proofs.numbers_right.Given as goal

abbrev pub invariant-loop-i : goal.invariant-loop-i
invariant-loop-i l = each (numbers_at l.table) l.i ≡ true
