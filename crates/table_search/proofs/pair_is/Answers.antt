-- Equal bits are equal numbers.
use Rattle.std.proofs.Common.{rules}
use Rattle.language.specs.Basics.{eq_z}
use Rattle.table_search.proofs.Signed.{same_bits}
use Rattle.table_search.proofs.pair_is.Goals as goal

pub returns-then-g-group : goal.returns-then-g-group
unfolding eq_z
returns-then-g-group c = search (rules, same_bits)

pub returns-else-g-group : goal.returns-else-g-group
unfolding eq_z
returns-else-g-group c = search (rules, same_bits)
