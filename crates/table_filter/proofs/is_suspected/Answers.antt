use Rattle.std.proofs.Common.{rules}
use Rattle.table_filter.specs.Filter.{suspected}
use Rattle.table_filter.proofs.is_suspected.Goals as goal

pub returns : goal.returns
unfolding suspected
returns c = search rules
