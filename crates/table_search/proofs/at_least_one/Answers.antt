use Rattle.std.proofs.Common.{rules}
use Rattle.table_search.proofs.Signed.{from_one}
use Rattle.table_search.proofs.at_least_one.Goals as goal

pub returns : goal.returns
returns c = search (rules, from_one)
