-- No entry of the name stands before its head.
use Rattle.std.proofs.Common.{rules}
use Rattle.check_symbols.proofs.Chains.{from-head}
use Rattle.check_symbols.proofs.first.Goals as goal

pub returns : goal.returns
returns c = search (rules, from-head)
