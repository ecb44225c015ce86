use Rattle.std.proofs.Common.{rules}
use Rattle.check_symbols.proofs.Chains.{removed-one, removed-kept}
use Rattle.check_symbols.proofs.remove_one.Goals as goal

pub returns : goal.returns
returns c = search (rules, removed-one, removed-kept)
