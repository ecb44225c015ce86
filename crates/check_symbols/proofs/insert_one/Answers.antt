use Rattle.std.proofs.Common.{rules}
use Rattle.check_symbols.proofs.Chains.{inserted-one, inserted-kept}
use Rattle.check_symbols.proofs.insert_one.Goals as goal

pub returns : goal.returns
returns c = search (rules, inserted-one, inserted-kept)
