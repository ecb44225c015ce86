-- No entry of the name stands between an entry and the one that its link names.
use Rattle.std.proofs.Common.{rules}
use Rattle.check_symbols.proofs.Chains.{one, linked, along}
use Rattle.check_symbols.proofs.after.Goals as goal

pub returns-then-entries-at : goal.returns-then-entries-at
returns-then-entries-at c = search (rules, linked, along)

pub returns : goal.returns
returns c = search (rules, one)
