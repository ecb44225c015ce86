-- What is left from `i` on gives what the whole gives.
use Rattle.std.proofs.Common.{rules, arith}
use Rattle.check_symbols.proofs.Entries.{seeking-hit, seeking-none}
use Rattle.check_symbols.proofs.find.Goals as goal

pub returns-then-e-name : goal.returns-then-e-name
returns-then-e-name c = (search (rules, seeking-hit), omega (arith, c.type_inv.entries c.loop-i.i))

pub returns : goal.returns
returns c = search (rules, seeking-none)
