-- The argument is a declared procedure, a formal procedure, or no procedure.
use Rattle.std.proofs.Common.{rules}
use Rattle.search_calls.proofs.Handing.{handed-none, handed-declared, handed-formal}
use Rattle.search_calls.proofs.hand.Goals as goal

pub returns-then-formal_of-eq0 : goal.returns-then-formal_of-eq0
returns-then-formal_of-eq0 c = search (rules, handed-declared)

pub returns-else-formal_of-eq0 : goal.returns-else-formal_of-eq0
returns-else-formal_of-eq0 c = search (rules, handed-formal)

pub returns-else-kind_of-eq-PROCEDURE : goal.returns-else-kind_of-eq-PROCEDURE
returns-else-kind_of-eq-PROCEDURE c = search (rules, handed-none)
