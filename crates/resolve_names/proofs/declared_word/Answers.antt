-- A case for each mark.
use Rattle.std.proofs.Common.{rules}
use Rattle.resolve_names.proofs.Declarations.{worded-PR, worded-LB, worded-VR}
use Rattle.resolve_names.proofs.declared_word.Goals as goal

-- PR
pub returns-in-21072 : goal.returns-in-21072
returns-in-21072 c = search (rules, worded-PR)

-- LB
pub returns-in-16972 : goal.returns-in-16972
returns-in-16972 c = search (rules, worded-LB)

pub returns-in_default : goal.returns-in_default
returns-in_default c = search (rules, worded-VR)
