-- A case for each mark.
use Rattle.std.proofs.Common.{rules}
use Rattle.resolve_statements.proofs.Statements.{emit-by, emit-last}
use Rattle.resolve_statements.proofs.emit.Goals as goal

-- AR
pub returns-in-21057 : goal.returns-in-21057
returns-in-21057 c = search (rules, emit-by)

-- IF
pub returns-in-17993 : goal.returns-in-17993
returns-in-17993 c = search (rules, emit-by)

-- KN
pub returns-in-20043 : goal.returns-in-20043
returns-in-20043 c = search (rules, emit-by)

-- CL
pub returns-in-19523 : goal.returns-in-19523
returns-in-19523 c = search (rules, emit-by)

-- GO
pub returns-in-20295 : goal.returns-in-20295
returns-in-20295 c = search (rules, emit-by)

-- AD
pub returns-in-17473 : goal.returns-in-17473
returns-in-17473 c = search (rules, emit-by)

-- RM
pub returns-in-19794 : goal.returns-in-19794
returns-in-19794 c = search (rules, emit-by)

pub returns-in_default : goal.returns-in_default
returns-in_default c = search (rules, emit-last)
