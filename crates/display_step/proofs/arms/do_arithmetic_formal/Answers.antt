-- By the operation's number.
use Rattle.std.proofs.Common.{rules}
use Rattle.display_step.proofs.Statements.{sum-found, difference-found, less-found}
use Rattle.display_step.proofs.arms.do_arithmetic_formal.Goals as goal

pub returns-then-operation-eq-PLUS : goal.returns-then-operation-eq-PLUS
returns-then-operation-eq-PLUS c = search (rules, sum-found)

pub returns-then-operation-eq-MINUS : goal.returns-then-operation-eq-MINUS
returns-then-operation-eq-MINUS c = search (rules, difference-found)

pub returns : goal.returns
returns c = search (rules, less-found)
