-- 26 for the number of arguments, then for a kind; else the procedure is entered.
use Rattle.std.proofs.Common.{rules}
use Rattle.display_step.proofs.Statements.{number-refused, kinds-refused, called-held}
use Rattle.display_step.proofs.arms.do_call_formal.Goals as goal

pub returns-then-formals_of-count : goal.returns-then-formals_of-count
returns-then-formals_of-count c = search (rules, number-refused)

pub returns-then-not-kinds_agree : goal.returns-then-not-kinds_agree
returns-then-not-kinds_agree c = search (rules, kinds-refused)

pub returns : goal.returns
returns c = search (rules, called-held)
