-- The word that the formal stands for is read, the procedure's head compared with the arguments, and the passer read.
use Rattle.std.proofs.Common.{rules}
use Rattle.search_calls.proofs.Calls.{body-there, called-held, formals-there, formal-whole, kinds-refused, kinds-there, number-refused}
use Rattle.search_calls.proofs.do_call_formal.Goals as goal

pub whole-requires : goal.whole-requires
whole-requires c = search (rules, formal-whole)

pub code_at-requires-2 : goal.code_at-requires-2
code_at-requires-2 c = search (rules, body-there)

pub returns-then-formals_of-count : goal.returns-then-formals_of-count
returns-then-formals_of-count c = search (rules, number-refused)

pub overflow_sub-body : goal.overflow_sub-body
overflow_sub-body c = search (rules, formals-there)

pub kinds_agree-requires : goal.kinds_agree-requires
kinds_agree-requires c = (search rules, search (rules, kinds-there))

pub returns-then-not-kinds_agree : goal.returns-then-not-kinds_agree
returns-then-not-kinds_agree c = search (rules, kinds-refused)

pub returns : goal.returns
returns c = search (rules, called-held)
