use Rattle.std.proofs.Common.{rules}
use Rattle.display_step.proofs.Statements.{query-found}
use Rattle.display_step.proofs.arms.do_query.Goals as goal

pub returns : goal.returns
returns c = search (rules, query-found)
