use Rattle.std.proofs.Common.{rules}
use Rattle.display_step.proofs.Statements.{change-found}
use Rattle.display_step.proofs.arms.do_change.Goals as goal

pub returns : goal.returns
returns c = search (rules, change-found)
