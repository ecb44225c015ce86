use Rattle.std.proofs.Common.{rules}
use Rattle.display_step.proofs.Statements.{sum-own}
use Rattle.display_step.proofs.arms.do_subtract.Goals as goal

pub returns : goal.returns
returns c = search (rules, sum-own)
