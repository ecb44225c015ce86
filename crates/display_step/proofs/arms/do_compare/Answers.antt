use Rattle.std.proofs.Common.{rules}
use Rattle.display_step.proofs.Statements.{less-own}
use Rattle.display_step.proofs.arms.do_compare.Goals as goal

pub returns : goal.returns
returns c = search (rules, less-own)
