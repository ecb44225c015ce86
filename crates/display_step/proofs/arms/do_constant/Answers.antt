use Rattle.std.proofs.Common.{rules}
use Rattle.display_step.proofs.Statements.{constant-own}
use Rattle.display_step.proofs.arms.do_constant.Goals as goal

pub returns : goal.returns
returns c = search (rules, constant-own)
