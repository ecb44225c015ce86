use Rattle.std.proofs.Common.{rules}
use Rattle.display_step.proofs.Statements.{called-own}
use Rattle.display_step.proofs.arms.do_call.Goals as goal

pub returns : goal.returns
returns c = search (rules, called-own)
