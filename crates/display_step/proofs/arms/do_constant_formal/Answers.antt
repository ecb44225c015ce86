use Rattle.std.proofs.Common.{rules}
use Rattle.display_step.proofs.Statements.{constant-found}
use Rattle.display_step.proofs.arms.do_constant_formal.Goals as goal

pub returns : goal.returns
returns c = search (rules, constant-found)
