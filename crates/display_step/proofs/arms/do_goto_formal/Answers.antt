use Rattle.std.proofs.Common.{rules}
use Rattle.display_step.proofs.Statements.{goto-held}
use Rattle.display_step.proofs.arms.do_goto_formal.Goals as goal

pub returns : goal.returns
returns c = search (rules, goto-held)
