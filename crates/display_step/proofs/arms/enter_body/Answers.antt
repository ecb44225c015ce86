-- With no activation left, and with one.
use Rattle.std.proofs.Common.{rules}
use Rattle.display_step.proofs.Statements.{none-entered, body-entered}
use Rattle.display_step.proofs.arms.enter_body.Goals as goal

pub returns-then-activations-live : goal.returns-then-activations-live
returns-then-activations-live c = search (rules, none-entered)

pub returns : goal.returns
returns c = search (rules, body-entered)
