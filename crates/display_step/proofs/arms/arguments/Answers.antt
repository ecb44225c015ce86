use Rattle.std.proofs.Common.{rules}
use Rattle.display_step.proofs.Statements.{handing-start, cell_below, handing-step, handing-end}
use Rattle.display_step.proofs.arms.arguments.Goals as goal

pub loop-i-init : goal.loop-i-init
loop-i-init c = search (rules, handing-start)

pub handed-requires : goal.handed-requires
handed-requires c = (search rules, search (rules, cell_below))

pub loop-i-preserved : goal.loop-i-preserved
loop-i-preserved c = search (rules, handing-step)

pub returns : goal.returns
returns c = search (rules, handing-end)
