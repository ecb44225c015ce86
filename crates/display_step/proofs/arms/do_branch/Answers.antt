-- By what the second name's cell holds.
use Rattle.std.proofs.Common.{rules}
use Rattle.display_step.proofs.Statements.{stays-own, goes-own}
use Rattle.display_step.proofs.arms.do_branch.Goals as goal

pub returns-then-cells-own_at-eq0 : goal.returns-then-cells-own_at-eq0
returns-then-cells-own_at-eq0 c = search (rules, stays-own)

pub returns : goal.returns
returns c = search (rules, goes-own)
