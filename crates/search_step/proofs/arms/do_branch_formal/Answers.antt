-- By what the second name's cell holds.
use Rattle.std.proofs.Common.{rules}
use Rattle.search_step.proofs.Statements.{goes-found, stays-found}
use Rattle.search_step.proofs.arms.do_branch_formal.Goals as goal

pub returns-then-cells-found-eq0 : goal.returns-then-cells-found-eq0
returns-then-cells-found-eq0 c = search (rules, stays-found)

pub returns : goal.returns
returns c = search (rules, goes-found)
