-- By what the second name's cell holds, and by whether the label is a formal.
use Rattle.std.proofs.Common.{rules}
use Rattle.display_step.proofs.Statements.{stays-found, goes-direct, through, goes-found}
use Rattle.display_step.proofs.arms.do_branch_formal.Goals as goal

pub returns-then-cells-found_at-eq0 : goal.returns-then-cells-found_at-eq0
returns-then-cells-found_at-eq0 c = search (rules, stays-found)

pub returns-then-formal_of-eq0 : goal.returns-then-formal_of-eq0
returns-then-formal_of-eq0 c = search (rules, goes-direct)

pub do_goto_formal-requires : goal.do_goto_formal-requires
do_goto_formal-requires c = search (rules, through)

pub returns : goal.returns
returns c = search (rules, goes-found)
